-- The lists of tests of specs/, said by `&&`, as the functions try them. Assumes nothing.
use Rattle.std.specs.Prelude.{ℕ, Bool, true, false, ◌≡◌, refl, ◌&&◌, [], ◌∷◌, leb, ltb}
use Rattle.wire.specs.declared.Channel.{Channel}
use Rattle.wire.specs.Packet.{longest, packets}
use Rattle.rows.specs.Table.{◌⇒◌else◌, all}
use Rattle.state.specs.Phases.{Gathering, Waiting}
use Rattle.state.specs.declared.State.{State}
use Rattle.state.specs.Order.{channels, gathering_time, known, starts, to_core, message_in_order, phase_in_order, in_order}

two : (a b : Bool) → all (a ∷ b ∷ []) ≡ a && b
unfolding all ◌⇒◌else◌
two true true = refl
two true false = refl
two false b = refl

three : (a b c : Bool) → all (a ∷ b ∷ c ∷ []) ≡ (a && b) && c
unfolding all ◌⇒◌else◌
three true b c = two b c
three false b c = refl

four : (a b c d : Bool) → all (a ∷ b ∷ c ∷ d ∷ []) ≡ ((a && b) && c) && d
unfolding all ◌⇒◌else◌
four true b c d = three b c d
four false b c d = refl

pub message_tests : (given : ℕ) (h : Channel) (command n done : ℕ) → message_in_order given h command n done
    ≡ ((known given h && leb n longest) && ltb done (packets n)) && starts command
unfolding message_in_order
message_tests given h command n done = four _ _ _ _

pub gathering_tests : (given : ℕ) (h : Channel) (command n done left : ℕ) → phase_in_order given (Gathering h command n done left)
    ≡ ((message_in_order given h command n done && leb 1 done) && leb 1 left) && leb left gathering_time
unfolding phase_in_order
gathering_tests given h command n done left = four _ _ _ _

pub waiting_tests : (given : ℕ) (h : Channel) (command n : ℕ) → phase_in_order given (Waiting h command n)
    ≡ (known given h && leb n longest) && to_core command
unfolding phase_in_order
waiting_tests given h command n = three _ _ _

pub state_tests : (s : State) → in_order s ≡ leb s.given channels && phase_in_order s.given s.work.phase
unfolding in_order
state_tests s = two _ _

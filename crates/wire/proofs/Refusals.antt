-- Each refusal has a number of its own, which tells it.
use mathlib.Core.Path.{◌≡◌, refl, sym, ap, ◌∙◌}
use Rattle.std.specs.Prelude.{ℕ, eqb, if◌then◌else◌}
use Rattle.wire.specs.declared.refusal.Refusal.{Refusal}
use Rattle.wire.specs.declared.refusal.Refusal.TheVariants.{PacketLength, ReplyRoom, MessageRoom, WrongPhase, WrongTicket, WrongLength, Invalid, TooLong}
use Rattle.wire.specs.Refusal.{refusal_number}

-- the refusal of a number
pub refusal_in : ℕ → Refusal
refusal_in n =
    if eqb n 1 then PacketLength
    else if eqb n 2 then ReplyRoom
    else if eqb n 3 then MessageRoom
    else if eqb n 4 then WrongPhase
    else if eqb n 5 then WrongTicket
    else if eqb n 6 then WrongLength
    else if eqb n 7 then Invalid
    else TooLong

pub refusal_back : (r : Refusal) → refusal_in (refusal_number r) ≡ r
unfolding refusal_in
refusal_back PacketLength = refl
refusal_back ReplyRoom = refl
refusal_back MessageRoom = refl
refusal_back WrongPhase = refl
refusal_back WrongTicket = refl
refusal_back WrongLength = refl
refusal_back Invalid = refl
refusal_back TooLong = refl

pub one_refusal : (r r' : Refusal) → refusal_number r ≡ refusal_number r' → r ≡ r'
one_refusal r r' e = sym (refusal_back r) ∙ ap refusal_in e ∙ refusal_back r'

-- The phases of a transaction, said by its holder, its command and its size.
use Rattle.std.specs.Prelude.{ℕ}
use Rattle.wire.specs.declared.Channel.{Channel}
use Rattle.state.specs.declared.Phase.{Phase}
use Rattle.state.specs.declared.Phase.TheVariants as phase

abbrev pub Gathering : Channel → ℕ → ℕ → ℕ → ℕ → Phase
Gathering h command n done left = phase.Gathering (record { holder = h; command = command; size = n }) done left

abbrev pub Waiting : Channel → ℕ → ℕ → Phase
Waiting h command n = phase.Waiting (record { holder = h; command = command; size = n })

abbrev pub Answering : Channel → ℕ → ℕ → ℕ → Phase
Answering h command n done = phase.Answering (record { holder = h; command = command; size = n }) done

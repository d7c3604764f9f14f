-- Each status has a number of its own, which tells it.
use mathlib.Core.Path.{◌≡◌, refl, sym, ap, ◌∙◌}
use Rattle.std.specs.Prelude.{ℕ, eqb, if◌then◌else◌}
use Rattle.command.specs.declared.status.Status.{Status}
use Rattle.command.specs.declared.status.Status.TheVariants.{InvalidCommand, InvalidLength, UnexpectedType, InvalidCbor, MissingParameter, UnsupportedAlgorithm}
use Rattle.command.specs.Status.{status_number}

-- the status of a number
pub status_in : ℕ → Status
status_in n =
    if eqb n 0x01 then InvalidCommand
    else if eqb n 0x03 then InvalidLength
    else if eqb n 0x11 then UnexpectedType
    else if eqb n 0x12 then InvalidCbor
    else if eqb n 0x14 then MissingParameter
    else UnsupportedAlgorithm

pub status_back : (s : Status) → status_in (status_number s) ≡ s
unfolding status_in
status_back InvalidCommand = refl
status_back InvalidLength = refl
status_back UnexpectedType = refl
status_back InvalidCbor = refl
status_back MissingParameter = refl
status_back UnsupportedAlgorithm = refl

pub one_status : (s s' : Status) → status_number s ≡ status_number s' → s ≡ s'
one_status s s' e = sym (status_back s) ∙ ap status_in e ∙ status_back s'

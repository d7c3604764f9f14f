-- Each error code has a number of its own, which tells it.
use Prim.Native.Nat.{ℕ}
use mathlib.Core.Path.{◌≡◌, refl, sym, ap, ◌∙◌}
use lib.Dec.{eqb}
use Rattle.rows.specs.Table.{◌⇒◌else◌}
use Rattle.table.specs.declared.codes.ErrorCode.{ErrorCode}
use Rattle.table.specs.declared.codes.ErrorCode.TheVariants.{InvalidCommand, InvalidLength, InvalidNumber, TimeOut, Busy, InvalidChannel, Other}
use Rattle.table.specs.Codes.{code_number}

-- the code of a number
pub code_in : ℕ → ErrorCode
code_in n =
    eqb n 0x01 ⇒ InvalidCommand else
    eqb n 0x03 ⇒ InvalidLength else
    eqb n 0x04 ⇒ InvalidNumber else
    eqb n 0x05 ⇒ TimeOut else
    eqb n 0x06 ⇒ Busy else
    eqb n 0x0B ⇒ InvalidChannel else
    Other

pub code_back : (c : ErrorCode) → code_in (code_number c) ≡ c
unfolding code_in ◌⇒◌else◌
code_back InvalidCommand = refl
code_back InvalidLength = refl
code_back InvalidNumber = refl
code_back TimeOut = refl
code_back Busy = refl
code_back InvalidChannel = refl
code_back Other = refl

pub one_code : (c c' : ErrorCode) → code_number c ≡ code_number c' → c ≡ c'
one_code c c' e = sym (code_back c) ∙ ap code_in e ∙ code_back c'

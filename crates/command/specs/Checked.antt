-- What the checking call answers, and how the code's answer says it.
use Rattle.std.specs.Prelude.{ℕ, Result, Ok, Err}
use Rattle.command.specs.declared.Fault.{Fault as CommandFault}
use Rattle.command.specs.declared.Good.{Good as GoodCommand}
use Rattle.command.specs.declared.Good.TheVariants.{Info as GoodInfo, Hash}
use Rattle.command.specs.Status.{status_number}

-- a good GetInfo; another good command, with the place where its hash begins; or a refused one, with its status and the place of its fault
pub data Checked : Type 0 where
  Info : Checked
  Good : (at : ℕ) → Checked
  Refused : (status place : ℕ) → Checked

abbrev pub checked_as : Result GoodCommand CommandFault → Checked
checked_as (Ok GoodInfo) = Info
checked_as (Ok (Hash at)) = Good at
checked_as (Err f) = Refused (status_number f.status) f.place

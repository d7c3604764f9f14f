-- What a value of a map is, and how the code's answer says it.
use Rattle.std.specs.Prelude.{ℕ, Result, Ok, Err}
use Rattle.command.specs.declared.Fault.{Fault}
use Rattle.command.specs.declared.algorithms.Met.{Met}
use Rattle.command.specs.declared.algorithms.Met.TheVariants.{Fine as MetFine, Ours as MetOurs}
use Rattle.command.specs.Status.{status_number}

-- wrong, with its status and its place; fine; or fine and an algorithm of ours
pub data Value : Type 0 where
  Wrong : (status place : ℕ) → Value
  Fine : Value
  Ours : Value

abbrev pub value_as : Result Met Fault → Value
value_as (Ok MetFine) = Fine
value_as (Ok MetOurs) = Ours
value_as (Err f) = Wrong (status_number f.status) f.place

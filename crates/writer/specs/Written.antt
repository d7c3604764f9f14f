-- What a call of the writer answers.
use Rattle.std.specs.Prelude.{ℕ, Result, Ok, Err}
use Rattle.command.specs.Status.{status_number}
use Rattle.writer.specs.declared.Unwritten.{Unwritten}
use Rattle.writer.specs.declared.Unwritten.TheVariants.{Status, TooLong}

-- how many bytes were written, or why none was: a status, or the refusal of a result that is too long
pub data Written : Type 0 where
  Bytes : ℕ → Written
  Refused : ℕ → Written

abbrev pub too_long : ℕ
too_long = 8

-- the number of each refusal
abbrev pub unwritten_number : Unwritten → ℕ
unwritten_number (Status s) = status_number s
unwritten_number TooLong = too_long

-- the code's result, as an answer
abbrev pub written_as : Result ℕ Unwritten → Written
written_as (Ok n) = Bytes n
written_as (Err e) = Refused (unwritten_number e)

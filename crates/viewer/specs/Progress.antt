-- What a call with a packet answers.
use Rattle.std.specs.Prelude.{ℕ, Result, Ok, Err}
use Rattle.wire.specs.declared.refusal.Refusal.{Refusal}
use Rattle.wire.specs.Refusal.{refusal_number}
use Rattle.viewer.specs.declared.gathering.Progress.{Progress as Made}
use Rattle.viewer.specs.declared.gathering.Progress.TheVariants as made

-- more is to come; the whole reply, of so many bytes; an end with a code; or the call is turned away
pub data Progress : Type 0 where
  More : Progress
  Whole : (size : ℕ) → Progress
  Ended : (code : ℕ) → Progress
  Refused : (number : ℕ) → Progress

-- as the code tells it
abbrev pub progress_as : Result Made Refusal → Progress
progress_as (Ok made.More) = More
progress_as (Ok (made.Whole n)) = Whole n
progress_as (Ok (made.Ended code)) = Ended code
progress_as (Err why) = Refused (refusal_number why)

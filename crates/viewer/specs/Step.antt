-- What a reader shows at a place of a reply.
use Rattle.std.specs.Prelude.{ℕ, Option, Some, None, Result, Ok, Err}
use Rattle.viewer.specs.declared.reading.Entry.{Entry as Made}
use Rattle.viewer.specs.declared.reading.NoEntry.{NoEntry as Unreadable}

-- an entry, whose key ends where its value begins; the end of the reply; or bytes that are no entry
pub data Step : Type 0 where
  Entry : (value end : ℕ) → Step
  End : Step
  NoEntry : Step

-- as the code tells it
abbrev pub step_as : Result (Option Made) Unreadable → Step
step_as (Ok (Some e)) = Entry e.value e.end
step_as (Ok None) = End
step_as (Err why) = NoEntry

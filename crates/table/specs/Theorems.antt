-- What is proved of the table's verdicts.
use Rattle.std.specs.Prelude.{◌≡◌}
use Rattle.table.specs.declared.Verdict.{Verdict as Decided}
use Rattle.table.specs.Opening.{verdict_as}

-- The reading of the code's verdict loses nothing: one verdict is read as each.
abbrev pub OneReading : Type 0
OneReading = (v v' : Decided) → verdict_as v ≡ verdict_as v' → v ≡ v'

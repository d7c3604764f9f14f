-- The bytes so far are no spaces.
use Rattle.std.proofs.Common.{◌≡◌}
use Rattle.script.specs.Words.{NoSpace}
use Rattle.script.proofs.words.space_in.Given as goal

abbrev pub invariant-near : goal.invariant-near
invariant-near l = (l.bytes ≡ l.text) × NoSpace l.text l.at

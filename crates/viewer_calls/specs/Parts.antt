-- The parts that a host lends, one for each key, and the number that tells which of them are there.
use Rattle.std.specs.Prelude.{ℕ, ◌/◌, ◌%◌, ◌^◌, List, [], ◌∷◌, eqb, if◌then◌else◌}
use Rattle.std.proofs.Math.Option.{Option, none, some}
use Rattle.std.specs.Borrow.{Bor}
use Rattle.writer.specs.Parts.{Parts}

-- lent parts: the lowest bit of `given` tells whether the first is there, the next bit of the next one, and so on
unfoldable pub parts_from : ℕ → List (Bor (List ℕ)) → Parts
parts_from given [] = []
parts_from given (p ∷ ps) = (if eqb (given % 2) 1 then some p.now else none) ∷ parts_from (given / 2) ps

-- bit k of `given` is for key k, so bit 0 is for none
unfoldable pub parts_of : ℕ → List (Bor (List ℕ)) → Parts
parts_of given ps = parts_from (given / 2) ps

-- what its bit tells of the part of the key k
unfoldable pub part_if : ℕ → ℕ → List ℕ → Option (List ℕ)
part_if given k p = if eqb (given / 2 ^ k % 2) 1 then some p else none

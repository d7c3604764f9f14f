-- What is left of the map from the loop's place on holds the key just where the whole map does; each turn takes one entry off.
use Prim.Native.Nat.{◌-◌}
use mathlib.Core.Path.{◌≡◌}
use Rattle.cbor.specs.Item.{item_of}
use Rattle.command.specs.Map.{map_at, value_of}
use Rattle.command.proofs.Runs.{MapLeft}
use Rattle.command.proofs.walk.Item.find.Given as goal

abbrev pub invariant-loop-place : goal.invariant-loop-place
invariant-loop-place g l = MapLeft (item_of g.row.INNER) l.self.msg.now l.self.end l.place (λ es. value_of l.key (map_at g.row.INNER l.self.msg.now l.self.at) ≡ value_of l.key es)

abbrev pub decreases-loop-place : goal.decreases-loop-place
decreases-loop-place g l = l.self.end - l.place

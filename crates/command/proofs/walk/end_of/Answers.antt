-- The definition's cases.
use mathlib.Core.Path.{ap}
use native.Mathlib.Omega.{arith}
use Rattle.cbor.specs.Item.{item_as, counted_from}
use Rattle.command.proofs.walk.end_of.Goals as goal

pub overflow_add-result : goal.overflow_add-result
overflow_add-result c = omega (arith, c.requires _ (ap item_as c.in-Ok.is))

pub returns-in-Ok : goal.returns-in-Ok
unfolding counted_from
returns-in-Ok c = rw c.in-Ok.is

pub returns-in-Err : goal.returns-in-Err
unfolding counted_from
returns-in-Err c = rw c.in-Err.is

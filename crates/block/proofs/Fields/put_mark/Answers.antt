-- `put_mark` meets its contract: four stores.
use native.Mathlib.Omega.{arith}
use Rattle.wire.proofs.Copies.{four_front}
use Rattle.block.proofs.Fields.put_mark.Goals as goal

pub returns : goal.returns
returns c = four_front c.args.b.now _ _ _ _ (omega arith)

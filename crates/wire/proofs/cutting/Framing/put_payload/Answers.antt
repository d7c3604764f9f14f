-- `put_payload` meets its contract: what the packet carries fits behind what the packets before it brought.
use native.Mathlib.Omega.{arith}
use lib.ListN.{length-take}
use Rattle.wire.proofs.Cuts.{carries_within}
use Rattle.wire.proofs.cutting.Framing.put_payload.Goals as goal

pub copy_at-requires : goal.copy_at-requires
copy_at-requires c =
    let a = c.args in
    simp length-take (omega (arith, carries_within a.self.first a.self.later a.n a.k (omega arith)))

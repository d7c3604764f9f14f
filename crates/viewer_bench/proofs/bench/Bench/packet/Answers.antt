-- What is told of the reply lies within the message buffer, which keeps its length.
use Rattle.viewer_bench.proofs.Bounds.{taken_within}
use Rattle.viewer_bench.proofs.bench.Bench.packet.Goals as goal

pub tell-requires : goal.tell-requires
tell-requires c = taken_within _ _ _ _ _ c.take-progress.ensures

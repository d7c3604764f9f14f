-- What was written lies within the buffer that was lent.
use Rattle.std.proofs.Common.{arith}
use Rattle.viewer_bench.proofs.Bounds.{written_within}
use Rattle.viewer_bench.proofs.writing.put.Goals as goal

pub returns-in-MakeCredential : goal.returns-in-MakeCredential
returns-in-MakeCredential c = written_within _ _ _ _ _ c.make_credential.ensures (omega arith)

pub returns-in-GetAssertion : goal.returns-in-GetAssertion
returns-in-GetAssertion c = written_within _ _ _ _ _ c.get_assertion.ensures (omega arith)

-- Each line keeps what every answer keeps, and the error of a write that failed before.
use Rattle.std.proofs.Common.{◌≡◌, IsErr}
use Rattle.script.proofs.serving.answer_lines.Given as goal

abbrev pub invariant-lines : goal.invariant-lines
invariant-lines g l = g.P.Protocol.kept l.protocol × (IsErr l.initial.output.written → l.output.written ≡ l.initial.output.written)

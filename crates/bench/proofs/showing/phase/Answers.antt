-- What is behind the text that stood there: the phase's name, its transaction and its numbers.
use Rattle.std.proofs.Common.{rules, refl, string_bytes, arith}
use Rattle.std.specs.Prelude.{codes}
use Rattle.bench.proofs.Texts.{one_number, two_numbers, phase_bound}
use Rattle.bench.proofs.showing.phase.Goals as goal

pub returns-in_ok-transaction-in-Gathering-clause-bound : goal.returns-in_ok-transaction-in-Gathering-clause-bound
returns-in_ok-transaction-in-Gathering-clause-bound c =
    phase_bound c.write-in-Gathering-2.result (string_bytes c.args.answer.now) (codes " gathering ") _ _ _ _ refl (two_numbers c.in-Gathering.done c.in-Gathering.left (search rules) (search rules))
    c.in_ok-write-in-Gathering.ensures.bytes c.in_ok-transaction-in-Gathering.ensures.bound c.write-in-Gathering-2.ensures.bytes

pub returns-in_ok-transaction-in-Answering-clause-bound : goal.returns-in_ok-transaction-in-Answering-clause-bound
returns-in_ok-transaction-in-Answering-clause-bound c =
    let n = one_number c.in-Answering.done (search rules) in
    phase_bound c.write-in-Answering-2.result (string_bytes c.args.answer.now) (codes " answering ") _ _ _ _ refl (omega (arith, n))
    c.in_ok-write-in-Answering.ensures.bytes c.in_ok-transaction-in-Answering.ensures.bound c.write-in-Answering-2.ensures.bytes

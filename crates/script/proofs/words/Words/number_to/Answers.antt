use Rattle.std.proofs.Common.{rules}
use Rattle.script.proofs.Numbers.{refused}
use Rattle.script.proofs.words.Words.number_to.Goals as goal

pub returns-in_err-n-clause-number : goal.returns-in_err-n-clause-number
returns-in_err-n-clause-number c =
    let same = refused c.args.most c.args.self.now _ c.ranges.most.fits c.in_err-n.ensures.number in
    search rules

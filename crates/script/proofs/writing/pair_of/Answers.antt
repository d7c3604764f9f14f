use Rattle.std.proofs.Common.{◌∙◌}
use Rattle.script.proofs.Digits.{pair_is}
use Rattle.script.proofs.writing.pair_of.Goals as goal

pub returns : goal.returns
returns c = c.to_le_bytes.ensures ∙ pair_is c.args.byte c.ranges.byte.fits

-- A value that was found lies within the message, so the place after its head fits.
use Rattle.std.proofs.Common.{sym, ◌∙◌, arith}
use Rattle.command.proofs.Runs.{map_value_read, item_fits}
use Rattle.command.proofs.parameters.Canonical.shown.Goals as goal

pub overflow_add-result : goal.overflow_add-result
overflow_add-result c =
    let s = c.args.self.msg.now in
    let m = c.args.self.one_map in
    let v = map_value_read 3 s 1 _ m.0 m.1 _ _ (sym c.value_of.ensures ∙ c.in-Some.is) in
    omega (arith, v.fits, (item_fits 3 s _ _ v.value).0)

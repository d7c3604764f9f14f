-- `write` meets its contract: what the parts come to is what the definition asks of the whole command.
use mathlib.Core.Path.{◌≡◌, sym, ap, ◌∙◌}
use Rattle.std.specs.Prelude.{option_map}
use Rattle.command.specs.declared.status.Status.TheVariants.{InvalidCbor}
use Rattle.writer.specs.declared.Unwritten.TheVariants.{Status}
use Rattle.writer.specs.Sums.{sum_as}
use Rattle.writer.proofs.Results.{writes_broken, writes_nothing, put_fits, writes_bytes, refusal_told}
use Rattle.writer.proofs.Draft.write.Goals as goal

pub returns-in_err-s : goal.returns-in_err-s
returns-in_err-s c =
    let d = c.args.self in
    let none_is = c.in_err-s.ensures.ok_part in
    let told = rw none_is at c.in_err-s.ensures.value in
    let status : c.in_err-s.field-0.0 ≡ Status InvalidCbor = cc in
    rw (refusal_told _ _ c.from_residual.ensures.1, status)
    (writes_broken d.command d.parts.now c.args.out.now d.few (sym c.add_all.ensures ∙ ap (option_map sum_as) none_is))

pub returns-in_err-n : goal.returns-in_err-n
returns-in_err-n c =
    let d = c.args.self in
    let sum = sym c.add_all.ensures ∙ ap (option_map sum_as) c.in_ok-s.ensures.ok_part in
    rw (refusal_told _ _ c.from_residual-in_err-n.ensures.1)
    (writes_nothing d.command d.parts.now c.args.out.now d.few (sum_as c.in_ok-s.s) sum _ c.in_err-n.ensures)

pub put_command-requires : goal.put_command-requires
put_command-requires c =
    let d = c.args.self in
    let sum = sym c.add_all.ensures ∙ ap (option_map sum_as) c.in_ok-s.ensures.ok_part in
    put_fits d.command d.parts.now c.args.out.now d.few (sum_as c.in_ok-s.s) sum c.in_ok-n.n c.in_ok-n.ensures

pub returns : goal.returns
returns c =
    let d = c.args.self in
    let sum = sym c.add_all.ensures ∙ ap (option_map sum_as) c.in_ok-s.ensures.ok_part in
    writes_bytes d.command d.parts.now c.args.out.now d.few (sum_as c.in_ok-s.s) sum c.in_ok-n.n c.in_ok-n.ensures _ c.put_command.ensures

-- `add_all` meets its contract: what is left of the parts, added to what they have come to, is the whole.
use Prim.Native.Nat.{◌+◌}
use mathlib.Core.Path.{sym, ap, ◌∙◌}
use native.Mathlib.Omega.{arith}
use lib.ListN.{drop}
use Rattle.std.specs.Prelude.{Option, option_map, option_and_then}
use Rattle.writer.specs.Parts.{parts_in}
use Rattle.writer.specs.Sums.{Sum, sum_as, sum_of}
use Rattle.writer.specs.declared.Sum.{Sum as Found}
use Rattle.writer.proofs.Sums.{sum_given, sum_absent, with_count, with_size}
use Rattle.writer.proofs.Draft.add_all.Goals.{in-Some+in_ok-s, in_default}
use Rattle.writer.proofs.Draft.add_all.Goals as goal

pub loop-i-preserved : goal.loop-i-preserved
loop-i-preserved c =
    let d = c.args.self in
    let ps = d.parts.now in
    let l = c.loop-i in
    let t = c.loop-i-test.true in
    let after = λ (x : Sum). sum_of d.command (l.i + 1 + 1) (parts_in (drop (l.i + 1) ps)) x in
    elim c.match-part.branch [
      | in-Some+in_ok-s b ↦ let n = sym b.add.ensures ∙ ap (option_map sum_as) b.in_ok-s.was in (
        ap (λ (x : Found). after (sum_as x)) b.s-is ∙ sym (sum_given d.command ps l.i (sum_as l.s) t _ b.in-Some.is ∙ ap (λ (o : Option Sum). option_and_then after o) n) ∙ l.invariant.0,
        omega (arith, ap (λ (x : Found). x.count) b.s-is, with_count d.command (l.i + 1) (sum_as l.s) _ (sum_as b.in_ok-s.s) n, l.invariant.1),
        omega (arith, ap (λ (x : Found). x.size) b.s-is, with_size d.command (l.i + 1) (sum_as l.s) _ (sum_as b.in_ok-s.s) n),
      )
      | in_default b ↦ (
        ap (λ (x : Found). after (sum_as x)) b.s-is ∙ sym (sum_absent d.command ps l.i (sum_as l.s) t b.in_default.is) ∙ l.invariant.0,
        omega (arith, ap (λ (x : Found). x.count) b.s-is, l.invariant.1),
        omega (arith, ap (λ (x : Found). x.size) b.s-is, l.invariant.2),
      )
    ]

pub returns-in_err-s : goal.returns-in_err-s
returns-in_err-s c =
    let d = c.args.self in
    let ps = d.parts.now in
    let l = c.loop-i in
    let after = λ (x : Sum). sum_of d.command (l.i + 1 + 1) (parts_in (drop (l.i + 1) ps)) x in
    let n = sym c.add.ensures ∙ ap (option_map sum_as) c.in_err-s.was in
    let all = sum_given d.command ps l.i (sum_as l.s) c.loop-i-test.true _ c.in-Some.is ∙ ap (λ (o : Option Sum). option_and_then after o) n in
    ap (option_map sum_as) c.from_residual.ensures ∙ sym (sym l.invariant.0 ∙ all)

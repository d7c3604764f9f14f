-- `put_entries` meets its contract: what is left of the entries, written from the place reached, is the whole.
use Prim.Native.Nat.{ℕ, ◌+◌}
use mathlib.Core.Path.{sym, ap, ◌∙◌}
use mathlib.Core.List.{List, ◌∷◌}
use native.Mathlib.Omega.{arith}
use lib.ListN.{length}
use Rattle.wire.specs.Copying.{overwrite}
use Rattle.wire.proofs.Copies.{overwrite_length}
use Rattle.writer.proofs.Entries.{left, left_given, left_absent, entry_then, entry_size}
use Rattle.writer.proofs.Draft.put_entries.Goals.{in-Some, in_default}
use Rattle.writer.proofs.Draft.put_entries.Goals as goal

pub put-at-requires : goal.put-at-requires
put-at-requires c =
    let l = c.loop-i in
    let ps = c.args.self.parts.now in
    let e = left_given ps l.i c.loop-i-test.true _ c.in-Some.is in
    omega (arith, l.invariant.1, entry_size (l.i + 1) c.in-Some.part.now (left ps (l.i + 1)) (left ps l.i) e l.at l.out)

pub loop-i-preserved : goal.loop-i-preserved
loop-i-preserved c =
    let l = c.loop-i in
    let ps = c.args.self.parts.now in
    let rest = left ps (l.i + 1) in
    let all = left ps l.i in
    let t = c.loop-i-test.true in
    elim c.match-part.branch [
      | in-Some b ↦
          let p = b.in-Some.part.now in
          let e = left_given ps l.i t _ b.in-Some.is in
          let at = b.at-is ∙ b.put-at.ensures.0 in
          let out = b.out-is ∙ b.put-at.ensures.1 in
          let n = entry_size (l.i + 1) p rest all e l.at l.out in
          let size = overwrite_length l.at ((l.i + 1) ∷ p) l.out (omega (arith, l.invariant.1, n)) in (
            ap (λ (x : List ℕ). overwrite c.match-part.at rest x) out
                ∙ ap (λ (m : ℕ). overwrite m rest (overwrite l.at ((l.i + 1) ∷ p) l.out)) at
                ∙ entry_then (l.i + 1) p rest all e l.at l.out (omega (arith, l.invariant.1))
                ∙ l.invariant.0,
            omega (arith, at, ap length out, size, n, l.invariant.1),
            ap length out ∙ size ∙ l.invariant.2,
          )
      | in_default b ↦
          let e = left_absent ps l.i t b.in_default.is in (
            ap (λ (x : List ℕ). overwrite c.match-part.at rest x) b.out-is
                ∙ ap (λ (m : ℕ). overwrite m rest l.out) b.at-is
                ∙ ap (λ (x : List ℕ). overwrite l.at x l.out) (sym e)
                ∙ l.invariant.0,
            omega (arith, l.invariant.1, ap length e, b.at-is, ap length b.out-is),
            ap length b.out-is ∙ l.invariant.2,
          )
    ]

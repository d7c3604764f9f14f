-- `add_all` meets its contract: what is left of the parts, added to what they have come to, is the whole.
use Prim.Native.Nat.{◌+◌, ◌≤◌}
use mathlib.Core.Path.{◌≡◌}
use lib.ListN.{drop}
use Rattle.writer.specs.Parts.{parts_in}
use Rattle.writer.specs.Sums.{most, sum_as, start, sum_of}
use Rattle.writer.proofs.Draft.add_all.Given as goal

abbrev pub invariant-loop-i : goal.invariant-loop-i
invariant-loop-i l =
    let parts = l.self.parts.now in
    (sum_of l.self.command (l.i + 1) (parts_in (drop l.i parts)) (sum_as l.s) ≡ sum_of l.self.command 1 (parts_in parts) start) × (l.s.count ≤ l.i) × (l.s.size ≤ most)

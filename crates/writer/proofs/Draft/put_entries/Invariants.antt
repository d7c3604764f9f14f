-- `put_entries` meets its contract: what is left of the entries, written from the place reached, is the whole.
use Prim.Native.Nat.{◌+◌, ◌≤◌}
use mathlib.Core.Path.{◌≡◌}
use lib.ListN.{length}
use Rattle.wire.specs.Copying.{overwrite}
use Rattle.writer.specs.Parts.{parts_in, entries_from}
use Rattle.writer.proofs.Entries.{left}
use Rattle.writer.proofs.Draft.put_entries.Given as goal

abbrev pub invariant-loop-i : goal.invariant-loop-i
invariant-loop-i l =
    let parts = l.self.parts.now in
    (overwrite l.at (left parts l.i) l.out ≡ overwrite 2 (entries_from 1 (parts_in parts)) l.initial.out)
    × (l.at + length (left parts l.i) ≤ length l.out) × (length l.out ≡ length l.initial.out)

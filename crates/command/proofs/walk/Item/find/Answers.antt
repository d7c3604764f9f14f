-- What is left of the map from the loop's place on holds the key just where the whole map does; each turn takes one entry off.
use Prim.Native.Nat.{suc}
use mathlib.Core.Path.{refl, sym, ◌∙◌}
use native.Mathlib.Omega.{arith}
use Rattle.cbor.specs.Item.{key_of, item_of}
use Rattle.cbor.proofs.Items.{found_within, key_within, item_within}
use Rattle.command.specs.Map.{value_of}
use Rattle.command.proofs.Same.{same, value_same, value_differs}
use Rattle.command.proofs.Runs.{end_read, map_start, map_step, map_done, map_next, map_again, item_fits}
use Rattle.command.proofs.walk.Item.find.Goals as goal

pub inside-place-requires : goal.inside-place-requires
inside-place-requires g c =
    let a = c.args.self in
    let w = item_fits (suc g.row.INNER) a.msg.now a.at a.end a.read in omega (arith, w.0, w.1)

pub loop-place-init : goal.loop-place-init
loop-place-init g c =
    let a = c.args.self in
    map_start g.row.INNER a.msg.now a.at a.end _ a.read c.requires c.inside-place.ensures _ refl

pub slice_bounds-read_key-count : goal.slice_bounds-read_key-count
slice_bounds-read_key-count g c =
    let a = c.args.self in
    omega (arith, (item_fits (suc g.row.INNER) a.msg.now a.at a.end a.read).1, c.loop-place-test.true)

pub slice_bounds-read_key-start : goal.slice_bounds-read_key-start
slice_bounds-read_key-start g c =
    let a = c.args.self in
    omega (arith, (item_fits (suc g.row.INNER) a.msg.now a.at a.end a.read).1, c.loop-place-test.true)

pub end_of-mid-requires : goal.end_of-mid-requires
end_of-mid-requires g c = found_within key_of c.args.self.msg.now c.loop-place.place c.read_key.ensures key_within

pub slice_bounds-eq-count : goal.slice_bounds-eq-count
slice_bounds-eq-count g c =
    let a = c.args.self in
    let s = a.msg.now in
    let mid = end_read key_of s c.loop-place.place c.read_key.ensures c.end_of-mid.ensures in
    let w = map_step (item_of g.row.INNER) (item_within g.row.INNER) s a.end _ _ _ c.loop-place.invariant c.loop-place-test.true mid in
    omega (arith, w.past)

pub slice_bounds-eq-start : goal.slice_bounds-eq-start
slice_bounds-eq-start g c =
    let a = c.args.self in
    let s = a.msg.now in
    let mid = end_read key_of s c.loop-place.place c.read_key.ensures c.end_of-mid.ensures in
    let w = map_step (item_of g.row.INNER) (item_within g.row.INNER) s a.end _ _ _ c.loop-place.invariant c.loop-place-test.true mid in
    omega (arith, w.past)

pub slice_bounds-eq-end : goal.slice_bounds-eq-end
slice_bounds-eq-end g c =
    let a = c.args.self in
    let s = a.msg.now in
    let mid = end_read key_of s c.loop-place.place c.read_key.ensures c.end_of-mid.ensures in
    let w = map_step (item_of g.row.INNER) (item_within g.row.INNER) s a.end _ _ _ c.loop-place.invariant c.loop-place-test.true mid in
    omega (arith, w.on, w.fits, (item_fits (suc g.row.INNER) s a.at a.end a.read).1)

pub returns-then-eq : goal.returns-then-eq
returns-then-eq g c =
    let a = c.args.self in
    let s = a.msg.now in
    let mid = end_read key_of s c.loop-place.place c.read_key.ensures c.end_of-mid.ensures in
    let w = map_step (item_of g.row.INNER) (item_within g.row.INNER) s a.end _ _ _ c.loop-place.invariant c.loop-place-test.true mid in
    sym (w.left.holds ∙ value_same _ _ _ _ (sym (same _ _) ∙ sym c.eq.ensures ∙ c.if-eq.true))

pub item_end-place-requires : goal.item_end-place-requires
item_end-place-requires g c =
    let a = c.args.self in
    let s = a.msg.now in
    let mid = end_read key_of s c.loop-place.place c.read_key.ensures c.end_of-mid.ensures in
    let w = map_step (item_of g.row.INNER) (item_within g.row.INNER) s a.end _ _ _ c.loop-place.invariant c.loop-place-test.true mid in
    omega (arith, w.on, w.fits, (item_fits (suc g.row.INNER) s a.at a.end a.read).1)

pub loop-place-smaller : goal.loop-place-smaller
loop-place-smaller g c =
    let a = c.args.self in
    let s = a.msg.now in
    let mid = end_read key_of s c.loop-place.place c.read_key.ensures c.end_of-mid.ensures in
    let w = map_step (item_of g.row.INNER) (item_within g.row.INNER) s a.end _ _ _ c.loop-place.invariant c.loop-place-test.true mid in
    omega (arith, map_next _ _ _ _ _ _ w _ c.item_end-place.ensures, w.past, w.on, w.fits)

pub loop-place-preserved : goal.loop-place-preserved
loop-place-preserved g c =
    let a = c.args.self in
    let s = a.msg.now in
    let mid = end_read key_of s c.loop-place.place c.read_key.ensures c.end_of-mid.ensures in
    let w = map_step (item_of g.row.INNER) (item_within g.row.INNER) s a.end _ _ _ c.loop-place.invariant c.loop-place-test.true mid in
    map_again _ _ _ _ _ _ w _ c.item_end-place.ensures _ (λ es e. e ∙ value_differs _ _ _ es (sym (same _ _) ∙ sym c.eq.ensures ∙ c.if-eq.false))

pub returns : goal.returns
unfolding value_of
returns g c =
    let a = c.args.self in
    sym (map_done (item_of g.row.INNER) (item_within g.row.INNER) a.msg.now a.end _ _ c.loop-place.invariant c.loop-place-test.false)

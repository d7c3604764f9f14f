use Rattle.std.proofs.Common.{slice_index, arith, ap, sym, subst, ◌∙◌}
use Rattle.std.specs.Str.{IsUtf8}
use Rattle.script.proofs.Digits.{digits_are_text, pair_more, no_more}
use Rattle.script.proofs.writing.digits_of.Goals as goal

pub bytes-preserved : goal.bytes-preserved
bytes-preserved c =
    let first = c.push_reserved.ensures in
    let second = c.push_reserved-in-bytes.ensures in
    let pair = c.pair_of-pair.ensures in
    record {
      room = (omega (arith, first.len, second.len), omega (arith, first.capacity, second.capacity));
      written =
          rw (second.items, first.items)
          (pair_more c.args.bytes.now c.bytes.digits.items c.bytes.i _ _ (omega arith) (ap (λ l. slice_index l 0) pair) (ap (λ l. slice_index l 1) pair) c.bytes.invariant.written);
    }

pub unwrap-requires : goal.unwrap-requires
unwrap-requires c =
    let all = no_more _ _ c.bytes.i (omega arith) c.bytes.invariant.written in
    c.from_utf8.ensures.succeeds (subst IsUtf8 (sym all) (digits_are_text c.args.bytes.now))

pub returns : goal.returns
returns c =
    let kept = rw c.unwrap.ensures at c.from_utf8.ensures.ok in
    ap (λ v. v.items) kept ∙ no_more _ _ c.bytes.i (omega arith) c.bytes.invariant.written

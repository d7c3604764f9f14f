use Rattle.std.proofs.Common.{ℕ, List, Option, Some, None, MatchOption, IfSome, slice_index, ◌≡◌, ◌<◌, ◌+◌, length, lit<, arith}
use Rattle.std.specs.Str.{IsUtf8, IsCharBoundary}
use Rattle.std.proofs.lemmas.Str.{IsCharBoundary-after_ascii}
use Rattle.std.proofs.lemmas.Str.Pattern.{find_char}
use Rattle.script.specs.Words.{NoSpace}
use Rattle.script.proofs.words.space_in.Goals as goal

pub returns-then-bytes-at-eq32-clause-cut : goal.returns-then-bytes-at-eq32-clause-cut
returns-then-bytes-at-eq32-clause-cut c =
    let is = rw c.near.invariant.0 at c.if-bytes-at-eq32.true in
    let same = c.as_bytes-bytes.ensures.len in
    IsCharBoundary-after_ascii c.args.text.now c.near.at c.utf8.text (omega arith) (omega (arith, is))

cut : (text : List ℕ) (r : Option ℕ) → IsUtf8 text
    → MatchOption r (NoSpace text (length text)) (λ at. (at < length text) × (slice_index text at ≡ 32) × NoSpace text at)
    → IfSome r (λ at. IsCharBoundary text (at + 1))
cut text (Some at) u m = IsCharBoundary-after_ascii text at u m.0 (omega (arith, m.1))
cut text None u m = tt

pub returns : goal.returns
returns c =
    let first = find_char 32 c.args.text.now c.find.result c.find.ensures.cases (lit< tt) in
    record { first = first; cut = cut c.args.text.now c.find.result c.utf8.text first }

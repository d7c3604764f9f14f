-- A word of digits has no sign, so `parse` refuses it only where its number is too large.
use Rattle.std.proofs.Common.{ℕ, ◌≡◌, ◌^◌, ◌<◌, ◌∷◌, ◌==◌, ◌&&◌, [], List, true, false, drop, Result, Err, cond, refl, sym, ap, subst, arith}
use Rattle.std.specs.Char.{is_ascii_digit}
use Rattle.std.specs.Int.{IsInRange}
use Rattle.std.specs.Str.Parse.{AllDigits, IsNumeral, ParsesUpTo, ParsesUnsigned, ExplainsUnsignedError, HasUnsignedDigitsIfOk, without_leading_plus, digits_value}
use Rattle.std.specs.declared.num.ParseIntError.{ParseIntError}
use Rattle.std.proofs.lemmas.Grind.{common_steps}
use Rattle.std.proofs.lemmas.Str.Parse.{digit_from_value}
use Rattle.script.specs.Words.{FromFirst, ReadsNumber, digits_only}
use Rattle.script.specs.declared.failure.Failure.{Failure}

passes : (c : ℕ) → IsInRange 48 57 c → is_ascii_digit c ≡ true
passes c h = grind (arith, common_steps)

all_pass : (word : List ℕ) → AllDigits 10 word → digits_only word ≡ true
all_pass [] d = refl
all_pass (c ∷ cs) d = let here = passes c (digit_from_value c d.0) in let behind = all_pass cs d.1 in λ i. here i && behind i

no_sign : (word : List ℕ) → AllDigits 10 word → without_leading_plus word ≡ word
no_sign [] d = refl
no_sign (c ∷ cs) d =
    let digit = digit_from_value c d.0 in
    let other : (c == 43) ≡ false = grind (arith, common_steps) in
    ap (λ b. drop (cond b 1 0) (c ∷ cs)) other

-- what `parse` says of a `usize`
abbrev Parsed : List ℕ → Result ℕ ParseIntError → Type 0
Parsed word r = ParsesUnsigned 64 10 word r × ExplainsUnsignedError 10 word r × HasUnsignedDigitsIfOk word r

pub refused : (most : ℕ) (left : List (List ℕ)) (e : Failure) → most < 2 ^ 64 → FromFirst (ReadsNumber Parsed) left (Err e)
    → FromFirst (ParsesUpTo most 10) left (Err e)
refused most [] e fits r = r
refused most (word ∷ rest) e fits r =
    λ is. let failed = r.1 (all_pass word is.0.1) in
    failed.1.0 (subst (λ l. IsNumeral 10 l × (digits_value 10 l < 2 ^ 64)) (sym (no_sign word is.0.1)) (is.0, omega (arith, is.1)))

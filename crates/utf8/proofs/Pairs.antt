-- Two bytes of the table's second row: they leave the text behind them what it was.
use Prim.Native.Nat.{ℕ, ◌≤◌}
use mathlib.Core.Path.{◌≡◌, refl, sym, ◌∙◌}
use mathlib.Core.List.{List, [], ◌∷◌, ◌++◌}
use mathlib.Core.Bool.{Bool, true, false, true≢false, ◌&&◌}
use native.Mathlib.Omega.{arith}
use lib.ListN.{length, get_or}
use lib.Dec.{leb}
use borrow.Author.Tests.{leb-true}
use Rattle.std.specs.Prelude.{if◌then◌else◌}
use Rattle.utf8.specs.Utf8.{Range, ◌to◌, holds, utf8_tail, utf8_char, octets_after, utf8}
use Rattle.utf8.specs.Steps.{fits}
use Rattle.utf8.proofs.Sequences.{row}

-- a byte that a range holds is from its low end to its high one
held : (r : Range) (b : ℕ) → holds r b ≡ true → (r.low ≤ b) × (b ≤ r.high)
held r b e = go (leb r.low b) refl e
  where
    go : (t : Bool) → leb r.low b ≡ t → (if t then leb b r.high else false) ≡ true → (r.low ≤ b) × (b ≤ r.high)
    go true p f = (leb-true _ _ p, leb-true _ _ f)
    go false p f = absurd (true≢false (sym f))

pub pair_left : (x left : List ℕ) → length x ≡ 2 → fits (0xc2 to 0xdf ∷ utf8_tail ∷ []) x ≡ true → utf8 (x ++ left) ≡ utf8 left
unfolding fits utf8 octets_after
pair_left [] left l f = absurd (omega (arith, l))
pair_left (a ∷ []) left l f = absurd (omega (arith, l))
pair_left (a ∷ b ∷ c ∷ x) left l f = absurd (omega (arith, l))
pair_left (a ∷ b ∷ []) left l f = go (holds (0xc2 to 0xdf) a) (holds utf8_tail b) refl refl f
  where
    go : (t u : Bool) → holds (0xc2 to 0xdf) a ≡ t → holds utf8_tail b ≡ u → (if t then (if u then true else false) else false) ≡ true → utf8 (a ∷ b ∷ left) ≡ utf8 left
    go true true p q g =
        let w = held (0xc2 to 0xdf) a p in
        row a false (λ others. octets_after others (b ∷ left)) 1 utf8_char (omega (arith, w.0), w) ∙ rw q refl
    go true false p q g = absurd (true≢false (sym g))
    go false u p q g = absurd (true≢false (sym g))

-- what two tests say of the bytes of a pair, each of its range
pub pair_fits : (x : List ℕ) (t u : Bool) → length x ≡ 2 → t ≡ holds (0xc2 to 0xdf) (get_or x 0 0) → u ≡ holds utf8_tail (get_or x 1 0) → t && u ≡ fits (0xc2 to 0xdf ∷ utf8_tail ∷ []) x
unfolding fits
pair_fits [] t u l p q = absurd (omega (arith, l))
pair_fits (a ∷ []) t u l p q = absurd (omega (arith, l))
pair_fits (a ∷ b ∷ c ∷ x) t u l p q = absurd (omega (arith, l))
pair_fits (a ∷ b ∷ []) t u l p q = rw (sym p, sym q) (go t u)
  where
    go : (t u : Bool) → t && u ≡ (if t then (if u then true else false) else false)
    go true true = refl
    go true false = refl
    go false u = refl

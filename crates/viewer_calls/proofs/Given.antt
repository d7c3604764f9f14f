-- Each key's bit is the lowest of those that are left.
use Prim.Native.Nat.{ℕ, ◌+◌, ◌*◌, ◌/◌, ◌%◌, ◌^◌}
use mathlib.Core.Path.{◌≡◌, refl, sym, ap, ◌∙◌}
use mathlib.Core.List.{List, [], ◌∷◌}
use denote.Ref.{Bor}
use Rattle.std.specs.Prelude.{Option as Optional}
use Rattle.std.proofs.Math.Nat.{div-div-eq-div-mul}
use Rattle.std.proofs.lemmas.Nat.{pow-add}
use Rattle.writer.specs.Parts.{part_in, parts_in}
use Rattle.viewer_calls.specs.Parts.{parts_from, part_if}

pub no_part : (given : ℕ) → parts_in [] ≡ parts_from given []
unfolding parts_in parts_from
no_part given = refl

pub next_part : (given k : ℕ) (r : Optional (Bor (List ℕ))) (p : Bor (List ℕ)) (rs : List (Optional (Bor (List ℕ)))) (ps : List (Bor (List ℕ)))
    → part_in r ≡ part_if given k p.now → parts_in rs ≡ parts_from (given / 2 ^ (k + 1)) ps → parts_in (r ∷ rs) ≡ parts_from (given / 2 ^ k) (p ∷ ps)
unfolding parts_in parts_from part_if
next_part given k r p rs ps e f =
    let halved : given / 2 ^ (k + 1) ≡ given / 2 ^ k / 2 = ap (λ (m : ℕ). given / m) (pow-add 2 k 1) ∙ sym (div-div-eq-div-mul given (2 ^ k) 2) in
    rw (e, f, halved) refl

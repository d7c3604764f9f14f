-- A text is cut at its first space, and the words behind it are left.
use Rattle.std.proofs.Common.{ℕ, ◌≡◌, ◌<◌, ◌≤◌, ◌+◌, ◌∷◌, ◌++◌, [], ◌==◌, List, false, length, take, drop, slice_index, refl, sym, ap, ◌∙◌, take-append-drop, arith}
use Rattle.std.specs.List.{All}
use Rattle.std.proofs.lemmas.List.{drop_more, get_or-take, length-take-le}
use Rattle.std.proofs.lemmas.List.Splits.{slice_split_none, slice_split_at}
use Rattle.std.proofs.lemmas.Grind.{common_steps, get_or_default_zero}
use Rattle.script.specs.Words.{NoSpace, words_of}

no_space : (text : List ℕ) → NoSpace text (length text) → All (λ b. (b == 32) ≡ false) text
no_space text none k d l =
    let other = none k l in
    let same = get_or_default_zero text k d l in
    grind (arith, common_steps)

no_space_before : (text : List ℕ) (n : ℕ) → n ≤ length text → NoSpace text n → NoSpace (take n text) (length (take n text))
no_space_before text n le none k l e =
    let within : k < n = omega (arith, length-take-le n text le) in
    none k within (sym (get_or-take n text k 0 within) ∙ e)

-- one word alone
pub one_word : (text : List ℕ) → NoSpace text (length text) → words_of text ≡ text ∷ []
one_word text none = slice_split_none (λ b. b == 32) text (no_space text none)

-- the first word, and those behind its space
pub first_word : (text : List ℕ) (at : ℕ) → at < length text → slice_index text at ≡ 32 → NoSpace text at
    → words_of text ≡ take at text ∷ words_of (drop (at + 1) text)
first_word text at l is none =
    let behind = drop_more text at 0 l ∙ ap (λ b. b ∷ drop (at + 1) text) is in
    ap words_of (sym (take-append-drop at text) ∙ ap (λ t. take at text ++ t) behind)
    ∙ slice_split_at (λ b. b == 32) (take at text) 32 (drop (at + 1) text) (no_space (take at text) (no_space_before text at (omega arith) none)) refl

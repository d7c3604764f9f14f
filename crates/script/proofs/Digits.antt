-- The digits of bytes: how two are made at once, and that they are text.
use Rattle.std.proofs.Common.{ℕ, ◌≡◌, ◌≤◌, ◌++◌, length, drop, append_assoc, ◌+◌, ◌*◌, ◌/◌, ◌%◌, ◌<◌, ◌∷◌, ◌==◌, ◌&&◌, [], zero, suc, List, Bool, true, inl, inr, nat_lt, bit_and, slice_index, w16, refl, arith}
use Rattle.std.specs.List.{list_all}
use Rattle.std.specs.Int.{to_le_bytes}
use Rattle.std.specs.Str.{IsAscii, IsUtf8}
use Rattle.std.proofs.lemmas.Bool.{and_parts, cases_lt, eqb-true}
use Rattle.std.proofs.lemmas.Str.{IsUtf8-from_ascii}
use Rattle.std.proofs.lemmas.Str.Ascii.{IsAscii-nil, IsAscii-cons}
use Rattle.std.proofs.lemmas.List.{append-nil, drop_all}
use Rattle.hex.specs.Hex.{encode_lower, encode_with, lower_digits}
use Rattle.hex.proofs.HexLemmas.{IsAscii-encode_with}
use Rattle.hex.proofs.Pairs.{encode_with-drop}
use borrow.Author.Tests.{ltb-true}

ascii_from : (bs : List ℕ) → list_all (λ b. nat_lt b 128) bs ≡ true → IsAscii bs
ascii_from [] h = IsAscii-nil
ascii_from (b ∷ bs) h =
    let parts = and_parts (nat_lt b 128) (list_all (λ c. nat_lt c 128) bs) h in
    IsAscii-cons b bs (ltb-true b 128 parts.0) (ascii_from bs parts.1)

pub digits_are_text : (bytes : List ℕ) → IsUtf8 (encode_lower bytes)
digits_are_text bytes = IsUtf8-from_ascii (encode_lower bytes) (IsAscii-encode_with lower_digits bytes (ascii_from lower_digits refl))

-- the number that the code makes of a byte
abbrev halves : ℕ → ℕ
halves byte = byte / 16 + bit_and byte 15 * 256

abbrev pub both : ℕ → ℕ
both byte = halves byte + 12336 + bit_and ((halves byte + 1542) / 16) 257 * 39

-- the test of one byte, and of the first n, which compute
abbrev is_pair : ℕ → Bool
is_pair byte = (both byte % 256 == slice_index lower_digits (byte / 16)) && (both byte / 256 % 256 == slice_index lower_digits (byte % 16))

abbrev all_pairs : ℕ → Bool
all_pairs zero = true
all_pairs (suc n) = is_pair n && all_pairs n

pair_below : (n byte : ℕ) → all_pairs n ≡ true → byte < n → is_pair byte ≡ true
pair_below zero byte h l = absurd (omega arith)
pair_below (suc n) byte h l =
    let parts = and_parts (is_pair n) (all_pairs n) h in
    elim (cases_lt byte n) [
      | inl below ↦ pair_below n byte parts.1 below
      | inr top ↦
          let e : byte ≡ n = omega arith in
          rw e parts.0
    ]

-- it is the two digits
pub pair_is : (byte : ℕ) → byte < 256 → to_le_bytes w16 (both byte) ≡ slice_index lower_digits (byte / 16) ∷ slice_index lower_digits (byte % 16) ∷ []
pair_is byte l =
    let parts = and_parts _ _ (pair_below 256 byte refl l) in
    let high = eqb-true _ _ parts.0 in
    let low = eqb-true _ _ parts.1 in
    λ i. high i ∷ low i ∷ []

-- those of one byte more are behind the ones that were written
pub pair_more : (bytes was : List ℕ) (i high low : ℕ) → i < length bytes → high ≡ slice_index lower_digits (slice_index bytes i / 16)
    → low ≡ slice_index lower_digits (slice_index bytes i % 16) → was ++ encode_lower (drop i bytes) ≡ encode_lower bytes
    → ((was ++ high ∷ []) ++ low ∷ []) ++ encode_lower (drop (i + 1) bytes) ≡ encode_lower bytes
pair_more bytes was i high low l eh el so_far =
    let rest = encode_with-drop lower_digits bytes i l in
    rw (append_assoc, append_assoc, eh, el) (rw rest at so_far)

-- no byte is left
pub no_more : (bytes was : List ℕ) (i : ℕ) → length bytes ≤ i → was ++ encode_lower (drop i bytes) ≡ encode_lower bytes → was ≡ encode_lower bytes
unfolding encode_with
no_more bytes was i l so_far =
    let none = drop_all i bytes l in
    rw (none, append-nil) at so_far

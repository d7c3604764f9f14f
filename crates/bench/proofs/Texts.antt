-- How long the texts of `show` are.
use Rattle.std.proofs.Common.{ℕ, ◌≡◌, ◌+◌, ◌++◌, ◌≤◌, ◌<◌, ◌^◌, List, length, Result, ap, arith, lit<}
use Rattle.std.specs.Prelude.{OnOk, decimal}
use Rattle.std.proofs.lemmas.Fmt.{length-decimal-le}
use Rattle.std.proofs.lemmas.List.{length-append}
use Rattle.std.proofs.lemmas.Result.{on_ok_weaker}
use Rattle.state.specs.declared.Transaction.{Transaction}
use Rattle.bench.specs.Showing.{spaced, transaction_text}

-- a text of at most n bytes behind another
pub short : {T E : Type 0} (r : Result T E) (old new text : List ℕ) (n : ℕ) → length text ≤ n → OnOk r (new ≡ old ++ text) → OnOk r (length new ≤ length old + n)
short r old new text n l h = on_ok_weaker r (λ e. omega (arith, ap length e, length-append old text, l)) h

-- numbers of so many bits
abbrev pub Typed : Transaction → Type 0
Typed t = (t.holder.0 < 2 ^ 32) × (t.command < 2 ^ 8) × (t.size < 2 ^ 64)

pub transaction_short : (t : Transaction) → Typed t → length (transaction_text t) ≤ 35
transaction_short t w =
    let h = length-decimal-le 10 t.holder.0 (lit< tt) (omega (arith, w.0)) (omega (arith, w.0)) in
    let k = length-decimal-le 3 t.command (lit< tt) (omega (arith, w.1)) (omega (arith, w.1)) in
    let n = length-decimal-le 20 t.size (lit< tt) (omega (arith, w.2)) w.2 in
    omega (arith, h, k, n, length-append (decimal t.holder.0) (spaced t.command ++ spaced t.size), length-append (spaced t.command) (spaced t.size))

-- the transaction's text where its numbers are known to be typed
pub transaction_bound : {T E : Type 0} (r : Result T E) (old new : List ℕ) (t : Transaction) → t.holder.0 < 2 ^ 32 → t.command < 2 ^ 8 → t.size < 2 ^ 64 → OnOk r (new ≡ old ++ transaction_text t) → OnOk r (length new ≤ length old + 35)
transaction_bound r old new t a b c h = short r old new (transaction_text t) 35 (transaction_short t (a, b, c)) h

-- the numbers behind a transaction
pub one_number : (n : ℕ) → n < 2 ^ 64 → length (spaced n) ≤ 21
one_number n l = omega (arith, length-decimal-le 20 n (lit< tt) (omega (arith, l)) l)

pub two_numbers : (done left : ℕ) → done < 2 ^ 64 → left < 2 ^ 32 → length (spaced done ++ spaced left) ≤ 32
two_numbers done left d l =
    let k = length-decimal-le 10 left (lit< tt) (omega (arith, l)) (omega (arith, l)) in
    omega (arith, one_number done d, k, length-append (spaced done) (spaced left))

-- a phase that has numbers u behind its transaction: its name s has 11 bytes
pub phase_bound : {T E : Type 0} (r : Result T E) (old s a b new u : List ℕ) → length s ≡ 11 → length u ≤ 32 → a ≡ old ++ s → length b ≤ length a + 35 → OnOk r (new ≡ b ++ u) → OnOk r (length new ≤ length old + 78)
phase_bound r old s a b new u x n e y h = on_ok_weaker r (λ f. omega (arith, f, ap length e, length-append old s, x, y)) (short r b new u 32 n h)

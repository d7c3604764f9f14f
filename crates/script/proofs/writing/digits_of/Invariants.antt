-- The digits of the bytes so far are written, and there is room for the others.
use Rattle.std.proofs.Common.{◌≡◌, ◌≤◌, ◌*◌, ◌++◌, length, drop}
use Rattle.std.specs.Prelude.{vec_len, vec_capacity}
use Rattle.hex.specs.Hex.{encode_lower}
use Rattle.script.proofs.writing.digits_of.Given as goal

abbrev pub invariant-bytes : goal.invariant-bytes
invariant-bytes l = record {
  room : (vec_len l.digits ≡ 2 * l.i) × (2 * length l.bytes ≤ vec_capacity l.digits);
  written : l.digits.items ++ encode_lower (drop l.i l.bytes) ≡ encode_lower l.bytes;
}

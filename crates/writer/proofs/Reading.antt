-- Each refusal has a number of its own: the writer's own is no status.
use mathlib.Core.Path.{◌≡◌, refl, sym, ap}
use native.Mathlib.Omega.{arith}
use Rattle.std.specs.Prelude.{Ok, Err}
use Rattle.command.specs.declared.status.Status.{Status as Stated}
use Rattle.command.specs.declared.status.Status.TheVariants.{InvalidCommand, InvalidLength, UnexpectedType, InvalidCbor, MissingParameter, UnsupportedAlgorithm}
use Rattle.command.specs.Status.{status_number}
use Rattle.command.proofs.Statuses.{one_status}
use Rattle.writer.specs.declared.Unwritten.{Unwritten}
use Rattle.writer.specs.declared.Unwritten.TheVariants.{Status, TooLong}
use Rattle.writer.specs.Written.{too_long, unwritten_number}
use Rattle.writer.specs.Theorems.{OneReading}

no_status : (s : Stated) → status_number s ≡ too_long → ⊥
no_status InvalidCommand e = omega arith
no_status InvalidLength e = omega arith
no_status UnexpectedType e = omega arith
no_status InvalidCbor e = omega arith
no_status MissingParameter e = omega arith
no_status UnsupportedAlgorithm e = omega arith

one_unwritten : (u v : Unwritten) → unwritten_number u ≡ unwritten_number v → u ≡ v
one_unwritten (Status s) (Status t) e = ap Status (one_status s t e)
one_unwritten (Status s) TooLong e = absurd (no_status s e)
one_unwritten TooLong (Status t) e = absurd (no_status t (sym e))
one_unwritten TooLong TooLong e = refl

pub one_reading : OneReading
one_reading (Ok n) (Ok m) e = cc
one_reading (Ok n) (Err v) e = cc
one_reading (Err u) (Ok m) e = cc
one_reading (Err u) (Err v) e =
    let i : unwritten_number u ≡ unwritten_number v = cc in
    ap Err (one_unwritten u v i)

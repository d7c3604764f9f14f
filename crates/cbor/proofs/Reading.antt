-- What is read of an answer tells it.
use mathlib.Core.Path.{◌≡◌, refl, sym, ap, ◌∙◌}
use Rattle.std.specs.Prelude.{ℕ, Result, Ok, Err}
use Rattle.cbor.specs.declared.Fault.{Fault as Told}
use Rattle.cbor.specs.Item.{Item, Len, Fault, item_as}
use Rattle.cbor.specs.Theorems.{OneReading}

item_in : Item → Result ℕ Told
item_in (Len n) = Ok n
item_in (Fault p) = Err (record { place = p })

item_back : (r : Result ℕ Told) → item_in (item_as r) ≡ r
unfolding item_in
item_back (Ok n) = refl
item_back (Err f) = refl

pub one_reading : OneReading
one_reading r r' e = sym (item_back r) ∙ ap item_in e ∙ item_back r'

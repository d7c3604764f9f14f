-- What is read of an answer tells it.
use mathlib.Core.Path.{◌≡◌, refl, sym, ap, ◌∙◌}
use Rattle.std.specs.Prelude.{Option, Some, None}
use Rattle.state.specs.declared.State.{State}
use Rattle.block.specs.Block.{Held, Nothing, Kept, held_as}
use Rattle.block.specs.Theorems.{OneReading}

told : Held → Option State
told Nothing = None
told (Kept s) = Some s

told_back : (r : Option State) → told (held_as r) ≡ r
unfolding told
told_back None = refl
told_back (Some s) = refl

pub one_reading : OneReading
one_reading r r' e = sym (told_back r) ∙ ap told e ∙ told_back r'

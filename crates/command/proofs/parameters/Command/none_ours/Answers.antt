-- The definition's cases.
use mathlib.Core.Path.{◌≡◌, refl}
use mathlib.Core.Bool.{Bool, true, false, not}
use Rattle.command.specs.declared.parameters.Command.TheVariants.{MakeCredential}
use Rattle.command.specs.Pass.{so_far}
use Rattle.command.specs.Check.{none_ours}
use Rattle.command.proofs.parameters.Command.none_ours.Goals as goal

make : (t : Bool) → not t ≡ none_ours MakeCredential (so_far t)
make true = refl
make false = refl

pub returns-in-MakeCredential : goal.returns-in-MakeCredential
returns-in-MakeCredential c = rw c.in-MakeCredential.is (make c.args.ours)

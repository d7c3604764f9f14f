-- `named` meets its contract: a phase with another number is no row's.
use native.Mathlib.Omega.{arith}
use borrow.Author.Tests.{ne_eqb}
use Rattle.block.specs.Block.{named}
use Rattle.rows.specs.Table.{◌⇒◌else◌}
use Rattle.block.proofs.Fields.named.Goals as goal

pub returns-in_default-4 : goal.returns-in_default-4
unfolding named ◌⇒◌else◌
returns-in_default-4 c =
    let phase = c.args.self.phase in
    simp (ne_eqb phase 0 (λ e. omega arith), ne_eqb phase 1 (λ e. omega arith), ne_eqb phase 2 (λ e. omega arith), ne_eqb phase 3 (λ e. omega arith))

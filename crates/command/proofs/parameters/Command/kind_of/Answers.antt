-- The table, row by row; a key that is none of its keys is unknown.
use native.Mathlib.Omega.{arith}
use borrow.Author.Tests.{ne_eqb}
use Rattle.command.specs.Pass.{kind_in}
use Rattle.command.proofs.parameters.Command.kind_of.Goals as goal

pub returns-in-1 : goal.returns-in-1
unfolding kind_in
returns-in-1 c = rw (c.in-MakeCredential.is, c.in-1.is)

pub returns-in-2 : goal.returns-in-2
unfolding kind_in
returns-in-2 c = rw (c.in-MakeCredential.is, c.in-2.is)

pub returns-in-3 : goal.returns-in-3
unfolding kind_in
returns-in-3 c = rw (c.in-MakeCredential.is, c.in-3.is)

pub returns-in-4 : goal.returns-in-4
unfolding kind_in
returns-in-4 c = rw (c.in-MakeCredential.is, c.in-4.is)

pub returns-in-5 : goal.returns-in-5
unfolding kind_in
returns-in-5 c = rw (c.in-MakeCredential.is, c.in-5.is)

pub returns-in-6 : goal.returns-in-6
unfolding kind_in
returns-in-6 c = rw (c.in-MakeCredential.is, c.in-6.is)

pub returns-in-7 : goal.returns-in-7
unfolding kind_in
returns-in-7 c = rw (c.in-MakeCredential.is, c.in-7.is)

pub returns-in-8 : goal.returns-in-8
unfolding kind_in
returns-in-8 c = rw (c.in-MakeCredential.is, c.in-8.is)

pub returns-in-9 : goal.returns-in-9
unfolding kind_in
returns-in-9 c = rw (c.in-MakeCredential.is, c.in-9.is)

pub returns-in_default : goal.returns-in_default
unfolding kind_in
returns-in_default c = rw (c.in-MakeCredential.is, ne_eqb c.args.key 1 (λ e. omega arith), ne_eqb c.args.key 2 (λ e. omega arith), ne_eqb c.args.key 3 (λ e. omega arith), ne_eqb c.args.key 4 (λ e. omega arith), ne_eqb c.args.key 5 (λ e. omega arith), ne_eqb c.args.key 6 (λ e. omega arith), ne_eqb c.args.key 7 (λ e. omega arith), ne_eqb c.args.key 8 (λ e. omega arith), ne_eqb c.args.key 9 (λ e. omega arith))

pub returns-in-1-key : goal.returns-in-1-key
unfolding kind_in
returns-in-1-key c = rw (c.in-GetAssertion.is, c.in-1-key.is)

pub returns-in-2-key : goal.returns-in-2-key
unfolding kind_in
returns-in-2-key c = rw (c.in-GetAssertion.is, c.in-2-key.is)

pub returns-in-3-key : goal.returns-in-3-key
unfolding kind_in
returns-in-3-key c = rw (c.in-GetAssertion.is, c.in-3-key.is)

pub returns-in-4-key : goal.returns-in-4-key
unfolding kind_in
returns-in-4-key c = rw (c.in-GetAssertion.is, c.in-4-key.is)

pub returns-in-5-key : goal.returns-in-5-key
unfolding kind_in
returns-in-5-key c = rw (c.in-GetAssertion.is, c.in-5-key.is)

pub returns-in-6-key : goal.returns-in-6-key
unfolding kind_in
returns-in-6-key c = rw (c.in-GetAssertion.is, c.in-6-key.is)

pub returns-in-7-key : goal.returns-in-7-key
unfolding kind_in
returns-in-7-key c = rw (c.in-GetAssertion.is, c.in-7-key.is)

pub returns-in_default-key : goal.returns-in_default-key
unfolding kind_in
returns-in_default-key c = rw (c.in-GetAssertion.is, ne_eqb c.args.key 1 (λ e. omega arith), ne_eqb c.args.key 2 (λ e. omega arith), ne_eqb c.args.key 3 (λ e. omega arith), ne_eqb c.args.key 4 (λ e. omega arith), ne_eqb c.args.key 5 (λ e. omega arith), ne_eqb c.args.key 6 (λ e. omega arith), ne_eqb c.args.key 7 (λ e. omega arith))

-- `expr_chains::same_text` meets its contract: a text has the bytes of itself.
use mathlib.Core.Path.{sym, ◌∙◌}
use borrow.Author.Tests.{eq-eqb}
use Rattle.expr_chains.proofs.TestLaws.{text-one}
use Rattle.expr_chains.specs.Same.{same_text}
use Rattle.expr_chains.proofs.same_text.Goals as goal

pub returns-then-a-b : goal.returns-then-a-b
returns-then-a-b c = eq-eqb c.args.a c.args.b c.if-a-b.true ∙ sym (text-one _ _ _ c.if-a-b.true)

pub returns-else-a-b : goal.returns-else-a-b
unfolding same_text
returns-else-a-b c = cc

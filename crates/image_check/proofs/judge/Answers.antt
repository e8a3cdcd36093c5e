-- `image_check::judge` meets its contract: one law for each way that it ends.
use mathlib.Core.Path.{sym, ◌∙◌}
use native.Mathlib.Omega.{arith}
use Rattle.image_check.proofs.AnswerLaws.{ends-short, ends-made, ends-unmade}
use borrow.Author.Rules.{rules}
use Rattle.image_check.proofs.judge.Goals as goal

pub returns-in_default : goal.returns-in_default
returns-in_default c = λ ok. ends-short _ _ _ ok (omega (arith, c.in_default.ensures.cases))

pub returns-then-made : goal.returns-then-made
returns-then-made c =
    let lent = c.in-Some.ensures.cases.1 in
    λ ok. ends-made _ _ _ _ _ ok (omega (arith, c.in-Some.ensures.cases.4)) c.zero.ensures (search rules)
    (sym (c.well_made-made.ensures lent) ∙ c.if-made.true)

pub returns : goal.returns
returns c =
    let lent = c.in-Some.ensures.cases.1 in
    λ ok. ends-unmade _ _ _ _ _ ok (omega (arith, c.in-Some.ensures.cases.4)) c.zero.ensures (search rules)
    (sym (c.well_made-made.ensures lent) ∙ c.if-made.false)

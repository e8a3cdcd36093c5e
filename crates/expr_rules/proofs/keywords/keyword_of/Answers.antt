-- `expr_rules::keywords::keyword_of` meets its contract: a test that the length rules out is false without being made.
use mathlib.Core.Path.{refl, sym, ◌∙◌}
use native.Mathlib.Omega.{arith}
use Rattle.expr_rules.proofs.KeywordLaws.{no_fn, no_call, no-eval, no-curry, keyword-is}
use Rattle.expr_rules.proofs.keywords.keyword_of.Goals as goal

pub returns-in-4 : goal.returns-in-4
returns-in-4 c = keyword-is _ (no_fn _ (omega arith)) (sym c.is_call.ensures ∙ c.if-is_call.true) refl refl

pub returns-in-4-2 : goal.returns-in-4-2
returns-in-4-2 c =
    let call = sym c.is_call.ensures ∙ c.if-is_call.false in
    keyword-is _ (no_fn _ (omega arith)) call (sym c.is_eval.ensures ∙ c.if-is_eval.true) refl

pub returns-in-2 : goal.returns-in-2
returns-in-2 c = keyword-is _ (sym c.is_fn.ensures ∙ c.if-is_fn.true) refl refl refl

pub returns-in-5 : goal.returns-in-5
returns-in-5 c =
    let curry = sym c.is_curry.ensures ∙ c.if-is_curry.true in
    keyword-is _ (no_fn _ (omega arith)) (no_call _ (omega arith)) (no-eval _ (omega arith)) curry

pub returns-in_default : goal.returns-in_default
returns-in_default c =
    let call = sym c.is_call.ensures ∙ c.if-is_call.false in
    let eval = sym c.is_eval.ensures ∙ c.if-is_eval.false in
    keyword-is _ (no_fn _ (omega arith)) call eval (no-curry _ (omega arith))

pub returns-in_default-2 : goal.returns-in_default-2
returns-in_default-2 c =
    let fn = sym c.is_fn.ensures ∙ c.if-is_fn.false in
    keyword-is _ fn (no_call _ (omega arith)) (no-eval _ (omega arith)) (no-curry _ (omega arith))

pub returns-in_default-3 : goal.returns-in_default-3
returns-in_default-3 c =
    let curry = sym c.is_curry.ensures ∙ c.if-is_curry.false in
    keyword-is _ (no_fn _ (omega arith)) (no_call _ (omega arith)) (no-eval _ (omega arith)) curry

pub returns-in_default-4 : goal.returns-in_default-4
returns-in_default-4 c =
    keyword-is _ (no_fn _ (omega arith)) (no_call _ (omega arith)) (no-eval _ (omega arith)) (no-curry _ (omega arith))

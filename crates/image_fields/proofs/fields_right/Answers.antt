-- `image_fields::fields_right` meets its contract: every record of each section is looked at.
use Rattle.std.proofs.Common.{rules}
use borrow.Author.Tests.{tests}
use mathlib.Core.Path.{refl, ap₂, ◌∙◌}
use Rattle.words.proofs.RangeLaws.{all_below-range}
use Rattle.image_fields.specs.Fields.{fields_right}
use Rattle.image_fields.specs.Records.{instruction_right, const_right, name_right, token_right, residual_right, chain_right, step_right}
use Rattle.image_fields.specs.Records.{table_right, case_right, range_right}
use Rattle.image_fields.proofs.FitLaws.{all-right, section}
use Rattle.image_fields.proofs.fields_right.Goals as goal

pub returns : goal.returns
returns c =
    let pair = c.of-pair.result in
    let s = pair.sheet.now in
    let w = pair.image.words.now in
    let sized = pair.image.sized in
    all-right s w
    (section _ (all_below-range (instruction_right s w) _ _ _ _ c.all.ensures.ran refl (λ x b q k. search (rules, tests))) sized.places)
    (section _ (all_below-range (const_right s w) _ _ _ _ c.all-2.ensures.ran refl (λ x b q k. search (rules, tests))) sized.consts)
    (section _ (all_below-range (name_right s w) _ _ _ _ c.all-3.ensures.ran refl (λ x b q k. search (rules, tests))) sized.names)
    (section _ (all_below-range (token_right w) _ _ _ _ c.all-4.ensures.ran refl (λ x b q k. search (rules, tests))) sized.tokens)
    (section _ (all_below-range (residual_right s w) _ _ _ _ c.all-5.ensures.ran refl (λ x b q k. search (rules, tests))) sized.residuals)
    (section _ (all_below-range (chain_right s w) _ _ _ _ c.all-6.ensures.ran refl (λ x b q k. search (rules, tests))) sized.chains)
    (section _ (all_below-range (step_right w) _ _ _ _ c.all-7.ensures.ran refl (λ x b q k. search (rules, tests))) sized.steps)
    (section _ (all_below-range (table_right w) _ _ _ _ c.all-8.ensures.ran refl (λ x b q k. search (rules, tests))) sized.tables)
    (section (case_right w) c.cases_right.ensures sized.cases)
    (section (range_right w) c.ranges_right.ensures sized.ranges)
    ∙ ap₂ fields_right c.of-pair.ensures.sheet c.of-pair.ensures.image

-- `check_numbers::node_numbers_ok` meets its contract: every node's numbers are looked at.
use Rattle.std.proofs.Common.{rules}
use borrow.Author.Tests.{tests}
use mathlib.Core.Path.{refl, ap₂, ◌∙◌}
use Rattle.words.specs.Count.{all_below}
use Rattle.words.proofs.RangeLaws.{all_below-range}
use Rattle.check_numbers.specs.Numbers.{number_among, node_numbers_by}
use Rattle.check_numbers.proofs.node_numbers_ok.Goals as goal

pub returns : goal.returns
unfolding node_numbers_by
returns c =
    let s = c.args.sheet.now in
    let test = number_among s c.text_count-x.result c.field_a-blocks.result in
    all_below-range test _ _ _ _ c.all.ensures.ran refl (λ x b q k. search (rules, tests))
    ∙ ap₂ (λ n f. all_below n f) c.node_count-m.ensures (ap₂ (number_among s) c.text_count-x.ensures c.field_a-blocks.ensures)

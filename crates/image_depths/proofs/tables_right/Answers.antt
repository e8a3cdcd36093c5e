-- `image_depths::tables_right` meets its contract: every table is looked at.
use Rattle.std.proofs.Common.{rules}
use borrow.Author.Tests.{tests}
use mathlib.Core.Path.{refl, ap, ◌∙◌}
use native.Mathlib.Omega.{arith}
use Rattle.words.specs.Count.{all_below}
use Rattle.image_rule.specs.Marks.{mark, table_by, table_node}
use Rattle.image_read.proofs.BelowLaws.{all_below-under}
use Rattle.image_depths.specs.Passing.{tables_right}
use Rattle.image_depths.proofs.tables_right.Goals as goal

pub returns : goal.returns
unfolding tables_right
returns c =
    let w = c.args.image.now.words.now in
    let l = c.args.found.now in
    λ Q R.
    all_below-under (λ i. table_by (mark l (table_node w i)) w l i) _ _ _ _ c.all.ensures.ran refl
    (λ x b q k. (search (rules, tests), λ h. let P = Q x (omega (arith, h, c.args.image.now.sized.tables)) in search (rules, tests)))
    ∙ ap (λ n. all_below n (λ i. table_by (mark l (table_node w i)) w l i)) c.args.image.now.sized.tables

-- `check_names::Lengths::nodes_ok` meets its contract: every node is looked at.
use Rattle.std.proofs.Common.{rules}
use borrow.Author.Tests.{tests}
use mathlib.Core.Path.{refl, ap, ◌∙◌}
use Rattle.words.specs.Count.{all_below}
use Rattle.words.proofs.RangeLaws.{all_below-range}
use Rattle.check_names.specs.Names.{node_name_ok, node_names_by}
use Rattle.check_names.proofs.Lengths.nodes_ok.Goals as goal

pub returns : goal.returns
unfolding node_names_by
returns c =
    let test = node_name_ok c.args.self.now.sheet.now in
    all_below-range test _ _ _ _ c.all.ensures.ran refl (λ x b q k. search (rules, tests))
    ∙ ap (λ n. all_below n test) c.node_count-m.ensures

-- `expr_chains::same_steps` meets its contract. Invariant: what is left to compare equals the whole.
use mathlib.Core.Path.{◌≡◌}
use Rattle.sheet.specs.Limits.{max_depth}
use Rattle.expr_rules.specs.Links.{nodes_left}
use Rattle.expr_rules.proofs.LinksLaws.{Left}
use Rattle.expr_chains.specs.Same as sames
use Rattle.expr_chains.proofs.same_steps.Given as goal

abbrev pub invariant-loop-p : goal.invariant-loop-p
invariant-loop-p l =
    Left l.sheet l.p-iterator
    × Left l.sheet l.others
    × (sames.same_steps l.sheet (nodes_left l.p-iterator) (nodes_left l.others) ≡ sames.same_links max_depth l.sheet l.i l.j)

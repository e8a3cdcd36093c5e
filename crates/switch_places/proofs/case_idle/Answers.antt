-- `switch_places::case_idle` meets its contract: what is folded over the exits is what all lists leave.
use Rattle.std.proofs.Common.{rules}
use mathlib.Core.Path.{refl}
use native.Mathlib.Omega.{arith}
use Rattle.std.proofs.lemmas.Iterator.{YieldsList-from_range}
use Rattle.std.proofs.lemmas.Iterator.Consumers.{fold_from_yields_List}
use Rattle.switch_tables.specs.Columns.{case_exit_at}
use Rattle.switch_places.proofs.IdleLaws.{idle_from, folded-idle}
use Rattle.switch_places.proofs.case_idle.Goals as goal

pub returns : goal.returns
returns c =
    λ s ls x. folded-idle s _ ls _ _ _ c.min-n.ensures c.at.ensures
    (fold_from_yields_List _ (idle_from c.args.table.now.cells) _ _ c.fold.ensures.ran
    (YieldsList-from_range case_exit_at _ c.min-n.result refl (omega arith))
    (λ a y b q k. search rules)) x

-- `switch_emit::arms::range_arms` meets its contract.
use mathlib.Core.Path.{refl}
use Rattle.switch_emit.proofs.TableLaws.{capped-all}
use Rattle.switch_emit.proofs.ArmDoes.{band_heads, arms-as}
use Rattle.switch_emit.proofs.arms.range_arms.Goals as goal

pub returns-clause-does : goal.returns-clause-does
returns-clause-does c =
    λ l C T.
    let all = capped-all _ _ _ _ c.min-n.ensures c.get.ensures T.few_band_heads in
    arms-as _ _ _ c.get-to.ensures (c.list_arms.ensures.does l _ _ C T.guards T.few_spans (rw all (band_heads C T)) (λ i lt tried. refl))

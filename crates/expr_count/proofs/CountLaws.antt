-- The tally of a node is what its lowering gives: the length of its code, what it emits, and whether it reaches an `eval`.
use Prim.Native.Nat.{ℕ, zero, suc, ◌+◌}
use mathlib.Core.Path.{◌≡◌}
use mathlib.Core.Bool.{◌||◌}
use mathlib.Core.List.{List}
use lib.ListN.{length}
use Rattle.lowering.specs.Pools.{Pools}
use Rattle.lowering.specs.Out.{Rec}
use Rattle.lowering.specs.Expression.{Rule, rule, by_rule, expression}
use Rattle.lowering.specs.Expression as Expression
use Rattle.expr_count.specs.Locals.{is_local}
use Rattle.expr_count.specs.Plan.{plan_by, plan}
use Rattle.expr_count.specs.Count.{follow, tally_by, tally}
use Rattle.expr_count.specs.Count as Count
use Rattle.expr_count.proofs.Adds.{OutAdds, Counts}
use Rattle.expr_count.proofs.PlanAdds.{
  alone-plan,
  residual-adds,
  boolean-adds,
  unit-adds,
  constant-adds,
  variable-adds,
  this-adds,
  array-adds,
  interpolated-adds,
  short-adds,
  coalesce-adds,
}
use Rattle.expr_count.proofs.CallAdds.{call-adds}
use Rattle.expr_count.proofs.ChainAdds.{chain-adds}

rule-adds : (s : List ℕ) (rec : Rec) (t : Count.Rec) → Counts rec t → (r : Rule) (j b d : ℕ) (p : Pools)
    → OutAdds p (follow (plan_by (is_local s) r s j) s t j) (by_rule r s rec j b d p)
unfolding plan_by follow by_rule
rule-adds s rec t C Expression.boolean j b d p = boolean-adds s t j d p
rule-adds s rec t C Expression.unit j b d p = unit-adds s t j d p
rule-adds s rec t C Expression.constant j b d p = constant-adds s t j d p
rule-adds s rec t C Expression.interpolated j b d p = interpolated-adds s rec t C j b d p
rule-adds s rec t C Expression.array j b d p = array-adds s rec t C j b d p
rule-adds s rec t C Expression.variable j b d p = variable-adds s t j d p
rule-adds s rec t C Expression.this j b d p = this-adds s t j d p
rule-adds s rec t C Expression.fn_call j b d p = call-adds s rec t C j b d p
rule-adds s rec t C Expression.chain j b d p = chain-adds s rec t C j b d p
rule-adds s rec t C Expression.and j b d p = short-adds s rec t C j b d p 0
rule-adds s rec t C Expression.or j b d p = short-adds s rec t C j b d p 1
rule-adds s rec t C Expression.coalesce j b d p = coalesce-adds s rec t C j b d p
rule-adds s rec t C Expression.residual j b d p = alone-plan s t j (residual-adds j d p)

-- the tally of every node, with any number of levels
pub tally-counts : (levels : ℕ) (s : List ℕ) → Counts (expression levels s) (tally levels s)
unfolding tally_by expression plan
tally-counts zero s = record { each = λ j b d p. residual-adds j d p }
tally-counts (suc levels) s =
    record { each = λ j b d p. rule-adds s (expression levels s) (tally levels s) (tally-counts levels s) (rule s j) j b d p }

module _ (levels : ℕ) (s : List ℕ) (j b d : ℕ) (p : Pools) where
  pub tally-length : length (expression levels s j b d p).code ≡ (tally levels s j).len
  tally-length = ((tally-counts levels s).each j b d p).length-is

  pub tally-emitted : (expression levels s j b d p).pools.emitted ≡ p.emitted + (tally levels s j).emitted
  tally-emitted = ((tally-counts levels s).each j b d p).emitted-is

  pub tally-defeated : (expression levels s j b d p).pools.defeated ≡ (p.defeated || (tally levels s j).defeated)
  tally-defeated = ((tally-counts levels s).each j b d p).defeated-is

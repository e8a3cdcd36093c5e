-- Every node lowers to code that takes depth d to depth d + 1.
use Prim.Native.Nat.{ℕ, zero, suc}
use mathlib.Core.List.{List}
use Rattle.lowering.specs.Limits.{max_levels}
use Rattle.lowering.specs.Pools.{Pools, no_pools}
use Rattle.lowering.specs.Out.{Rec}
use Rattle.lowering.specs.Program.{plain}
use Rattle.lowering.specs.Expression.{Rule, boolean, unit, constant, interpolated, array, variable, this, fn_call, chain, and, or}
use Rattle.lowering.specs.Expression.{coalesce, residual, rule, by_rule, expression}
use Rattle.lowering.proofs.Meets.{Meets, grows-refl}
use Rattle.lowering.proofs.Whole.{context_of, WellTyped}
use Rattle.lowering.proofs.WholeLaws.{sound-typed}
use Rattle.lowering.proofs.Lowers.{Done, meets}
use Rattle.lowering.proofs.SoundLeaf.{residual-done, boolean-done, unit-done, constant-done, variable-done, this-done}
use Rattle.lowering.proofs.SoundArray.{array-sound, array-grows}
use Rattle.lowering.proofs.SoundInterpolated.{interpolated-done}
use Rattle.lowering.proofs.SoundShortCircuit.{short_circuit-done}
use Rattle.lowering.proofs.SoundCoalesce.{coalesce-done}
use Rattle.lowering.proofs.SoundCall.{fn_call-done}
use Rattle.lowering.proofs.SoundChain.{chain-done}

module _ (s : List ℕ) (rec : Rec) (M : Meets rec) where
  by_rule-done : (r : Rule) (j b d : ℕ) (p : Pools) → Done p b d (suc d) (by_rule r s rec j b d p)
  unfolding by_rule
  by_rule-done boolean j b d p = boolean-done s j b d p
  by_rule-done unit j b d p = unit-done b d p
  by_rule-done constant j b d p = constant-done s j b d p
  by_rule-done interpolated j b d p = interpolated-done s rec M j b d p
  by_rule-done array j b d p = record { sound = λ X g. array-sound s rec M X j b d p g; grows = array-grows s rec M j b d p }
  by_rule-done variable j b d p = variable-done s j b d p
  by_rule-done this j b d p = this-done s j b d p
  by_rule-done fn_call j b d p = fn_call-done s rec M j b d p
  by_rule-done chain j b d p = chain-done s rec M j b d p
  by_rule-done and j b d p = short_circuit-done s rec M 0 j b d p
  by_rule-done or j b d p = short_circuit-done s rec M 1 j b d p
  by_rule-done coalesce j b d p = coalesce-done s rec M j b d p
  by_rule-done residual j b d p = residual-done j b d p

pub expression-meets : (levels : ℕ) (s : List ℕ) → Meets (expression levels s)
unfolding expression
expression-meets zero s = meets (λ j b d p. residual-done j b d p)
expression-meets (suc levels) s = meets (λ j b d p. by_rule-done s (expression levels s) (expression-meets levels s) (rule s j) j b d p)

-- an expression's program is well typed
pub plain-typed : (s : List ℕ) → WellTyped (plain (expression max_levels s 0 0 0 no_pools))
unfolding plain
plain-typed s =
    let o = expression max_levels s 0 0 0 no_pools in
    sound-typed (plain o) ((expression-meets max_levels s).sound (context_of (plain o)) 0 0 0 no_pools (grows-refl o.pools.chains))

-- The lowering's walk along a chain comes to its end if each step lowers, and stops if not.
use Prim.Native.Nat.{ℕ, ◌+◌}
use mathlib.Core.Path.{◌≡◌, refl, sym, ap, subst}
use mathlib.Core.Bool.{Bool, true, false, true≢false, false≢true}
use mathlib.Core.List.{List, [], ◌∷◌}
use lib.ListN.{length}
use Rattle.lowering.proofs.LinkedChain.{method-lowers, method-fails, steps-go, steps-fail}
use Rattle.laws.proofs.Bool.{lazy-true, lazy-of}
use Rattle.bytecode.specs.declared.Step.{Step}
use Rattle.lowering.specs.Code.{Code}
use Rattle.lowering.specs.Pools.{Pools}
use Rattle.lowering.specs.Out.{Rec}
use Rattle.lowering.specs.Flatten as flatten
use Rattle.lowering.specs.Flatten.{operand_of, StepRule, index, property, method, step_rule, has_step, flattens}
use Rattle.lowering.specs.Steps.{Stepped, stepped, failed, index_step, property_step, is_lowerable_method, method_after, method_step, step_by}
use Rattle.lowering.specs.Steps.{Walked, walked, stopped, onto, steps}
use Rattle.expr_chains.specs.Lowers.{lowers_by, step_lowers, all_lower}

-- a step was made
pub record Steps (o : Stepped) : Type 0 where
  pub code : Code
  pub step : Step
  pub width : ℕ
  pub pools : Pools
  pub is : o ≡ stepped code step width pools

-- the walk came to its end
pub record Walks (w : Walked) : Type 0 where
  pub code : Code
  pub steps : List Step
  pub operands : ℕ
  pub pools : Pools
  pub is : w ≡ walked code steps operands pools

-- the walk stopped
pub record Stops (w : Walked) : Type 0 where
  pub pools : Pools
  pub is : w ≡ stopped pools

stops-on : (code : Code) (x : Step) (w : Walked) → Stops w → Stops (onto code x w)
unfolding onto
stops-on code x w h = record { pools = h.pools; is = ap (onto code x) h.is }

walks-on : (code : Code) (x : Step) (w : Walked) → Walks w → Walks (onto code x w)
unfolding onto
walks-on code x w h = record { code = _; steps = _; operands = _; pools = _; is = ap (onto code x) h.is }

module _ (s : List ℕ) (rec : Rec) where
  method-steps : (c n b d : ℕ) (p : Pools) → is_lowerable_method s (operand_of s c) ≡ true → Steps (method_step s rec c n b d p)
  unfolding method_after
  method-steps c n b d p h = record { code = _; step = _; width = _; pools = _; is = method-lowers s rec c n b d p h }

  step-made : (r : StepRule) (c n b d : ℕ) (p : Pools) → lowers_by r s c ≡ true → Steps (step_by r s rec c n b d p)
  unfolding step_by lowers_by index_step property_step
  step-made index c n b d p h = record { code = _; step = _; width = _; pools = _; is = refl }
  step-made property c n b d p h = record { code = _; step = _; width = _; pools = _; is = refl }
  step-made method c n b d p h = method-steps c n b d p h
  step-made flatten.none c n b d p h = absurd (false≢true h)

  pub step-fails : (r : StepRule) (c n b d : ℕ) (p : Pools) → lowers_by r s c ≡ false → step_by r s rec c n b d p ≡ failed p
  unfolding step_by lowers_by
  step-fails index c n b d p h = absurd (true≢false h)
  step-fails property c n b d p h = absurd (true≢false h)
  step-fails method c n b d p h = method-fails s rec c n b d p h
  step-fails flatten.none c n b d p h = refl

  pub walks : (cs : List ℕ) (n b d : ℕ) (p : Pools) → all_lower s cs ≡ true → Walks (steps s rec cs n b d p)
  unfolding steps all_lower step_lowers
  walks [] n b d p h = record { code = _; steps = _; operands = _; pools = _; is = refl }
  walks (c ∷ cs) n b d p h =
      let both = lazy-true (lowers_by (step_rule s c) s c) (all_lower s cs) h in
      let o = step-made (step_rule s c) c n b d p both.0 in
      subst Walks (sym (steps-go s rec c cs n b d p o.code o.step o.width o.pools o.is))
      (walks-on o.code o.step (steps s rec cs (n + o.width) (b + length o.code) (d + o.width) o.pools)
      (walks cs (n + o.width) (b + length o.code) (d + o.width) o.pools both.1))

  pub stops : (cs : List ℕ) (n b d : ℕ) (p : Pools) → all_lower s cs ≡ false → Stops (steps s rec cs n b d p)
  unfolding all_lower step_lowers
  stops [] n b d p h = absurd (true≢false h)
  stops (c ∷ cs) n b d p h = by (lowers_by (step_rule s c) s c) refl (λ n b d p. stops cs n b d p)
    where
      by : (t : Bool) → lowers_by (step_rule s c) s c ≡ t → ((n b d : ℕ) (p : Pools) → all_lower s cs ≡ false → Stops (steps s rec cs n b d p))
          → Stops (steps s rec (c ∷ cs) n b d p)
      by true t more =
          let o = step-made (step_rule s c) c n b d p t in
          subst Stops (sym (steps-go s rec c cs n b d p o.code o.step o.width o.pools o.is))
          (stops-on o.code o.step (steps s rec cs (n + o.width) (b + length o.code) (d + o.width) o.pools)
          (more (n + o.width) (b + length o.code) (d + o.width) o.pools (rw (t, all_lower) at h)))
      by false t more =
          subst Stops (sym (steps-fail s rec c cs n b d p p (step-fails (step_rule s c) c n b d p t))) (record { pools = p; is = refl })

-- a chain whose steps all lower is flat
rule-flat : (s : List ℕ) (r : StepRule) (c : ℕ) → lowers_by r s c ≡ true → has_step r ≡ true
unfolding lowers_by has_step
rule-flat s index c h = refl
rule-flat s property c h = refl
rule-flat s method c h = refl
rule-flat s flatten.none c h = h

pub lower-flat : (s : List ℕ) (cs : List ℕ) → all_lower s cs ≡ true → flattens s cs ≡ true
unfolding all_lower step_lowers flattens
lower-flat s [] h = refl
lower-flat s (c ∷ cs) h =
    let both = lazy-true (lowers_by (step_rule s c) s c) (all_lower s cs) h in
    lazy-of (has_step (step_rule s c)) (flattens s cs) (rule-flat s (step_rule s c) c both.0) (lower-flat s cs both.1)

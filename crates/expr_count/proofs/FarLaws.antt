-- How far a chain comes, as a number: by whether each of its links has a step, and whether each step lowers.
use Prim.Native.Nat.{ℕ, ◌≤◌, ◌<◌}
use mathlib.Core.Path.{◌≡◌, refl, sym}
use mathlib.Core.Bool.{Bool, true, false, true≢false}
use mathlib.Core.List.{List, [], ◌∷◌}
use native.Mathlib.Omega.{arith}
use Rattle.sheet.specs.Limits.{max_depth}
use Rattle.lowering.specs.Steps.{is_lowerable_method}
use Rattle.lowering.specs.Flatten as Flatten
use Rattle.lowering.specs.Flatten.{operand_of, links, StepRule, step_rule, has_step, flattens}
use Rattle.expr_chains.specs.declared.Far.{Far}
use Rattle.expr_chains.specs.declared.Distance.{Distance}
use Rattle.expr_chains.specs.declared.Distance.TheVariants as Distances
use Rattle.expr_chains.specs.Lowers.{lowers_by, step_lowers, all_lower, lowers}
use Rattle.expr_chains.specs.Walked.{Comes, flattens_at, lowers_at}
use Rattle.expr_count.specs.Link.{link_by, link, grade, least, reach_number}

module _ (s : List ℕ) where
  some-step : (r : StepRule) (x : ℕ) → has_step r ≡ true → 1 ≤ grade (link_by r s x)
  unfolding has_step link_by grade
  some-step Flatten.index x h = omega arith
  some-step Flatten.property x h = omega arith
  some-step Flatten.method x h = by (is_lowerable_method s x) refl
    where
      by : (l : Bool) → is_lowerable_method s x ≡ l → 1 ≤ grade (link_by Flatten.method s x)
      by true e = rw (e, link_by) (omega arith)
      by false e = rw (e, link_by) (omega arith)
  some-step Flatten.none x h = absurd (true≢false (sym h))

  no-step : (r : StepRule) (x : ℕ) → has_step r ≡ false → grade (link_by r s x) ≡ 0
  unfolding has_step link_by grade
  no-step Flatten.index x h = absurd (true≢false h)
  no-step Flatten.property x h = absurd (true≢false h)
  no-step Flatten.method x h = absurd (true≢false h)
  no-step Flatten.none x h = refl

  pub flattens-far : (ls : List ℕ) → flattens s ls ≡ true → 1 ≤ least s ls
  unfolding flattens least link
  flattens-far [] h = omega arith
  flattens-far (c ∷ cs) h = by (has_step (step_rule s c)) refl (flattens-far cs) h
    where
      by : (l : Bool) → has_step (step_rule s c) ≡ l → (flattens s cs ≡ true → 1 ≤ least s cs) → flattens s (c ∷ cs) ≡ true
          → 1 ≤ least s (c ∷ cs)
      by true e ih = rw (e, flattens) (λ h. let k = some-step (step_rule s c) (operand_of s c) e in let i = ih h in omega arith)
      by false e ih = rw (e, flattens) (λ h. absurd (true≢false (sym h)))

  pub flattens-not : (ls : List ℕ) → flattens s ls ≡ false → least s ls ≡ 0
  unfolding flattens least link
  flattens-not [] h = absurd (true≢false h)
  flattens-not (c ∷ cs) h = by (has_step (step_rule s c)) refl (flattens-not cs) h
    where
      by : (l : Bool) → has_step (step_rule s c) ≡ l → (flattens s cs ≡ false → least s cs ≡ 0) → flattens s (c ∷ cs) ≡ false
          → least s (c ∷ cs) ≡ 0
      by true e ih = rw (e, flattens) (λ h. let i = ih h in omega arith)
      by false e ih = λ h. let k = no-step (step_rule s c) (operand_of s c) e in omega arith

  -- a link whose step lowers has grade 2, and no other has
  lower-method : (x : ℕ) → is_lowerable_method s x ≡ true → grade (link_by Flatten.method s x) ≡ 2
  unfolding link_by grade
  lower-method x h = rw (h, link_by) refl

  fail-method : (x : ℕ) → is_lowerable_method s x ≡ false → grade (link_by Flatten.method s x) < 2
  unfolding link_by grade
  fail-method x h = rw (h, link_by) (omega arith)

  lower-grade : (r : StepRule) (c : ℕ) → lowers_by r s c ≡ true → grade (link_by r s (operand_of s c)) ≡ 2
  unfolding lowers_by link_by grade
  lower-grade Flatten.index c h = refl
  lower-grade Flatten.property c h = refl
  lower-grade Flatten.method c h = lower-method (operand_of s c) h
  lower-grade Flatten.none c h = absurd (true≢false (sym h))

  fail-grade : (r : StepRule) (c : ℕ) → lowers_by r s c ≡ false → grade (link_by r s (operand_of s c)) < 2
  unfolding lowers_by link_by grade
  fail-grade Flatten.index c h = absurd (true≢false h)
  fail-grade Flatten.property c h = absurd (true≢false h)
  fail-grade Flatten.method c h = fail-method (operand_of s c) h
  fail-grade Flatten.none c h = omega arith

  lowers-far : (ls : List ℕ) → all_lower s ls ≡ true → least s ls ≡ 2
  unfolding all_lower step_lowers least link
  lowers-far [] h = refl
  lowers-far (c ∷ cs) h = by (lowers_by (step_rule s c) s c) refl (lowers-far cs) h
    where
      by : (l : Bool) → lowers_by (step_rule s c) s c ≡ l → (all_lower s cs ≡ true → least s cs ≡ 2) → all_lower s (c ∷ cs) ≡ true
          → least s (c ∷ cs) ≡ 2
      by true e ih = rw (e, all_lower) (λ h. let k = lower-grade (step_rule s c) c e in let i = ih h in omega arith)
      by false e ih = rw (e, all_lower) (λ h. absurd (true≢false (sym h)))

  lowers-not : (ls : List ℕ) → all_lower s ls ≡ false → least s ls < 2
  unfolding all_lower step_lowers least link
  lowers-not [] h = absurd (true≢false h)
  lowers-not (c ∷ cs) h = by (lowers_by (step_rule s c) s c) refl (lowers-not cs) h
    where
      by : (l : Bool) → lowers_by (step_rule s c) s c ≡ l → (all_lower s cs ≡ false → least s cs < 2) → all_lower s (c ∷ cs) ≡ false
          → least s (c ∷ cs) < 2
      by true e ih = rw (e, all_lower) (λ h. let i = ih h in omega arith)
      by false e ih = λ h. let k = fail-grade (step_rule s c) c e in omega arith

  -- the code's answer is the least of all links
  pub comes-least : {j : ℕ} {f : Far} → Comes s j f → reach_number f.distance ≡ least s (links max_depth s j)
  unfolding lowers reach_number flattens_at lowers_at
  comes-least {j} {f} F = by f.distance F.flattens_is F.lowers_is
    where
      by : (d : Distance) → flattens_at d ≡ flattens s (links max_depth s j) → lowers_at d ≡ all_lower s (links max_depth s j)
          → reach_number d ≡ least s (links max_depth s j)
      by Distances.Nowhere e g = sym (flattens-not (links max_depth s j) (sym e))
      by Distances.TakenBack e g =
          omega (arith, flattens-far (links max_depth s j) (sym e), lowers-not (links max_depth s j) (sym g))
      by Distances.Whole e g = sym (lowers-far (links max_depth s j) (sym g))

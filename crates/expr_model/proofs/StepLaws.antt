-- The steps of a chain: the change is what the definition's walk gives, and it only adds code.
use Prim.Native.Nat.{ℕ, zero, suc, ◌+◌, ◌-◌, ◌≤◌}
use mathlib.Core.Path.{◌≡◌, refl, sym, ap, subst, ◌∙◌}
use mathlib.Core.Bool.{Bool, true, false, false≢true}
use mathlib.Core.List.{List, [], ◌∷◌, append-nil}
use native.Mathlib.Omega.{arith}
use lib.ListN.{length}
use Rattle.expr_chains.proofs.LowersLaws.{step-fails}
use Rattle.lowering.proofs.LinkedChain.{method-lowers, steps-go, steps-fail}
use Rattle.sheet.specs.Node.{count, field_a, child}
use Rattle.sheet.specs.Walk.{skip}
use Rattle.bytecode.specs.declared.Step.{Step}
use Rattle.lowering.specs.Code.{Code}
use Rattle.lowering.specs.Pools.{Pools, name}
use Rattle.lowering.specs.Out.{out, Rec}
use Rattle.lowering.specs.Flatten as Flatten
use Rattle.lowering.specs.Flatten.{StepRule, step_rule, operand_of}
use Rattle.lowering.specs.Steps as Steps
use Rattle.lowering.specs.Steps.{stepped, is_lowerable_method, Walked, walked, stopped, onto}
use Rattle.expr_chains.proofs.Grow.{Grows, grows-refl, grows-trans}
use Rattle.expr_chains.specs.Lowers.{lowers_by, step_lowers}
use Rattle.expr_model.specs.Made.{Made, place, add_name}
use Rattle.expr_model.specs.Construct.{Low, operands, property, method, step_by, steps}
use Rattle.expr_model.proofs.Put.{put, low_of, made-path, put-none, put-put, put-place}
use Rattle.expr_model.proofs.SiblingLaws.{operands-is}

-- a step that lowers, and one that does not
module _ (s : List ℕ) (low : Low) where
  pub steps_on : (c : ℕ) (cs : List ℕ) (a : Made) → step_lowers s c ≡ true
      → steps s low (c ∷ cs) a ≡ steps s low cs (step_by (step_rule s c) s low c a)
  unfolding steps
  steps_on c cs a h = rw (h, steps)

  pub steps-stop : (c : ℕ) (cs : List ℕ) (a : Made) → step_lowers s c ≡ false → steps s low (c ∷ cs) a ≡ a
  unfolding steps
  steps-stop c cs a h = rw (h, steps)

  -- code is only added
  module _ (B : (j : ℕ) (a : Made) → Grows a.code (low j a).code) where
    operands-behind : (n j : ℕ) (a : Made) → Grows a.code (operands s low n j a).code
    unfolding operands
    operands-behind zero j a = grows-refl a.code
    operands-behind (suc n) j a = grows-trans (operands-behind n j a) (B (skip s n j) (operands s low n j a))

    step-behind : (r : StepRule) (c : ℕ) (a : Made) → Grows a.code (step_by r s low c a).code
    unfolding step_by property method add_name
    step-behind Flatten.index c a = B (operand_of s c) a
    step-behind Flatten.property c a = grows-refl a.code
    step-behind Flatten.method c a = operands-behind (count s (operand_of s c)) (child (operand_of s c)) a
    step-behind Flatten.none c a = grows-refl a.code

    pub steps-behind : (cs : List ℕ) (a : Made) → Grows a.code (steps s low cs a).code
    unfolding steps
    steps-behind [] a = grows-refl a.code
    steps-behind (c ∷ cs) a = by (step_lowers s c) refl (λ x. steps-behind cs x)
      where
        by : (t : Bool) → step_lowers s c ≡ t → ((x : Made) → Grows x.code (steps s low cs x).code)
            → Grows a.code (steps s low (c ∷ cs) a).code
        by true h more =
            rw (h, steps) (grows-trans (step-behind (step_rule s c) c a) (more (step_by (step_rule s c) s low c a)))
        by false h more = rw (h, steps) (grows-refl a.code)

-- a step that was made
record StepMade (s : List ℕ) (rec : Rec) (r : StepRule) (c n : ℕ) (a : Made) : Type 0 where
  code : Code
  step : Step
  width : ℕ
  pools : Pools
  is : Steps.step_by r s rec c n (place a) a.depth a.pools ≡ stepped code step width pools
  gives : step_by r s (low_of rec) c a ≡ put (out code pools) (a.depth + width) a

-- x is what the walk gives behind a, with n operands before it
abbrev Given : Walked → ℕ → Made → Made → Type 0
Given (walked code xs m q) n a x = (n ≤ m) × (x ≡ put (out code q) (a.depth + (m - n)) a)
Given (stopped q) n a x = x.pools ≡ q

module _ (s : List ℕ) (rec : Rec) where
  index-made : (c n : ℕ) (a : Made) → StepMade s rec Flatten.index c n a
  unfolding step_by Steps.step_by Steps.index_step
  index-made c n a = record { code = _; step = _; width = _; pools = _; is = refl; gives = made-path refl refl (omega arith) }

  property-made : (c n : ℕ) (a : Made) → StepMade s rec Flatten.property c n a
  unfolding step_by Steps.step_by Steps.property_step property add_name
  property-made c n a =
      record {
        code = _;
        step = _;
        width = _;
        pools = _;
        is = refl;
        gives = made-path (sym (append-nil a.code)) refl (omega arith);
      }

  method-made : (c n : ℕ) (a : Made) → is_lowerable_method s (operand_of s c) ≡ true → StepMade s rec Flatten.method c n a
  unfolding step_by Steps.step_by Steps.method_after method add_name
  method-made c n a h =
      let x = operand_of s c in
      record {
        code = _;
        step = _;
        width = _;
        pools = _;
        is = method-lowers s rec c n (place a) a.depth a.pools h;
        gives = ap (add_name s (name (field_a s x) 0)) (operands-is s rec (count s x) (child x) a);
      }

  step-made : (r : StepRule) (c n : ℕ) (a : Made) → lowers_by r s c ≡ true → StepMade s rec r c n a
  unfolding lowers_by
  step-made Flatten.index c n a h = index-made c n a
  step-made Flatten.property c n a h = property-made c n a
  step-made Flatten.method c n a h = method-made c n a h
  step-made Flatten.none c n a h = absurd (false≢true h)

  onto-given : (code : Code) (step : Step) (k : ℕ) (q : Pools) (w : Walked) (n : ℕ) (a x : Made)
      → Given w (n + k) (put (out code q) (a.depth + k) a) x → Given (onto code step w) n a x
  unfolding onto
  onto-given code step k q (walked rest xs m r) n a x (h, e) =
      let d = a.depth in
      let deep : d + k + (m - (n + k)) ≡ d + (m - n) = omega arith in
      (omega arith, e ∙ put-put (out code q) (out rest r) (d + k) (d + k + (m - (n + k))) a ∙ made-path refl refl deep)
  onto-given code step k q (stopped r) n a x h = h

  -- the rest behind a step that lowers
  goes : (c : ℕ) (cs : List ℕ) (n : ℕ) (a : Made) → step_lowers s c ≡ true
      → ((m : ℕ) (x : Made) → Given (Steps.steps s rec cs m (place x) x.depth x.pools) m x (steps s (low_of rec) cs x))
      → Given (Steps.steps s rec (c ∷ cs) n (place a) a.depth a.pools) n a (steps s (low_of rec) (c ∷ cs) a)
  unfolding step_lowers
  goes c cs n a h more =
      let one = step-made (step_rule s c) c n a h in
      let code = one.code in
      let k = one.width in
      let q = one.pools in
      let d = a.depth + k in
      let x = put (out code q) d a in
      let go : ℕ → Walked = λ b. Steps.steps s rec cs (n + k) b d q in
      let rest = subst (λ b. Given (go b) (n + k) x (steps s (low_of rec) cs x)) (put-place (out code q) d a) (more (n + k) x) in
      let whole = onto-given code one.step k q (go (place a + length code)) n a (steps s (low_of rec) cs x) rest in
      let walk = steps-go s rec c cs n (place a) a.depth a.pools code one.step k q one.is in
      let made = steps_on s (low_of rec) c cs a h ∙ ap (steps s (low_of rec) cs) one.gives in
      subst (λ w. Given w n a (steps s (low_of rec) (c ∷ cs) a)) (sym walk)
      (subst (Given (onto code one.step (go (place a + length code))) n a) (sym made) whole)

  halts : (c : ℕ) (cs : List ℕ) (n : ℕ) (a : Made) → step_lowers s c ≡ false
      → Given (Steps.steps s rec (c ∷ cs) n (place a) a.depth a.pools) n a (steps s (low_of rec) (c ∷ cs) a)
  unfolding step_lowers
  halts c cs n a h =
      let p = a.pools in
      let e = steps-fail s rec c cs n (place a) a.depth p p (step-fails s rec (step_rule s c) c n (place a) a.depth p h) in
      subst (λ w. Given w n a (steps s (low_of rec) (c ∷ cs) a)) (sym e) (ap (λ (x : Made). x.pools) (steps-stop s (low_of rec) c cs a h))

  steps-given : (cs : List ℕ) (n : ℕ) (a : Made)
      → Given (Steps.steps s rec cs n (place a) a.depth a.pools) n a (steps s (low_of rec) cs a)
  unfolding steps Steps.steps
  steps-given [] n a = (omega arith, put-none a ∙ made-path refl refl (omega arith))
  steps-given (c ∷ cs) n a = by (step_lowers s c) refl (λ m x. steps-given cs m x)
    where
      by : (t : Bool) → step_lowers s c ≡ t
          → ((m : ℕ) (x : Made) → Given (Steps.steps s rec cs m (place x) x.depth x.pools) m x (steps s (low_of rec) cs x))
          → Given (Steps.steps s rec (c ∷ cs) n (place a) a.depth a.pools) n a (steps s (low_of rec) (c ∷ cs) a)
      by true h more = goes c cs n a h more
      by false h more = halts c cs n a h

  -- a walk that came to its end
  pub steps-walked : (cs : List ℕ) (a : Made) (code : Code) (xs : List Step) (m : ℕ) (q : Pools)
      → Steps.steps s rec cs 0 (place a) a.depth a.pools ≡ walked code xs m q
      → steps s (low_of rec) cs a ≡ put (out code q) (a.depth + m) a
  steps-walked cs a code xs m q h =
      let g = subst (λ w. Given w 0 a (steps s (low_of rec) cs a)) h (steps-given cs 0 a) in
      g.1 ∙ made-path refl refl (omega arith)

  -- one that stopped
  pub steps-stopped : (cs : List ℕ) (a : Made) (q : Pools) → Steps.steps s rec cs 0 (place a) a.depth a.pools ≡ stopped q
      → (steps s (low_of rec) cs a).pools ≡ q
  steps-stopped cs a q h = subst (λ w. Given w 0 a (steps s (low_of rec) cs a)) h (steps-given cs 0 a)

-- Laws of plans and links, in the shapes of the code: what is counted, by the code's name of the rule.
use Prim.Native.Nat.{ℕ, zero, suc, ◌-◌, ◌≤◌, ◌<◌}
use mathlib.Core.Path.{◌≡◌, refl, sym, ap, ◌∙◌}
use mathlib.Core.Bool.{Bool, true, false, ◌&&◌, not, false≢true}
use mir.Val.{bool_byte}
use mathlib.Core.List.{List}
use native.Mathlib.Omega.{arith}
use lib.Dec.{eqb}
use lib.ListN.{get_or}
use borrow.Author.Tests.{ne_eqb, le-leb, lt-leb}
use Rattle.sheet.specs.Node.{kind, count}
use Rattle.sheet.specs.Namespace.{qualified, role}
use Rattle.lowering.specs.Limits.{max_elements}
use Rattle.lowering.specs.Call.{call_rule}
use Rattle.lowering.specs.Expression.{rules, rule, residual}
use Rattle.lowering.specs.Flatten as Flatten
use Rattle.lowering.specs.Flatten.{operand_of, step_rule}
use Rattle.lowering.specs.Steps.{is_lowerable_method}
use Rattle.expr_rules.specs.declared.kinds.Rule as Kinds
use Rattle.expr_rules.specs.declared.calls.CallRule as Calls
use Rattle.expr_rules.specs.declared.calls.First as Firsts
use Rattle.expr_rules.specs.declared.chains.StepRule as StepRules
use Rattle.expr_rules.specs.Answers.{rule_of, call_rule_of, first_of, step_rule_of}
use Rattle.expr_rules.proofs.InverseLaws.{rule_from, call_rule_from, first_from, rule_is, call-is, first-is, step_is}
use Rattle.expr_rules.specs.Inverse.{step_rule_from}
use Rattle.expr_count.specs.declared.plans.Plan.TheVariants.{Parts}
use Rattle.expr_count.specs.declared.links.Link.TheVariants.{Lowers, Fails}
use Rattle.expr_count.specs.Tally.{instructions}
use Rattle.expr_count.specs.Locals.{receiver_by}
use Rattle.expr_count.specs.Operands.{all}
use Rattle.expr_count.specs.Plan.{one, is_leaf, array, rotates, moves, call_by, fn_call_by, fn_call, plan_by, plan}
use Rattle.expr_count.specs.Link.{link_by, link, temporary}

leaf-large : (k : ℕ) → 10 < k → is_leaf k ≡ false
unfolding is_leaf
leaf-large k h =
    rw (le-leb 1 k (omega arith), lt-leb k 6 (omega arith), ne_eqb k 9 (λ e. omega arith), ne_eqb k 10 (λ e. omega arith)) refl

-- a leaf's plan, kind by kind
leaf-at : (here : ℕ → Bool) (s : List ℕ) (j k : ℕ) → is_leaf k ≡ true → plan_by here (get_or rules k residual) s j ≡ one
unfolding is_leaf rules plan_by
leaf-at here s j zero h = absurd (false≢true h)
leaf-at here s j (suc zero) h = refl
leaf-at here s j (suc (suc zero)) h = refl
leaf-at here s j (suc (suc (suc zero))) h = refl
leaf-at here s j (suc (suc (suc (suc zero)))) h = refl
leaf-at here s j (suc (suc (suc (suc (suc zero))))) h = refl
leaf-at here s j (suc (suc (suc (suc (suc (suc zero)))))) h = refl
leaf-at here s j (suc (suc (suc (suc (suc (suc (suc zero))))))) h = absurd (false≢true h)
leaf-at here s j (suc (suc (suc (suc (suc (suc (suc (suc zero)))))))) h = absurd (false≢true h)
leaf-at here s j (suc (suc (suc (suc (suc (suc (suc (suc (suc zero))))))))) h = refl
leaf-at here s j (suc (suc (suc (suc (suc (suc (suc (suc (suc (suc zero)))))))))) h = refl
leaf-at here s j (suc (suc (suc (suc (suc (suc (suc (suc (suc (suc (suc k))))))))))) h =
    absurd (false≢true (sym (leaf-large (suc (suc (suc (suc (suc (suc (suc (suc (suc (suc (suc k))))))))))) (omega arith)) ∙ h))

module _ (s : List ℕ) (j : ℕ) where
  module _ (here : ℕ → Bool) where
    pub leaf-plan : is_leaf (kind s j) ≡ true → plan here s j ≡ one
    unfolding plan rule
    leaf-plan h = leaf-at here s j (kind s j) h

    pub plan-at : (k : Kinds.Rule) → rule_of (rule s j) ≡ k → plan_by here (rule_from k) s j ≡ plan here s j
    unfolding plan
    plan-at k h = ap (λ r. plan_by here r s j) (rule_is (rule s j) k h)

    pub fn-call-at : (k : Calls.CallRule) → call_rule_of (call_rule s j) ≡ k → fn_call_by here (call_rule_from k) s j ≡ fn_call here s j
    unfolding fn_call
    fn-call-at k h = ap (λ r. fn_call_by here r s j) (call-is (call_rule s j) k h)

    pub call_at : (k : Firsts.First) → first_of (receiver_by here s j) ≡ k
        → call_by (first_from k) s j ≡ call_by (receiver_by here s j) s j
    call_at k h = ap (λ f. call_by f s j) (first-is (receiver_by here s j) k h)

  pub array-few : count s j ≤ max_elements → Parts 1 (all s j) (instructions 1) ≡ array s j
  unfolding array
  array-few h = rw (le-leb (count s j) max_elements h, array)

  pub array-many : max_elements < count s j → one ≡ array s j
  unfolding array
  array-many h = rw (lt-leb (count s j) max_elements h, array)

  pub link_at : (k : StepRules.StepRule) → step_rule_of (step_rule s j) ≡ k → link_by (step_rule_from k) s (operand_of s j) ≡ link s j
  unfolding link
  link_at k h = ap (λ r. link_by r s (operand_of s j)) (step_is (step_rule s j) k h)

  pub method-lowers : is_lowerable_method s j ≡ true → Lowers (all s j) ≡ link_by Flatten.method s j
  unfolding link_by
  method-lowers h = rw (h, link_by)

  pub method-fails : is_lowerable_method s j ≡ false → Fails ≡ link_by Flatten.method s j
  unfolding link_by
  method-fails h = rw (h, link_by)

  -- a root that is no variable and not `this`, as the code has it
  pub root-lowered : bool_byte (not (eqb (role s j) 9) && not (eqb (role s j) 10)) ≡ temporary s j
  unfolding temporary
  root-lowered = by (eqb (role s j) 9) (eqb (role s j) 10) refl refl
    where
      by : (a b : Bool) → eqb (role s j) 9 ≡ a → eqb (role s j) 10 ≡ b → bool_byte (not (eqb (role s j) 9) && not (eqb (role s j) 10)) ≡ temporary s j
      by true b e f = rw (e, temporary)
      by false true e f = rw (e, f, temporary)
      by false false e f = rw (e, f, temporary)

-- as the code has it
pub rotates-by : (others : ℕ) → bool_byte (not (eqb others 0)) ≡ rotates others
unfolding rotates
rotates-by others = by (eqb others 0) refl
  where
    by : (t : Bool) → eqb others 0 ≡ t → bool_byte (not (eqb others 0)) ≡ rotates others
    by true e = rw (e, rotates)
    by false e = rw (e, rotates)

-- at most one
pub rotates-least : (others : ℕ) → rotates others ≤ 1
unfolding rotates
rotates-least others = by (eqb others 0) refl
  where
    by : (t : Bool) → eqb others 0 ≡ t → rotates others ≤ 1
    by true e = rw (e, rotates) (omega arith)
    by false e = rw (e, rotates) (omega arith)

-- with a namespace nothing is moved
pub moves-none : (s : List ℕ) (j : ℕ) → qualified s j ≡ true → moves s j ≡ 0
unfolding moves
moves-none s j h = rw (h, moves)

pub moves-plain : (s : List ℕ) (j : ℕ) → qualified s j ≡ false → moves s j ≡ rotates (count s j - 1)
unfolding moves
moves-plain s j h = rw (h, moves)

pub moves-least : (s : List ℕ) (j : ℕ) → moves s j ≤ 1
moves-least s j = by (qualified s j) refl
  where
    by : (t : Bool) → qualified s j ≡ t → moves s j ≤ 1
    by true h = let e = moves-none s j h in omega arith
    by false h = let e = moves-plain s j h in let l = rotates-least (count s j - 1) in omega arith

-- What a call's rule and its first argument say of the count of arguments, and what a checked sheet says of its capture mark.
use Prim.Native.Nat.{ℕ, ◌+◌, ◌≤◌}
use mathlib.Core.Path.{◌≡◌, refl}
use mathlib.Core.Bool.{Bool, true, false, ◌&&◌, not, and-eq-true_iff}
use mathlib.Core.List.{List}
use native.Mathlib.Omega.{arith}
use lib.Dec.{leb, eqb}
use borrow.Author.Tests.{leb-true, eqb-true}
use Rattle.text.specs.Keyword.{is_eval, is_fn}
use Rattle.sheet.specs.Node.{kind, count, field_b, field_c, child}
use Rattle.sheet.specs.Namespace.{qualified}
use Rattle.check_shape.specs.Kinds.{bound}
use Rattle.check_shape.specs.Shape.{within_bounds_by, self_by}
use Rattle.lowering.specs.Limits.{max_args}
use Rattle.lowering.specs.Nodes.{Valid, Right}
use Rattle.lowering.proofs.NodesLaws.{node-own}
use Rattle.lowering.specs.Call.{CallRule, First, callee, syntactic, is_fn_ptr, is_fn_ptr_call, is_lowerable_call, general_rule, plain_rule}
use Rattle.lowering.specs.Call.{call_rule, first_of, receiver}
use Rattle.lowering.specs.Call as Call

capture-bound : (k : ℕ) → k ≡ 13 → bound k 3 ≡ 1
unfolding bound
capture-bound k h = rw h

-- an FnCall's capture mark is 0 or 1
pub call-capture : (s : List ℕ) (j : ℕ) → Right s → Valid s j → kind s j ≡ 13 → field_b s j ≤ 1
unfolding self_by within_bounds_by
call-capture s j C v h =
    let k = simp and-eq-true_iff at (node-own s C j v) in
    omega (arith, leb-true, capture-bound (kind s j) h)

module _ (s : List ℕ) (j : ℕ) where
  -- the count of arguments, by the rule
  abbrev pub RuleSays : CallRule → Type 0
  RuleSays Call.fn_ptr = count s j ≡ 1
  RuleSays Call.fn_ptr_call = (1 ≤ count s j) × (count s j ≤ max_args + 1)
  RuleSays Call.lowerable = count s j ≤ max_args
  RuleSays Call.eval = Prim.Unit {0}
  RuleSays Call.residual = Prim.Unit {0}

  pointer-says : is_fn_ptr s j ≡ true → count s j ≡ 1
  unfolding is_fn_ptr
  pointer-says h = eqb-true (count s j) 1 ((and-eq-true_iff (is_fn (callee s j)) (eqb (count s j) 1)).0 h).1

  pointer-call-says : is_fn_ptr_call s j ≡ true → (1 ≤ count s j) × (count s j ≤ max_args + 1)
  unfolding is_fn_ptr_call
  pointer-call-says h = let k = simp and-eq-true_iff at h in omega (arith, leb-true)

  lowerable-says : is_lowerable_call s j ≡ true → count s j ≤ max_args
  unfolding is_lowerable_call
  lowerable-says h = leb-true (count s j) max_args ((and-eq-true_iff (leb (count s j) max_args) (not (syntactic (callee s j)))).0 h).0

  other-says : RuleSays (elim (is_eval (callee s j)) [ true ↦ Call.eval | false ↦ Call.residual ])
  other-says = by (is_eval (callee s j))
    where
      by : (t : Bool) → RuleSays (elim t [ true ↦ Call.eval | false ↦ Call.residual ])
      by true = tt
      by false = tt

  general-says : RuleSays (general_rule s j)
  unfolding general_rule
  general-says = by (is_lowerable_call s j) refl
    where
      by : (t : Bool) → is_lowerable_call s j ≡ t → RuleSays (general_rule s j)
      by true h = rw (h, general_rule) (lowerable-says h)
      by false h = rw (h, general_rule) other-says

  plain-says : RuleSays (plain_rule s j)
  unfolding plain_rule
  plain-says = by (is_fn_ptr s j) refl
    where
      by_call : (t : Bool) → is_fn_ptr_call s j ≡ t → is_fn_ptr s j ≡ false → RuleSays (plain_rule s j)
      by_call true h f = rw (f, h, plain_rule) (pointer-call-says h)
      by_call false h f = rw (f, h, plain_rule) general-says

      by : (t : Bool) → is_fn_ptr s j ≡ t → RuleSays (plain_rule s j)
      by true h = rw (h, plain_rule) (pointer-says h)
      by false h = by_call (is_fn_ptr_call s j) refl h

  pub rule-says : RuleSays (call_rule s j)
  unfolding call_rule
  rule-says = by (qualified s j) refl
    where
      by : (t : Bool) → qualified s j ≡ t → RuleSays (call_rule s j)
      by true h = rw (h, call_rule) general-says
      by false h = rw (h, call_rule) plain-says

  -- a receiver is an argument
  abbrev pub FirstSays : First → Type 0
  FirstSays (Call.local slot) = 1 ≤ count s j
  FirstSays Call.named = 1 ≤ count s j
  FirstSays Call.this = 1 ≤ count s j
  FirstSays Call.value = Prim.Unit {0}

  any-says : 1 ≤ count s j → (f : First) → FirstSays f
  any-says h (Call.local slot) = h
  any-says h Call.named = h
  any-says h Call.this = h
  any-says h Call.value = tt

  pub first_says : FirstSays (receiver s j)
  unfolding receiver
  first_says = by (eqb (field_c s j) 0 && eqb (field_b s j) 0 && leb 1 (count s j)) refl
    where
      by : (t : Bool) → (eqb (field_c s j) 0 && eqb (field_b s j) 0 && leb 1 (count s j)) ≡ t → FirstSays (receiver s j)
      by true h =
          let some = ((and-eq-true_iff (eqb (field_c s j) 0 && eqb (field_b s j) 0) (leb 1 (count s j))).0 h).1 in
          rw (h, receiver) (any-says (leb-true 1 (count s j) some) (first_of s (child j)))
      by false h = rw (h, receiver) tt

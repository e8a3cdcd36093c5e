-- The way of a call, answer by answer.
use Rattle.std.proofs.Common.{◌≡◌, ℕ, true, false, List, sym, refl, ap, ◌∙◌}
use mathlib.Core.Option as Search
use mathlib.Core.Option.{none, some}
use Rattle.std.specs.Prelude.{Option}
use Rattle.sheet.specs.Node.{field_a, child}
use Rattle.sheet.specs.Text.{text}
use Rattle.sheet.specs.Namespace.{qualified}
use Rattle.lowering.specs.Kinds.{variable_kind, this_kind}
use Rattle.lowering.specs.Slots.{resolve}
use Rattle.lowering.specs.Call as Call
use Rattle.lowering.specs.Call.{call_rule, variable_first, receiver}
use Rattle.expr_slots.specs.Found.{found}
use Rattle.expr_rules.specs.declared.calls.CallRule as Calls
use Rattle.expr_rules.specs.Answers.{call_rule_of, receiver_role}
use Rattle.expr_rules.proofs.InverseLaws.{call_rule_from, call-is}
use Rattle.expr_rules.proofs.ReceiverLaws.{receiver-variable, receiver-this, receiver-value}
use Rattle.expr_emit.specs.declared.calls.Way.{Way}
use Rattle.expr_emit.specs.declared.calls.Way.TheVariants.{FnPtr, FnPtrCall, This, Value, Eval, Kept}
use Rattle.expr_emit.specs.Ways.{way_first, way_found, within, way_lowered, way_by, way_of}

found_first : (o : Search.Option ℕ) → way_found (found o) ≡ way_first (elim o [ some slot ↦ Call.local slot | none ↦ Call.named ])
unfolding way_found way_first found
found_first none = refl
found_first (some slot) = refl

module _ (s : List ℕ) (j : ℕ) where
  -- the way, by the receiver's role
  pub first-variable :
      {k v : ℕ} {f : Option ℕ} {w : Way} → k ≡ receiver_role s j → k ≡ variable_kind → v ≡ child j → f ≡ found (resolve s (text s (field_a s v)))
      → w ≡ way_found f → w ≡ way_first (receiver s j)
  unfolding variable_first
  first-variable k-is is v-is f-is w-is =
      w-is
      ∙ ap way_found f-is
      ∙ ap (λ (u : ℕ). way_found (found (resolve s (text s (field_a s u))))) v-is
      ∙ found_first (resolve s (text s (field_a s (child j))))
      ∙ ap way_first (sym (receiver-variable s j (sym k-is ∙ is)))

  pub first-this : {k : ℕ} → k ≡ receiver_role s j → k ≡ this_kind → This ≡ way_first (receiver s j)
  unfolding way_first
  first-this k-is is = ap way_first (sym (receiver-this s j (sym k-is ∙ is)))

  pub first-value :
      {k : ℕ} → k ≡ receiver_role s j → (k ≡ variable_kind → ⊥) → (k ≡ this_kind → ⊥) → Value ≡ way_first (receiver s j)
  unfolding way_first
  first-value k-is v t = ap way_first (sym (receiver-value s j (λ q. v (k-is ∙ q)) (λ q. t (k-is ∙ q))))

  -- with a namespace or without
  pub lowered-within : {w : Way} → qualified s j ≡ true → w ≡ way_first (receiver s j) → within w ≡ way_lowered (qualified s j) (receiver s j)
  unfolding way_lowered
  lowered-within q e = rw (q, way_lowered) (ap within e)

  pub lowered-plain : {w : Way} → qualified s j ≡ false → w ≡ way_first (receiver s j) → w ≡ way_lowered (qualified s j) (receiver s j)
  unfolding way_lowered
  lowered-plain q e = rw (q, way_lowered) e

  -- and by its rule, from what the code was told
  way-told : (k : Calls.CallRule) → call_rule_of (call_rule s j) ≡ k → way_by (qualified s j) (call_rule_from k) (receiver s j) ≡ way_of s j
  unfolding way_of
  way-told k h = ap (λ r. way_by (qualified s j) r (receiver s j)) (call-is (call_rule s j) k h)

  pub way-make : (k : Calls.CallRule) → k ≡ call_rule_of (call_rule s j) → k ≡ Calls.TheVariants.FnPtr → FnPtr ≡ way_of s j
  unfolding way_by call_rule_from
  way-make k e h = way-told Calls.TheVariants.FnPtr (sym e ∙ h)

  pub way-pointer : (k : Calls.CallRule) → k ≡ call_rule_of (call_rule s j) → k ≡ Calls.TheVariants.FnPtrCall → FnPtrCall ≡ way_of s j
  unfolding way_by call_rule_from
  way-pointer k e h = way-told Calls.TheVariants.FnPtrCall (sym e ∙ h)

  pub way-lowerable : (k : Calls.CallRule) → k ≡ call_rule_of (call_rule s j) → k ≡ Calls.TheVariants.Lowerable
      → way_lowered (qualified s j) (receiver s j) ≡ way_of s j
  unfolding way_by call_rule_from
  way-lowerable k e h = way-told Calls.TheVariants.Lowerable (sym e ∙ h)

  pub way-eval : (k : Calls.CallRule) → k ≡ call_rule_of (call_rule s j) → k ≡ Calls.TheVariants.Eval → Eval ≡ way_of s j
  unfolding way_by call_rule_from
  way-eval k e h = way-told Calls.TheVariants.Eval (sym e ∙ h)

  pub way-kept : (k : Calls.CallRule) → k ≡ call_rule_of (call_rule s j) → k ≡ Calls.TheVariants.Residual → Kept ≡ way_of s j
  unfolding way_by call_rule_from
  way-kept k e h = way-told Calls.TheVariants.Residual (sym e ∙ h)

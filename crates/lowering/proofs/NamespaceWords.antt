-- The namespace of a node of an accepted sheet, by the words of the node and the bytes of its text.
use Prim.Native.Nat.{ℕ, zero, suc, ◌-◌, ◌≤◌, ◌<◌}
use mathlib.Core.Path.{◌≡◌, refl, sym, ap, ◌∙◌}
use mathlib.Core.Bool.{Bool, true, false, and-eq-true_iff, true≢false}
use mathlib.Core.Logic.{◌⊎◌, inl, inr}
use mathlib.Core.List.{List, []}
use native.Mathlib.Omega.{arith}
use lib.Dec.{eqb}
use borrow.Author.Tests.{eqb-true, eqb-false, eq-eqb, ne_eqb, leb-true}
use Rattle.words.proofs.CountLaws.{all-at}
use Rattle.sheet.specs.Kinds.{variable_kind, fn_call_kind}
use Rattle.sheet.specs.Sections.{node_count, text_count}
use Rattle.sheet.specs.Node.{kind, namespace_word, namespace_pos}
use Rattle.sheet.specs.Text.{text, text_length}
use Rattle.sheet.specs.Namespace.{may_have, namespace_by, namespace, qualified}
use Rattle.sheet.proofs.NamespaceLaws.{namespace-none, plain-here, qualified-here}
use Rattle.check_shape.specs.Shape.{space_rule, self_by}
use Rattle.check_numbers.specs.Numbers.{exist, number_by, number_ok, node_numbers_by, numbers_by}
use Rattle.checks.specs.Checked.{verdict_number, checked}
use Rattle.lowering.specs.Nodes.{Valid}
use Rattle.lowering.specs.Modules.{Both, OfModule}
use Rattle.checks.proofs.AcceptedLaws.{accepted-sizes, accepted-texts, accepted-numbers}
use Rattle.checks.proofs.TextLaws.{text-none, length-none}
use Rattle.lowering.proofs.NodesLaws.{node-own}
use Rattle.lowering.proofs.SwitchAccepted.{accepted-right}

-- ---- the namespace by its word

module _ (s : List ℕ) (j : ℕ) where
  no-word : namespace_word s j ≡ 0 → namespace s j ≡ 0
  unfolding namespace namespace_by
  no-word z = by (may_have (kind s j)) refl
    where
      by : (t : Bool) → may_have (kind s j) ≡ t → namespace s j ≡ 0
      by true e = rw (e, z, namespace, namespace_by)
      by false e = rw (e, namespace)

  no-length : text_length s (namespace_word s j - 1) ≡ 0 → namespace s j ≡ 0
  unfolding namespace namespace_by
  no-length z = by (may_have (kind s j)) refl (eqb (namespace_word s j) 0) refl
    where
      by : (t : Bool) → may_have (kind s j) ≡ t → (u : Bool) → eqb (namespace_word s j) 0 ≡ u → namespace s j ≡ 0
      by true e true f = rw (e, f, namespace, namespace_by)
      by true e false f = rw (e, f, eq-eqb (text_length s (namespace_word s j - 1)) 0 z, namespace, namespace_by)
      by false e u f = rw (e, namespace)

  some-word : may_have (kind s j) ≡ true → (namespace_word s j ≡ 0 → ⊥) → (text_length s (namespace_word s j - 1) ≡ 0 → ⊥)
      → namespace s j ≡ namespace_word s j
  unfolding namespace namespace_by
  some-word m w l = rw (m, ne_eqb _ _ w, ne_eqb _ _ l, namespace, namespace_by)

  some-namespace : qualified s j ≡ true → namespace s j ≡ 0 → ⊥
  some-namespace q z = true≢false (sym q ∙ plain-here s j z)

-- ---- a sheet that passes the check

module _ (s : List ℕ) (a : verdict_number (checked s) ≡ 0) where
  -- numbers 2 and 4
  space : (j : ℕ) → Valid s j → space_rule (kind s j) (namespace_word s j) (namespace_pos s j) ≡ true
  unfolding self_by
  space j v = (simp and-eq-true_iff at (node-own s (accepted-right s a) j v)).0.0.1

  pub no-position : (j : ℕ) → Valid s j → namespace_word s j ≡ 0 → namespace_pos s j ≡ 0
  unfolding space_rule
  no-position j v e = eqb-true _ _ (rw e at (simp and-eq-true_iff at (space j v)).1)

  pub other-kinds : (j : ℕ) → Valid s j → (kind s j ≡ variable_kind → ⊥) → (kind s j ≡ fn_call_kind → ⊥)
      → (namespace_word s j ≡ 0) × (namespace_pos s j ≡ 0)
  unfolding space_rule
  other-kinds j v x f =
      let e = eqb-true _ _ (rw (ne_eqb _ _ x, ne_eqb _ _ f) at (simp and-eq-true_iff at (space j v)).0) in
      (e, no-position j v e)

  pub word-within : (j : ℕ) → Valid s j → namespace_word s j ≤ text_count s
  unfolding numbers_by node_numbers_by number_by exist
  word-within j v =
      let n = all-at (number_ok s) (node_count s) j (simp and-eq-true_iff at (accepted-numbers s a)).0 v in
      leb-true (namespace_word s j) (text_count s) (simp and-eq-true_iff at n).0.0.0.0.0

  -- a namespace that has no bytes has the length 0, and the other way round
  no-bytes : (j : ℕ) → Valid s j → (namespace_word s j ≡ 0 → ⊥)
      → Both (text_length s (namespace_word s j - 1) ≡ 0) (text s (namespace_word s j - 1) ≡ [])
  no-bytes j v z =
      let t = namespace_word s j - 1 in
      let l = below (namespace_word s j) (text_count s) z (word-within j v) in
      (text-none s (accepted-sizes s a) (accepted-texts s a) t l, length-none s (accepted-sizes s a) (accepted-texts s a) t l)
    where
      below : (w n : ℕ) → (w ≡ 0 → ⊥) → w ≤ n → w - 1 < n
      below zero n h l = absurd (h refl)
      below (suc w) n h l = omega arith

  pub empty-none : (j : ℕ) → Valid s j → text s (namespace_word s j - 1) ≡ [] → namespace s j ≡ 0
  empty-none j v e = by (eqb (namespace_word s j) 0) refl
    where
      by : (t : Bool) → eqb (namespace_word s j) 0 ≡ t → namespace s j ≡ 0
      by true z = no-word s j (eqb-true _ _ z)
      by false z = no-length s j ((no-bytes j v (eqb-false _ _ z)).1 e)

  pub namespace-is : {k j : ℕ} → may_have k ≡ true → OfModule s k j → namespace s j ≡ namespace_word s j
  namespace-is {k} {j} m o =
      some-word s j (ap may_have o.kind_is ∙ m) o.word (λ e. o.bytes ((no-bytes j o.valid o.word).0 e))

  pub is-qualified : {k j : ℕ} → may_have k ≡ true → OfModule s k j → qualified s j ≡ true
  is-qualified {k} {j} m o = qualified-here s j (λ z. o.word (sym (namespace-is m o) ∙ z))

  of-kind : (k j : ℕ) → Valid s j → kind s j ≡ k → qualified s j ≡ true → OfModule s k j
  of-kind k j v e q =
      record {
        valid = v;
        kind_is = e;
        word = λ z. some-namespace s j q (no-word s j z);
        bytes = λ z. some-namespace s j q (empty-none j v z);
      }

  pub module-is : (j : ℕ) → Valid s j → Both (qualified s j ≡ true) (OfModule s variable_kind j ⊎ OfModule s fn_call_kind j)
  module-is j v = (by (eqb (kind s j) variable_kind) refl (eqb (kind s j) fn_call_kind) refl, back)
    where
      by : (t : Bool) → eqb (kind s j) variable_kind ≡ t → (u : Bool) → eqb (kind s j) fn_call_kind ≡ u → qualified s j ≡ true
          → OfModule s variable_kind j ⊎ OfModule s fn_call_kind j
      by true e u f q = inl (of-kind variable_kind j v (eqb-true _ _ e) q)
      by false e true f q = inr (of-kind fn_call_kind j v (eqb-true _ _ f) q)
      by false e false f q = absurd (some-namespace s j q (namespace-none s j (eqb-false _ _ e) (eqb-false _ _ f)))

      back : OfModule s variable_kind j ⊎ OfModule s fn_call_kind j → qualified s j ≡ true
      back (inl o) = is-qualified refl o
      back (inr o) = is-qualified refl o

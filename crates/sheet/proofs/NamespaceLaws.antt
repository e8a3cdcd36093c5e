-- Laws of namespaces: which nodes have none, and what a node's role says of its kind.
use Prim.Native.Nat.{ℕ, ◌<◌}
use mathlib.Core.Path.{◌≡◌, refl, sym, ◌∙◌}
use mathlib.Core.Bool.{Bool, true, false, not, true≢false}
use mathlib.Core.List.{List}
use native.Mathlib.Omega.{arith}
use lib.Dec.{eqb}
use borrow.Author.Tests.{eqb-true, eqb-false, eq-eqb, ne_eqb}
use Rattle.sheet.specs.Kinds.{variable_kind, fn_call_kind}
use Rattle.sheet.specs.Node.{kind}
use Rattle.sheet.specs.Namespace.{namespace, qualified, qualified_variable, role}

module _ (s : List ℕ) (n : ℕ) where
  -- a node that is neither a Variable nor a FnCall has none
  pub namespace-none : (kind s n ≡ variable_kind → ⊥) → (kind s n ≡ fn_call_kind → ⊥) → namespace s n ≡ 0
  unfolding namespace
  namespace-none v c = rw (ne_eqb (kind s n) variable_kind v, ne_eqb (kind s n) fn_call_kind c, namespace)

  pub unqualified : qualified s n ≡ false → namespace s n ≡ 0
  unqualified h = by (eqb (namespace s n) 0) refl h
    where
      by : (t : Bool) → eqb (namespace s n) 0 ≡ t → not (eqb (namespace s n) 0) ≡ false → namespace s n ≡ 0
      by true e f = eqb-true (namespace s n) 0 e
      by false e f = absurd (true≢false (rw e at f))

  pub plain-here : namespace s n ≡ 0 → qualified s n ≡ false
  plain-here h = rw h

  pub qualified-here : (namespace s n ≡ 0 → ⊥) → qualified s n ≡ true
  qualified-here h = rw (ne_eqb (namespace s n) 0 h)

  -- a node without a namespace has its kind as its role
  pub role-plain : qualified s n ≡ false → role s n ≡ kind s n
  unfolding role qualified_variable
  role-plain h = by (eqb (kind s n) variable_kind) refl
    where
      by : (t : Bool) → eqb (kind s n) variable_kind ≡ t → role s n ≡ kind s n
      by true e = rw (e, h, role, qualified_variable)
      by false e = rw (e, role, qualified_variable)

  -- and so has a node that is no Variable
  pub role-other : (kind s n ≡ variable_kind → ⊥) → role s n ≡ kind s n
  unfolding role qualified_variable
  role-other v = rw (ne_eqb (kind s n) variable_kind v, role, qualified_variable)

  -- a Variable with a namespace has none of the kinds
  pub role-qualified : kind s n ≡ variable_kind → qualified s n ≡ true → role s n ≡ 0
  unfolding role qualified_variable
  role-qualified v h = rw (eq-eqb (kind s n) variable_kind v, h, role, qualified_variable)

  -- a role other than 0 is the node's kind
  pub role-kind : {k : ℕ} → role s n ≡ k → 0 < k → kind s n ≡ k
  role-kind {k = k} e h = by (eqb (kind s n) variable_kind) refl (qualified s n) refl
    where
      by : (t : Bool) → eqb (kind s n) variable_kind ≡ t → (q : Bool) → qualified s n ≡ q → kind s n ≡ k
      by true f true g = let z = role-qualified (eqb-true (kind s n) variable_kind f) g in absurd (omega arith)
      by true f false g = sym (role-plain g) ∙ e
      by false f q g = sym (role-other (eqb-false (kind s n) variable_kind f)) ∙ e

  -- a Variable by its role has no namespace
  pub role-variable : role s n ≡ variable_kind → qualified s n ≡ false
  role-variable e = by (qualified s n) refl
    where
      by : (q : Bool) → qualified s n ≡ q → qualified s n ≡ false
      by true g = let z = role-qualified (role-kind e (omega arith)) g in absurd (omega arith)
      by false g = g

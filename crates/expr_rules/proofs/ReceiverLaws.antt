-- The receiver of a call, by its role.
use Prim.Native.Nat.{ℕ}
use mathlib.Core.Path.{◌≡◌, refl, sym, ◌∙◌}
use mathlib.Core.Bool.{Bool, true, false, ◌&&◌}
use mathlib.Core.List.{List}
use native.Mathlib.Omega.{arith}
use lib.Dec.{leb, eqb}
use borrow.Author.Tests.{eq-eqb, ne_eqb}
use Rattle.sheet.specs.Node.{count, field_b, field_c, child}
use Rattle.sheet.specs.Namespace.{role}
use Rattle.lowering.specs.Kinds.{variable_kind, this_kind}
use Rattle.lowering.specs.Call as Call
use Rattle.lowering.specs.Call.{first_of, variable_first, receiver}
use Rattle.expr_rules.specs.Answers.{receiver_role}

module _ (s : List ℕ) (j : ℕ) where
  abbrev asked : Bool
  asked = eqb (field_c s j) 0 && eqb (field_b s j) 0 && leb 1 (count s j)

  -- it has one
  role-here : asked ≡ true → receiver_role s j ≡ role s (child j)
  unfolding receiver_role
  role-here h = rw (h, receiver_role)

  role-none : asked ≡ false → receiver_role s j ≡ 0
  unfolding receiver_role
  role-none h = rw (h, receiver_role)

  first-here : asked ≡ true → receiver s j ≡ first_of s (child j)
  unfolding receiver
  first-here h = rw (h, receiver)

  first-none : asked ≡ false → receiver s j ≡ Call.value
  unfolding receiver
  first-none h = rw (h, receiver)

  -- a variable
  pub receiver-variable : receiver_role s j ≡ variable_kind → receiver s j ≡ variable_first s (child j)
  unfolding first_of
  receiver-variable e = by asked refl
    where
      by : (t : Bool) → asked ≡ t → receiver s j ≡ variable_first s (child j)
      by true h =
          let k = sym (role-here h) ∙ e in
          let other : role s (child j) ≡ this_kind → ⊥ = λ q. omega arith in
          first-here h
          ∙ rw (ne_eqb (role s (child j)) this_kind other, eq-eqb (role s (child j)) variable_kind k, first_of)
      by false h = let k = role-none h in absurd (omega arith)

  -- `this`
  pub receiver-this : receiver_role s j ≡ this_kind → receiver s j ≡ Call.this
  unfolding first_of
  receiver-this e = by asked refl
    where
      by : (t : Bool) → asked ≡ t → receiver s j ≡ Call.this
      by true h = first-here h ∙ rw (eq-eqb (role s (child j)) this_kind (sym (role-here h) ∙ e), first_of)
      by false h = let k = role-none h in absurd (omega arith)

  -- a value, or none
  pub receiver-value : (receiver_role s j ≡ variable_kind → ⊥) → (receiver_role s j ≡ this_kind → ⊥) → receiver s j ≡ Call.value
  unfolding first_of
  receiver-value v w = by asked refl
    where
      by : (t : Bool) → asked ≡ t → receiver s j ≡ Call.value
      by true h =
          first-here h
          ∙ rw (
            ne_eqb (role s (child j)) this_kind (λ q. w (role-here h ∙ q)),
            ne_eqb (role s (child j)) variable_kind (λ q. v (role-here h ∙ q)),
            first_of,
          )
      by false h = first-none h

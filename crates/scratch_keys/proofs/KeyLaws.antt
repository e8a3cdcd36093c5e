-- Laws of the names that keys stand for.
use Prim.Native.Nat.{ℕ, ◌+◌, ◌<◌}
use mathlib.Core.Path.{◌≡◌, refl, sym, ap, ap₂, ◌∙◌}
use mathlib.Core.Bool.{Bool, true, false, ◌&&◌, not}
use mathlib.Core.List.{List}
use Rattle.std.specs.Int.{from_bool}
use native.Mathlib.Omega.{arith}
use lib.Dec.{eqb}
use borrow.Author.Tests.{ne_eqb, eqb-true, eqb-false}
use Rattle.sheet.specs.Node.{field, kind, field_a, field_b, field_c}
use Rattle.sheet.specs.Namespace.{namespace}
use Rattle.lowering.specs.Limits.{names_per_node}
use Rattle.lowering.specs.Pools.{name}
use Rattle.lowering.specs.Call.{stores_token}
use Rattle.lowering.specs.Flatten.{operand_of}
use Rattle.scratch_keys.specs.Keys.{key_node, key_field, key_of, call_kind, field_of, is_marked, mark_by, mark_of, namespace_of, name_of}

off : (a c d : Bool) → (a && false && c && d) ≡ false
off true c d = refl
off false c d = refl

module _ (s : List ℕ) where
  -- the fields by their numbers
  pub field-a : (j : ℕ) → field_of s 0 j ≡ field_a s j
  unfolding field_of
  field-a j = refl

  pub field-b : (j : ℕ) → field_of s 1 j ≡ field_b s j
  unfolding field_of
  field-b j = refl

  pub field-c : (j : ℕ) → field_of s 2 j ≡ field_c s (operand_of s j)
  unfolding field_of
  field-c j = refl

  field_at : (f j : ℕ) → f < 2 → field s j (3 + f) ≡ field_of s f j
  unfolding field_of
  field_at f j h = by (eqb f 0) refl
    where
      at : (n : ℕ) → field s j (3 + n) ≡ field_of s n j → f ≡ n → field s j (3 + f) ≡ field_of s f j
      at n r e = rw e r

      by : (t : Bool) → eqb f 0 ≡ t → field s j (3 + f) ≡ field_of s f j
      by true z = at 0 refl (eqb-true f 0 z)
      by false z = let a = eqb-false f 0 z in at 1 refl (omega arith)

  -- only a node's own name has a namespace, in the shapes of the code
  pub own-namespace : (j : ℕ) → namespace_of s j 0 ≡ namespace s j
  unfolding namespace_of
  own-namespace j = refl

  pub no-namespace : (j f : ℕ) → (f ≡ 0 → ⊥) → namespace_of s j f ≡ 0
  unfolding namespace_of
  no-namespace j f n = rw (ne_eqb f 0 n, namespace_of)

  pub namespace-own : (k : ℕ) {v : ℕ} → key_field k ≡ 0 → v ≡ namespace s (key_node k) → v ≡ (name_of s k).namespace
  unfolding name_of
  namespace-own k h e = e ∙ sym (ap (namespace_of s (key_node k)) h ∙ own-namespace (key_node k))

  pub namespace-none : (k : ℕ) → (key_field k ≡ 0 → ⊥) → 0 ≡ (name_of s k).namespace
  unfolding name_of
  namespace-none k n = sym (no-namespace (key_node k) (key_field k) n)

  -- the name with key 3 · j + f
  pub name-of :
      (j f : ℕ) → f < names_per_node
      → name_of s (key_of j f) ≡ record { text = field_of s f j; mark = mark_of s j f; namespace = namespace_of s j f }
  unfolding name_of
  name-of j f h =
      let node : key_node (key_of j f) ≡ j = omega arith in
      let place : key_field (key_of j f) ≡ f = omega arith in
      rw (node, place)

  -- without a namespace
  pub name-plain : (j f : ℕ) → f < names_per_node → namespace_of s j f ≡ 0 → name_of s (key_of j f) ≡ name (field_of s f j) (mark_of s j f)
  name-plain j f h e = name-of j f h ∙ ap (λ (w : ℕ). record { text = field_of s f j; mark = mark_of s j f; namespace = w }) e

  -- no mark but at field a of a call
  pub no-mark : (j f : ℕ) → (kind s j ≡ call_kind → ⊥) → mark_of s j f ≡ 0
  unfolding mark_of is_marked mark_by
  no-mark j f n =
      ap (λ (b : Bool). mark_by (eqb f 0 && b && not (stores_token s j) && eqb (field_b s j) 1)) (ne_eqb (kind s j) call_kind n)
      ∙ ap mark_by (off (eqb f 0) (not (stores_token s j)) (eqb (field_b s j) 1))

  mark-byte : (b : Bool) → from_bool b ≡ mark_by b
  unfolding mark_by
  mark-byte true = refl
  mark-byte false = refl

  pub mark-told : (k : ℕ) {b : Bool} {r : ℕ} → b ≡ is_marked s (key_node k) (key_field k) → r ≡ from_bool b → r ≡ (name_of s k).mark
  unfolding name_of mark_of
  mark-told k {b} e f = f ∙ mark-byte b ∙ ap mark_by e

  -- the text of a name, in the shapes of the code
  pub text_at : (k : ℕ) → (key_field k ≡ 2 → ⊥) → field s (key_node k) (3 + key_field k) ≡ (name_of s k).text
  unfolding name_of
  text_at k n = field_at (key_field k) (key_node k) (omega arith)

  pub text-setter : (k : ℕ) {v t : ℕ} → key_field k ≡ 2 → v ≡ operand_of s (key_node k) → t ≡ field_c s v → t ≡ (name_of s k).text
  unfolding name_of
  text-setter k h e f = f ∙ ap (field_c s) e ∙ sym (ap (λ (i : ℕ). field_of s i (key_node k)) h ∙ field-c (key_node k))

  -- `!`, in the shapes of the code
  pub marked-call :
      (k : ℕ) {n : ℕ} {token : Bool} {b : ℕ} → n ≡ kind s (key_node k) → token ≡ stores_token s (key_node k) → b ≡ field_b s (key_node k)
      → (eqb (key_field k) 0 && eqb n call_kind) ≡ true → (not token && eqb b 1) ≡ is_marked s (key_node k) (key_field k)
  unfolding is_marked
  marked-call k e f g h =
      ap₂ (λ (t : Bool) (m : ℕ). not t && eqb m 1) f g
      ∙ sym (ap (λ (a : Bool). a && not (stores_token s (key_node k)) && eqb (field_b s (key_node k)) 1)
      (ap (λ (m : ℕ). eqb (key_field k) 0 && eqb m call_kind) (sym e) ∙ h))

  pub marked-none :
      (k : ℕ) {n : ℕ} → n ≡ kind s (key_node k) → (eqb (key_field k) 0 && eqb n call_kind) ≡ false
      → false ≡ is_marked s (key_node k) (key_field k)
  unfolding is_marked
  marked-none k e h =
      sym (ap (λ (a : Bool). a && not (stores_token s (key_node k)) && eqb (field_b s (key_node k)) 1)
      (ap (λ (m : ℕ). eqb (key_field k) 0 && eqb m call_kind) (sym e) ∙ h))

-- Leaves: an entry is found or added, and one instruction names it.
use Rattle.std.proofs.Common.{◌≡◌, ℕ, true, false, List, sym, refl, ap, ◌∙◌, subst}
use mathlib.Core.Option as Search
use mathlib.Core.Option.{none, some}
use Rattle.std.specs.Prelude.{Option, Some, None}
use Rattle.scratch_store.proofs.GrowingLaws.{growing-emit}
use Rattle.sheet.specs.Node.{field_a, position, namespace_pos}
use Rattle.sheet.specs.Text.{text}
use Rattle.sheet.specs.Namespace.{namespace, qualified}
use Rattle.expr_slots.specs.Found.{found}
use Rattle.bytecode.specs.declared.Op.TheVariants.{Const, LoadLocal, LoadNamed}
use Rattle.lowering.specs.Pools.{Name, name, own_name, const_of, const_at, name_at}
use Rattle.lowering.specs.Slots.{resolve}
use Rattle.scratch_keys.specs.Keys.{key_of, name_of}
use Rattle.expr_model.specs.Made.{Made, emit, add_const, add_name}
use Rattle.expr_model.specs.Construct.{constant, load_named, load_qualified, load_plain, variable}
use Rattle.scratch.specs.declared.Layout.{Layout}
use Rattle.scratch_store.specs.declared.State.{State}
use Rattle.scratch_store.specs.Holds.{Holds}
use Rattle.scratch_store.specs.Does.{Does}
use Rattle.expr_emit.specs.Plain.{Plain, Unmarked}
use Rattle.expr_emit.proofs.Doing.{does-placed, does_at}

module _ {s : List ℕ} {l : Layout} {xs ys zs : List ℕ} {st q r : State} {at : ℕ} (j : ℕ) where
  pub constant-does : ((a : Made) → Holds s l xs st a → at ≡ const_at s (const_of s j) a.pools)
      → Does s l xs st ys q (add_const s (const_of s j)) → Does s l ys q zs r (emit (Const at) 0 0) → Does s l xs st zs r (constant s j)
  unfolding constant
  constant-does found d e = does-placed (λ (i : ℕ). emit (Const i) 0 0) (growing-emit (Const at) 0 0) found d e

  -- with the name as its key gives it
  pub load-named-does : (pos : ℕ) → Plain s j → pos ≡ position s j
      → ((a : Made) → Holds s l xs st a → at ≡ name_at s (name_of s (key_of j 0)) a.pools)
      → Does s l xs st ys q (add_name s (name_of s (key_of j 0))) → Does s l ys q zs r (emit (LoadNamed at) pos 0)
      → Does s l xs st zs r (load_named s j)
  unfolding load_named
  load-named-does pos plain at-pos found d e =
      does-placed {place = λ (a : Made). name_at s (name (field_a s j) 0) a.pools}
      (λ (i : ℕ). emit (LoadNamed i) (position s j) 0)
      (growing-emit (LoadNamed at) (position s j) 0)
      (subst (λ (n : Name). (a : Made) → Holds s l xs st a → at ≡ name_at s n a.pools) plain found)
      (does_at (add_name s) plain d)
      (does_at (λ (p : ℕ). emit (LoadNamed at) p 0) at-pos e)

  -- in its namespace
  pub load-qualified-does : (pos : ℕ) → Unmarked s j → pos ≡ namespace_pos s j
      → ((a : Made) → Holds s l xs st a → at ≡ name_at s (name_of s (key_of j 0)) a.pools)
      → Does s l xs st ys q (add_name s (name_of s (key_of j 0))) → Does s l ys q zs r (emit (LoadNamed at) pos 0)
      → Does s l xs st zs r (load_qualified s j)
  unfolding load_qualified
  load-qualified-does pos own at-pos found d e =
      does-placed {place = λ (a : Made). name_at s (own_name s j 0) a.pools}
      (λ (i : ℕ). emit (LoadNamed i) (namespace_pos s j) 0)
      (growing-emit (LoadNamed at) (namespace_pos s j) 0)
      (subst (λ (n : Name). (a : Made) → Holds s l xs st a → at ≡ name_at s n a.pools) own found)
      (does_at (add_name s) own d)
      (does_at (λ (p : ℕ). emit (LoadNamed at) p 0) at-pos e)

-- without a namespace an unmarked name is plain
pub unmarked-plain : (s : List ℕ) (j : ℕ) → namespace s j ≡ 0 → Unmarked s j → Plain s j
unmarked-plain s j n own = own ∙ ap (λ (w : ℕ). record { text = field_a s j; mark = 0; namespace = w }) n

-- the search's answer, back from the code's
unfoldable unfound : Option ℕ → Search.Option ℕ
unfound (Some slot) = some slot
unfound None = none

found_back : (o : Search.Option ℕ) → unfound (found o) ≡ o
unfolding unfound found
found_back none = refl
found_back (some slot) = refl

module _ {s : List ℕ} {l : Layout} {xs ys : List ℕ} {st r : State} (j : ℕ) where
  pub variable-qualified : qualified s j ≡ true → Does s l xs st ys r (load_qualified s j) → Does s l xs st ys r (variable s j)
  unfolding variable
  variable-qualified q d = rw (q, variable) d

  pub variable-local : (f : Option ℕ) (slot : ℕ) → qualified s j ≡ false → f ≡ found (resolve s (text s (field_a s j))) → f ≡ Some slot
      → Does s l xs st ys r (emit (LoadLocal slot) 0 0) → Does s l xs st ys r (variable s j)
  unfolding variable load_plain unfound
  variable-local f slot q e g d =
      let h : resolve s (text s (field_a s j)) ≡ some slot = sym (found_back (resolve s (text s (field_a s j)))) ∙ ap unfound (sym e ∙ g) in
      rw (q, variable, h, load_plain) d

  pub variable-named : (f : Option ℕ) → qualified s j ≡ false → f ≡ found (resolve s (text s (field_a s j))) → f ≡ None
      → Does s l xs st ys r (load_named s j) → Does s l xs st ys r (variable s j)
  unfolding variable load_plain unfound
  variable-named f q e g d =
      let h : resolve s (text s (field_a s j)) ≡ none = sym (found_back (resolve s (text s (field_a s j)))) ∙ ap unfound (sym e ∙ g) in
      rw (q, variable, h, load_plain) d

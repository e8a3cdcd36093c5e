-- The constant of a row of cases is one equal to the Case's value, so it is the Int x just where the Case is.
use Prim.Native.Nat.{ℕ, zero, suc, ◌<◌}
use mathlib.Core.Path.{◌≡◌, refl, sym, ap, ◌∙◌}
use mathlib.Core.Bool.{Bool, true, false, ◌&&◌, false≢true}
use mathlib.Core.List.{List, [], ◌∷◌}
use native.Mathlib.Omega.{arith}
use lib.Dec.{eqb}
use lib.ListN.{length, get_or, length-append, get_or-append}
use lib.Seq.{get_or-append_seam}
use borrow.Author.Tests.{eqb-true, eqb-false, eq-eqb}
use Rattle.lowering.proofs.FirstLaws.{first-within, first_passes, added_new, added-old}
use Rattle.laws.proofs.Bool.{both, and_left, and_right}
use Rattle.text.specs.Same.{same}
use Rattle.text.proofs.SameLaws.{same_refl}
use Rattle.sheet.specs.Node.{child}
use Rattle.sheet.specs.Text.{text}
use Rattle.switch_split.specs.Excess.{excess}
use Rattle.bytecode.specs.declared.SwitchCase.{SwitchCase}
use Rattle.lowering.specs.Kinds.{int_kind, string_kind}
use Rattle.lowering.specs.Pools.{Const, Pools, first_where, added, const_of, same_const, const_at, push_const}
use Rattle.lowering.specs.SwitchLaid.{SwitchLaid}
use Rattle.lowering.specs.SwitchTables.{case_pools, case_rows}

-- ---- the first entry that passes a test, and an entry added where none does

module _ {A : Type 0} (test : A → Bool) where
  module _ (x : A) (xs : List A) where
    -- what is added is found
    added-at : (d : A) → test x ≡ true
        → (first_where test xs < length (added test x xs)) × (test (get_or (added test x xs) (first_where test xs) d) ≡ true)
    added-at d h = by (eqb (first_where test xs) (length xs)) refl
      where
        by : (t : Bool) → eqb (first_where test xs) (length xs) ≡ t
            → (first_where test xs < length (added test x xs)) × (test (get_or (added test x xs) (first_where test xs) d) ≡ true)
        by true e =
            let q = eqb-true (first_where test xs) (length xs) e in
            rw (added_new test x xs e, q) (omega (arith, length-append xs (x ∷ [])), ap test (get_or-append_seam xs x [] d) ∙ h)
        by false e =
            let ne = eqb-false (first_where test xs) (length xs) e in
            let l : first_where test xs < length xs = omega (arith, first-within test xs) in
            rw (added-old test x xs e) (l, first_passes test d xs l)

    -- nothing else moves
    added-keeps : (d : A) (i : ℕ) → i < length xs → (i < length (added test x xs)) × (get_or (added test x xs) i d ≡ get_or xs i d)
    added-keeps d i h = by (eqb (first_where test xs) (length xs)) refl
      where
        by : (t : Bool) → eqb (first_where test xs) (length xs) ≡ t
            → (i < length (added test x xs)) × (get_or (added test x xs) i d ≡ get_or xs i d)
        by true e = rw (added_new test x xs e) (omega (arith, length-append xs (x ∷ [])), get_or-append xs (x ∷ []) d i h)
        by false e = rw (added-old test x xs e) (h, refl)

-- ---- equal constants

module _ (s : List ℕ) (v c : Const) where
  same_kind : eqb v.kind c.kind ≡ false → same_const s v c ≡ false
  unfolding same_const
  same_kind h = rw (h, same_const)

  same-text : eqb v.kind c.kind ≡ true → eqb v.kind string_kind ≡ true → same_const s v c ≡ same (text s v.a) (text s c.a)
  unfolding same_const
  same-text h k = rw (h, k, same_const)

  same_bits : eqb v.kind c.kind ≡ true → eqb v.kind string_kind ≡ false → same_const s v c ≡ (eqb v.a c.a && eqb v.b c.b)
  unfolding same_const
  same_bits h k = rw (h, k, same_const)

  -- a constant that is equal to v is the Int x just where v is
  pub same_int : (x : ℕ) → same_const s v c ≡ true
      → (eqb c.kind int_kind && eqb (excess c.a c.b) x) ≡ (eqb v.kind int_kind && eqb (excess v.a v.b) x)
  same_int x h = by (eqb v.kind c.kind) refl (eqb v.kind int_kind) refl
    where
      by : (t : Bool) → eqb v.kind c.kind ≡ t → (i : Bool) → eqb v.kind int_kind ≡ i
          → (eqb c.kind int_kind && eqb (excess c.a c.b) x) ≡ (eqb v.kind int_kind && eqb (excess v.a v.b) x)
      by false e i f = absurd (false≢true (sym (same_kind e) ∙ h))
      by true e true f =
          let k : v.kind ≡ c.kind = eqb-true v.kind c.kind e in
          let n : eqb v.kind string_kind ≡ false = ap (λ (m : ℕ). eqb m string_kind) (eqb-true v.kind int_kind f) in
          let b = sym (same_bits e n) ∙ h in
          let a₁ : v.a ≡ c.a = eqb-true v.a c.a (and_left (eqb v.a c.a) (eqb v.b c.b) b) in
          let b₁ : v.b ≡ c.b = eqb-true v.b c.b (and_right (eqb v.a c.a) (eqb v.b c.b) b) in
          rw (k, a₁, b₁)
      by true e false f =
          let k : v.kind ≡ c.kind = eqb-true v.kind c.kind e in
          let g : eqb c.kind int_kind ≡ false = ap (λ (m : ℕ). eqb m int_kind) (sym k) ∙ f in
          rw (f, g)

pub const-self : (s : List ℕ) (v : Const) → same_const s v v ≡ true
const-self s v = by (eqb v.kind string_kind) refl
  where
    k : eqb v.kind v.kind ≡ true
    k = eq-eqb v.kind v.kind refl

    by : (t : Bool) → eqb v.kind string_kind ≡ t → same_const s v v ≡ true
    by true e = same-text s v v k e ∙ same_refl (text s v.a)
    by false e = same_bits s v v k e ∙ both (eq-eqb v.a v.a refl) (eq-eqb v.b v.b refl)

-- ---- the constants of the rows

module _ (s : List ℕ) where
  pools-keep : (d : Const) (cs : List ℕ) (p : Pools) (i : ℕ) → i < length p.consts
      → (i < length (case_pools s cs p).consts) × (get_or (case_pools s cs p).consts i d ≡ get_or p.consts i d)
  unfolding case_pools push_const
  pools-keep d [] p i h = (h, refl)
  pools-keep d (c ∷ cs) p i h =
      let v = const_of s (child c) in
      let a = added-keeps (same_const s v) v p.consts d i h in
      let r = pools-keep d cs (push_const s v p) i a.0 in
      (r.0, r.1 ∙ a.1)

  -- row i has a constant that exists and is equal to the value of Case i
  pub case-const : (l : SwitchLaid) (fallback : ℕ) (row : SwitchCase) (d : Const) (cs : List ℕ) (p : Pools) (i : ℕ) → i < length cs
      → ((get_or (case_rows s l fallback cs p) i row).constant < length (case_pools s cs p).consts)
      × (same_const s (const_of s (child (get_or cs i 0)))
      (get_or (case_pools s cs p).consts (get_or (case_rows s l fallback cs p) i row).constant d) ≡ true)
  unfolding case_rows case_pools const_at push_const
  case-const l fallback row d [] p i h = absurd (omega arith)
  case-const l fallback row d (c ∷ cs) p zero h =
      let v = const_of s (child c) in
      let a = added-at (same_const s v) v p.consts d (const-self s v) in
      let k = pools-keep d cs (push_const s v p) (const_at s v p) a.0 in
      (k.0, ap (same_const s v) k.1 ∙ a.1)
  case-const l fallback row d (c ∷ cs) p (suc i) h = case-const l fallback row d cs (push_const s (const_of s (child c)) p) i (omega arith)

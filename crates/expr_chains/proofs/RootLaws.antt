-- Two roots are the same by the sheet if and only if they are over the pool of names.
use Prim.Native.Nat.{ℕ}
use mathlib.Core.Path.{◌≡◌, refl, sym, ap, ◌∙◌}
use mathlib.Core.Bool.{Bool, true, false, false≢true}
use mathlib.Core.Option.{Option, none, some}
use mathlib.Core.List.{List}
use native.Mathlib.Omega.{arith}
use lib.Dec.{eqb, leb}
use lib.ListN.{get_or}
use borrow.Author.Tests.{eqb-true, eqb-false, eq-eqb, ne_eqb}
use Rattle.laws.proofs.Bool.{lazy-true, lazy-of}
use Rattle.sheet.specs.Node.{field_a, position}
use Rattle.sheet.specs.Text.{text}
use Rattle.sheet.specs.Namespace.{role}
use Rattle.bytecode.specs.declared.Root.{Root}
use Rattle.bytecode.specs.declared.Root.TheVariants.{Local, Named, This, Temporary}
use Rattle.bytecode.specs.Chain.{root_words}
use Rattle.lowering.specs.Kinds.{variable_kind, this_kind}
use Rattle.lowering.specs.Pools.{Name}
use Rattle.lowering.specs.Slots.{resolve}
use Rattle.expr_chains.specs.Steps.{name_in, root_with, root_in}
use Rattle.expr_chains.specs.Same.{same_text, is_some, is_local, same_variable, root_kind, same_root_as, same_root}
use Rattle.expr_chains.specs.Pooled.{RootStands}
use Rattle.expr_chains.proofs.NameLaws.{texts-same, names-one, names_apart}

-- the kind of a root by its first word
word_kind : ℕ → ℕ
word_kind n = elim (leb n 1) [ true ↦ variable_kind | false ↦ elim (eqb n 2) [ true ↦ this_kind | false ↦ 0 ] ]

-- the kind of a root
pub kind-variable : (k : ℕ) → k ≡ variable_kind → root_kind k ≡ variable_kind
unfolding root_kind
kind-variable k h = rw h

pub kind-this : (k : ℕ) → k ≡ this_kind → root_kind k ≡ this_kind
unfolding root_kind
kind-this k h = rw h

pub kind-other : (k : ℕ) → (k ≡ variable_kind → ⊥) → (k ≡ this_kind → ⊥) → root_kind k ≡ 0
unfolding root_kind
kind-other k g h = rw (ne_eqb k variable_kind g, ne_eqb k this_kind h, root_kind)

data KindCase (k : ℕ) : Type 0 where
  variable : k ≡ variable_kind → root_kind k ≡ variable_kind → KindCase k
  this : k ≡ this_kind → root_kind k ≡ this_kind → KindCase k
  other : (k ≡ variable_kind → ⊥) → (k ≡ this_kind → ⊥) → root_kind k ≡ 0 → KindCase k

kind-case : (k : ℕ) → KindCase k
kind-case k = by (eqb k variable_kind) refl (eqb k this_kind) refl
  where
    by : (t : Bool) → eqb k variable_kind ≡ t → (u : Bool) → eqb k this_kind ≡ u → KindCase k
    by true g u h = let e = eqb-true k variable_kind g in variable e (kind-variable k e)
    by false g true h = let e = eqb-true k this_kind h in this e (kind-this k e)
    by false g false h =
        let n = eqb-false k variable_kind g in
        let m = eqb-false k this_kind h in
        other n m (kind-other k n m)

module _ (s : List ℕ) where
  -- the root of each case
  root-local : (v i slot : ℕ) → role s v ≡ variable_kind → resolve s (text s (field_a s v)) ≡ some slot → root_with s v i ≡ Local slot i
  unfolding root_with
  root-local v i slot g h = rw (eq-eqb (role s v) variable_kind g, h, root_with)

  root-named : (v i : ℕ) → role s v ≡ variable_kind → resolve s (text s (field_a s v)) ≡ none → root_with s v i ≡ Named i (position s v)
  unfolding root_with
  root-named v i g h = rw (eq-eqb (role s v) variable_kind g, h, root_with)

  pub root-this : (v i : ℕ) → role s v ≡ this_kind → root_with s v i ≡ This (position s v)
  unfolding root_with
  root-this v i g =
      let ne : role s v ≡ variable_kind → ⊥ = λ e. omega arith in
      rw (ne_eqb (role s v) variable_kind ne, eq-eqb (role s v) this_kind g, root_with)

  pub root-other : (v i : ℕ) → (role s v ≡ variable_kind → ⊥) → (role s v ≡ this_kind → ⊥) → root_with s v i ≡ Temporary
  unfolding root_with
  root-other v i g h = rw (ne_eqb (role s v) variable_kind g, ne_eqb (role s v) this_kind h, root_with)

  -- the test of each case
  pub as-variable : (k v w : ℕ) → k ≡ variable_kind → same_root_as k s v w ≡ same_variable s v w
  unfolding same_root_as
  as-variable k v w h = rw h

  as-this : (k v w : ℕ) → k ≡ this_kind → same_root_as k s v w ≡ eqb (position s v) (position s w)
  unfolding same_root_as
  as-this k v w h = rw h

  as-other : (k v w : ℕ) → k ≡ 0 → same_root_as k s v w ≡ true
  unfolding same_root_as
  as-other k v w h = rw h

  -- a variable that is a local is so by its bytes
  local-is : (v slot : ℕ) → resolve s (text s (field_a s v)) ≡ some slot → is_local s v ≡ true
  unfolding is_local is_some
  local-is v slot h = rw h

  local-not : (v : ℕ) → resolve s (text s (field_a s v)) ≡ none → is_local s v ≡ false
  unfolding is_local is_some
  local-not v h = rw h

  resolve_same : (v w : ℕ) → same_text s (field_a s v) (field_a s w) ≡ true → resolve s (text s (field_a s v)) ≡ resolve s (text s (field_a s w))
  resolve_same v w h = ap (resolve s) (texts-same s (field_a s v) (field_a s w) h)

  -- where the position counts
  pub record VariableSays (v w : ℕ) : Type 0 where
    pub name : same_text s (field_a s v) (field_a s w) ≡ true
    pub pos : is_local s v ≡ false → position s v ≡ position s w

  variable-says : (v w : ℕ) → same_variable s v w ≡ true → VariableSays v w
  unfolding same_variable
  variable-says v w h =
      let both = lazy-true (same_text s (field_a s v) (field_a s w))
      (elim (eqb (position s v) (position s w)) [ true ↦ true | false ↦ is_local s v ]) h in
      record { name = both.0; pos = λ f. by (eqb (position s v) (position s w)) refl f both.1 }
    where
      by : (t : Bool) → eqb (position s v) (position s w) ≡ t → is_local s v ≡ false
          → elim (eqb (position s v) (position s w)) [ true ↦ true | false ↦ is_local s v ] ≡ true → position s v ≡ position s w
      by true e f g = eqb-true (position s v) (position s w) e
      by false e f g = absurd (false≢true (sym f ∙ (rw e at g)))

  pub variable-here : (v w : ℕ) → same_text s (field_a s v) (field_a s w) ≡ true → position s v ≡ position s w → same_variable s v w ≡ true
  unfolding same_variable
  variable-here v w g h = rw (g, eq-eqb (position s v) (position s w) h, same_variable)

  variable-local : (v w : ℕ) → same_text s (field_a s v) (field_a s w) ≡ true → is_local s v ≡ true → same_variable s v w ≡ true
  unfolding same_variable
  variable-local v w g h =
      lazy-of (same_text s (field_a s v) (field_a s w)) (elim (eqb (position s v) (position s w)) [ true ↦ true | false ↦ is_local s v ]) g
      (by (eqb (position s v) (position s w)) refl)
    where
      by : (t : Bool) → eqb (position s v) (position s w) ≡ t
          → elim (eqb (position s v) (position s w)) [ true ↦ true | false ↦ is_local s v ] ≡ true
      by true e = rw e
      by false e = rw e h

  pub record RootSays (v w : ℕ) : Type 0 where
    pub kinds : root_kind (role s v) ≡ root_kind (role s w)
    pub parts : same_root_as (root_kind (role s v)) s v w ≡ true

  root-says : (v w : ℕ) → same_root s v w ≡ true → RootSays v w
  unfolding same_root
  root-says v w h =
      let both = lazy-true (eqb (root_kind (role s v)) (root_kind (role s w))) (same_root_as (root_kind (role s v)) s v w) h in
      record { kinds = eqb-true (root_kind (role s v)) (root_kind (role s w)) both.0; parts = both.1 }

  root-of : (v w : ℕ) → RootSays v w → same_root s v w ≡ true
  unfolding same_root
  root-of v w h =
      lazy-of (eqb (root_kind (role s v)) (root_kind (role s w))) (same_root_as (root_kind (role s v)) s v w)
      (eq-eqb (root_kind (role s v)) (root_kind (role s w)) h.kinds)
      h.parts

  -- roots that pass the test are equal
  variable-equal : (ns : List Name) (v w : ℕ) → role s v ≡ variable_kind → role s w ≡ variable_kind → VariableSays v w
      → root_in s ns v ≡ root_in s ns w
  unfolding root_in
  variable-equal ns v w g h says = by (resolve s (text s (field_a s v))) refl
    where
      one : name_in s ns (field_a s v) ≡ name_in s ns (field_a s w)
      one = names-one s ns (field_a s v) (field_a s w) says.name

      by : (o : Option ℕ) → resolve s (text s (field_a s v)) ≡ o → root_in s ns v ≡ root_in s ns w
      by none e =
          root-named v (name_in s ns (field_a s v)) g e
          ∙ rw (one, says.pos (local-not v e)) refl
          ∙ sym (root-named w (name_in s ns (field_a s w)) h (sym (resolve_same v w says.name) ∙ e))
      by (some slot) e =
          root-local v (name_in s ns (field_a s v)) slot g e
          ∙ ap (Local slot) one
          ∙ sym (root-local w (name_in s ns (field_a s w)) slot h (sym (resolve_same v w says.name) ∙ e))

  pub root-equal : (ns : List Name) (v w : ℕ) → same_root s v w ≡ true → root_in s ns v ≡ root_in s ns w
  unfolding root_in
  root-equal ns v w t = by (kind-case (role s v)) (kind-case (role s w))
    where
      says : RootSays v w
      says = root-says v w t

      by : KindCase (role s v) → KindCase (role s w) → root_in s ns v ≡ root_in s ns w
      by (variable g k) (variable h l) =
          variable-equal ns v w g h (variable-says v w (sym (as-variable (root_kind (role s v)) v w k) ∙ says.parts))
      by (variable g k) (this h l) = absurd (omega (arith, says.kinds))
      by (variable g k) (other h m l) = absurd (omega (arith, says.kinds))
      by (this g k) (variable h l) = absurd (omega (arith, says.kinds))
      by (this g k) (this h l) =
          root-this v (name_in s ns (field_a s v)) g
          ∙ ap This (eqb-true (position s v) (position s w) (sym (as-this (root_kind (role s v)) v w k) ∙ says.parts))
          ∙ sym (root-this w (name_in s ns (field_a s w)) h)
      by (this g k) (other h m l) = absurd (omega (arith, says.kinds))
      by (other g n k) (variable h l) = absurd (omega (arith, says.kinds))
      by (other g n k) (this h l) = absurd (omega (arith, says.kinds))
      by (other g n k) (other h m l) =
          root-other v (name_in s ns (field_a s v)) g n ∙ sym (root-other w (name_in s ns (field_a s w)) h m)

  -- roots with equal words pass the test, if their names stand in the pool
  variable-words : (ns : List Name) (v w : ℕ) → RootStands s ns v → RootStands s ns w → role s v ≡ variable_kind → role s w ≡ variable_kind
      → root_words (root_in s ns v) ≡ root_words (root_in s ns w) → same_variable s v w ≡ true
  unfolding root_in root_words
  variable-words ns v w a b g h e =
      by (resolve s (text s (field_a s v))) refl (resolve s (text s (field_a s w))) refl
    where
      one : name_in s ns (field_a s v) ≡ name_in s ns (field_a s w) → same_text s (field_a s v) (field_a s w) ≡ true
      one = names_apart s ns (field_a s v) (field_a s w) (a (eq-eqb (role s v) variable_kind g)) (b (eq-eqb (role s w) variable_kind h))

      words : (r q : Root) → root_with s v (name_in s ns (field_a s v)) ≡ r → root_with s w (name_in s ns (field_a s w)) ≡ q
          → root_words r ≡ root_words q
      words r q x y = sym (ap root_words x) ∙ e ∙ ap root_words y

      by : (o : Option ℕ) → resolve s (text s (field_a s v)) ≡ o → (u : Option ℕ) → resolve s (text s (field_a s w)) ≡ u
          → same_variable s v w ≡ true
      by none x none y =
          let f = words (Named (name_in s ns (field_a s v)) (position s v)) (Named (name_in s ns (field_a s w)) (position s w))
          (root-named v (name_in s ns (field_a s v)) g x) (root-named w (name_in s ns (field_a s w)) h y) in
          variable-here v w (one (cc)) (cc)
      by none x (some slot) y =
          let f = words (Named (name_in s ns (field_a s v)) (position s v)) (Local slot (name_in s ns (field_a s w)))
          (root-named v (name_in s ns (field_a s v)) g x) (root-local w (name_in s ns (field_a s w)) slot h y) in
          let z : ◌≡◌ {A = ℕ} 1 0 = cc in
          absurd (omega arith)
      by (some slot) x none y =
          let f = words (Local slot (name_in s ns (field_a s v))) (Named (name_in s ns (field_a s w)) (position s w))
          (root-local v (name_in s ns (field_a s v)) slot g x) (root-named w (name_in s ns (field_a s w)) h y) in
          let z : ◌≡◌ {A = ℕ} 0 1 = cc in
          absurd (omega arith)
      by (some slot) x (some slot') y =
          let f = words (Local slot (name_in s ns (field_a s v))) (Local slot' (name_in s ns (field_a s w)))
          (root-local v (name_in s ns (field_a s v)) slot g x) (root-local w (name_in s ns (field_a s w)) slot' h y) in
          variable-local v w (one (cc)) (local-is v slot x)

  first_word : (v i : ℕ) → word_kind (get_or (root_words (root_with s v i)) 0 0) ≡ root_kind (role s v)
  unfolding word_kind root_words
  first_word v i = by (kind-case (role s v)) (resolve s (text s (field_a s v))) refl
    where
      by : KindCase (role s v) → (o : Option ℕ) → resolve s (text s (field_a s v)) ≡ o
          → word_kind (get_or (root_words (root_with s v i)) 0 0) ≡ root_kind (role s v)
      by (variable g k) none x = rw (root-named v i g x) (sym k)
      by (variable g k) (some slot) x = rw (root-local v i slot g x) (sym k)
      by (this g k) o x = rw (root-this v i g) (sym k)
      by (other g n k) o x = rw (root-other v i g n) (sym k)

  this-words : (v w i k : ℕ) → role s v ≡ this_kind → role s w ≡ this_kind → root_words (root_with s v i) ≡ root_words (root_with s w k)
      → position s v ≡ position s w
  unfolding root_words
  this-words v w i k g h e =
      let f : root_words (This (position s v)) ≡ root_words (This (position s w)) =
      sym (ap root_words (root-this v i g)) ∙ e ∙ ap root_words (root-this w k h) in
      cc

  pub root-words : (ns : List Name) (v w : ℕ) → RootStands s ns v → RootStands s ns w
      → root_words (root_in s ns v) ≡ root_words (root_in s ns w) → same_root s v w ≡ true
  unfolding root_in
  root-words ns v w a b e = root-of v w (record { kinds = kinds; parts = by (kind-case (role s v)) (kind-case (role s w)) })
    where
      kinds : root_kind (role s v) ≡ root_kind (role s w)
      kinds =
          sym (first_word v (name_in s ns (field_a s v)))
          ∙ ap (λ (l : List ℕ). word_kind (get_or l 0 0)) e
          ∙ first_word w (name_in s ns (field_a s w))

      by : KindCase (role s v) → KindCase (role s w) → same_root_as (root_kind (role s v)) s v w ≡ true
      by (variable g k) (variable h l) = as-variable (root_kind (role s v)) v w k ∙ variable-words ns v w a b g h e
      by (variable g k) (this h l) = absurd (omega (arith, kinds))
      by (variable g k) (other h m l) = absurd (omega (arith, kinds))
      by (this g k) (variable h l) = absurd (omega (arith, kinds))
      by (this g k) (this h l) =
          as-this (root_kind (role s v)) v w k
          ∙ eq-eqb (position s v) (position s w) (this-words v w (name_in s ns (field_a s v)) (name_in s ns (field_a s w)) g h e)
      by (this g k) (other h m l) = absurd (omega (arith, kinds))
      by (other g n k) d = as-other (root_kind (role s v)) v w k

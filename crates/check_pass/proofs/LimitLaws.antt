-- Laws of the table of limits: a node within its kind's row is within the kind's bounds, the numbers in it exist if its namespace does,
-- and its kind is not refused.
use Prim.Native.Nat.{ℕ, suc, ◌+◌, ◌*◌, ◌<◌, ◌≤◌}
use mathlib.Core.Path.{◌≡◌, refl, ap, sym, subst}
use mathlib.Core.Bool.{Bool, true, false, ◌&&◌}
use native.Mathlib.Omega.{arith}
use lib.Dec.{leb, ltb, eqb}
use mathlib.Core.List.{List, [], ◌∷◌}
use lib.ListN.{get_or, set}
use Rattle.check_shape.specs.Rows.{numbers}
use Rattle.check_shape.specs.declared.Bounds as code
use borrow.Author.Tests.{le-leb, lt-ltb, eq-eqb, ne_eqb, eqb-true, eqb-false}
use Rattle.laws.proofs.Bool.{both}
use Rattle.check_shape.specs.Kinds.{any, bound}
use Rattle.check_shape.specs.Shape.{within_bounds_by, within_bounds}
use Rattle.check_numbers.specs.Numbers.{names_text, exist}
use Rattle.check_support.specs.Support.{refused_kind}
use Rattle.check_pass.specs.Limits.{none, last, any_of, row_, name_rows, limits, Row}

-- any word, or none
pub any_none : (x : ℕ) → x ≡ 0 → 0 ≡ any_of x
unfolding any_of
any_none x h = sym (rw (eq-eqb x 0 h, any_of))

pub any_some : (x : ℕ) → (x ≡ 0 → ⊥) → any ≡ any_of x
unfolding any_of
any_some x h = sym (rw (ne_eqb x 0 h, any_of))

-- the rows of kinds that name a text, as the code writes them
pub names-read : (x : ℕ) {n m t : ℕ} → n ≡ none x → m ≡ any_of x → t ≡ last x
    → row_ 1 0 0 0 0 ∷ row_ 0 0 1 0 0 ∷ row_ 0 0 0 0 0 ∷ row_ 0 0 any any 0 ∷ row_ 0 0 any any 0
    ∷ row_ 0 0 any 0 0 ∷ row_ n 0 t 0 0 ∷ row_ 0 any 0 0 0 ∷ row_ 0 any 0 0 0 ∷ row_ n 0 t 0 0
    ∷ row_ 0 0 0 0 0 ∷ row_ n 0 t t t ∷ row_ n m t 0 0 ∷ row_ n m t 1 65535 ∷ row_ 2 2 3 0 0
    ∷ row_ 2 2 3 0 0 ∷ row_ 1 any 0 0 0 ∷ row_ 1 any 0 0 0 ∷ row_ 1 any 0 0 0 ∷ row_ 1 any any any any
    ∷ row_ 1 any 0 0 0 ∷ row_ 2 2 1 any 0 ∷ row_ 0 0 any 0 0 ∷ row_ 1 0 0 0 0 ∷ row_ 1 0 0 0 0
    ∷ row_ 1 0 0 0 0 ∷ []
    ≡ name_rows x
names-read x hn hm ht = rw (hn, hm, ht) refl

-- and with those of kinds that name a block
pub limits-read : (x K : ℕ) {t : List code.Bounds} {z b : ℕ} → t ≡ name_rows x → z ≡ none K → b ≡ last K
    → numbers (set (set (set t 19 (row_ 1 any any any K)) 21 (row_ (2 + z) 2 1 b 0)) 22 (row_ z 0 b 0 0)) ≡ limits x K
unfolding numbers
limits-read x K ht hz hb = rw (ht, hz, hb) refl

-- a count that is within it, and at least 1 where there are none: there are some
some_of : (x m : ℕ) → none x ≤ m → m ≤ any_of x → (m ≤ any) × (0 < x)
some_of x m l u = by (eqb x 0) refl
  where
    by : (t : Bool) → eqb x 0 ≡ t → (m ≤ any) × (0 < x)
    by true e =
        let z = eqb-true x 0 e in
        let u₁ : m ≤ 0 = subst (λ y. m ≤ y) (sym (any_none x z)) u in
        absurd (omega arith)
    by false e =
        let z = eqb-false x 0 e in
        let u₁ : m ≤ any = subst (λ y. m ≤ y) (sym (any_some x z)) u in
        (u₁, omega arith)

-- within the bounds, as they are read from the table
bounds-true : (k m a b c : ℕ) → 1 ≤ k → k ≤ 25 → bound k 0 ≤ m → m ≤ bound k 1 → a ≤ bound k 2 → b ≤ bound k 3 → c ≤ bound k 4
    → within_bounds k m a b c ≡ true
unfolding within_bounds_by
bounds-true k m a b c h₁ h₂ l u f g h =
    let counts = both (both (both (le-leb _ _ h₁) (le-leb _ _ h₂)) (le-leb _ _ l)) (le-leb _ _ u) in
    both (both (both counts (le-leb _ _ f)) (le-leb _ _ g)) (le-leb _ _ h)

-- a fact of each number from k on, below n
data Each (P : ℕ → Type 0) : ℕ → ℕ → Type 0 where
  end : {n : ℕ} → Each P n n
  ◌▸◌ : {k n : ℕ} → P k → Each P (suc k) n → Each P k n

infixr 5 ◌▸◌
each_at : {P : ℕ → Type 0} {k n : ℕ} → Each P k n → (j : ℕ) → k ≤ j → j < n → P j
each_at end j l h = absurd (omega arith)
each_at {P} {k} {n} (p ▸ more) j l h = by (each_at more) (eqb k j) refl
  where
    by : ((j : ℕ) → suc k ≤ j → j < n → P j) → (t : Bool) → eqb k j ≡ t → P j
    by later true e = subst P (eqb-true k j e) p
    by later false e =
        let other = eqb-false k j e in
        later j (omega arith) h

-- among x texts and K blocks, each a word; the namespace's word is q
module _ (x K q : ℕ) (texts : x ≤ any) (blocks : K ≤ any) (there : leb q x ≡ true) where
  pub record Right (k m a b c : ℕ) : Type 0 where
    pub bounds : within_bounds k m a b c ≡ true
    pub numbers : exist x K k a b c q ≡ true
    pub taken : refused_kind k ≡ false

  -- the namespace exists, and nothing else is named
  alone : (leb q x && true && true && true && true && true) ≡ true
  alone = ap (λ t. t && true && true && true && true && true) there

  -- a node of kind k that is within its row
  abbrev By : ℕ → Type 0
  By k = (m a b c : ℕ) → Row (limits x K) k m a b c → Right k m a b c

  -- the row's entries, and the kind's bounds
  abbrev Entries : ℕ → ℕ → ℕ → ℕ → ℕ → ℕ → Type 0
  Entries k l u f g h =
      (get_or (limits x K) (5 * k) 0 ≡ l)
      × (get_or (limits x K) (5 * k + 1) 0 ≡ u)
      × (get_or (limits x K) (5 * k + 2) 0 ≡ f)
      × (get_or (limits x K) (5 * k + 3) 0 ≡ g)
      × (get_or (limits x K) (5 * k + 4) 0 ≡ h)

  abbrev Bounds : ℕ → ℕ → ℕ → ℕ → ℕ → ℕ → Type 0
  Bounds k l u f g h = (bound k 0 ≡ l) × (bound k 1 ≡ u) × (bound k 2 ≡ f) × (bound k 3 ≡ g) × (bound k 4 ≡ h)

  row_by : (k l u f g h : ℕ) → Entries k l u f g h → ((m a b c : ℕ) → l ≤ m → m ≤ u → a ≤ f → b ≤ g → c ≤ h → Right k m a b c) → By k
  row_by k l u f g h e p m a b c r =
      p m a b c (subst (λ y. y ≤ m) e.0 r.least) (subst (λ y. m ≤ y) e.1 r.most) (subst (λ y. a ≤ y) e.2 r.most-a)
      (subst (λ y. b ≤ y) e.3 r.most-b) (subst (λ y. c ≤ y) e.4 r.most-c)

  right : (k l u f g h : ℕ) → Bounds k l u f g h → 1 ≤ k → k ≤ 25 → (m a b c : ℕ) → l ≤ m → m ≤ u → a ≤ f → b ≤ g → c ≤ h
      → exist x K k a b c q ≡ true → refused_kind k ≡ false → Right k m a b c
  right k l u f g h e p r m a b c hl hu hf hg hh names not = record {
    bounds =
        bounds-true k m a b c p r (subst (λ y. y ≤ m) (sym e.0) hl) (subst (λ y. m ≤ y) (sym e.1) hu)
        (subst (λ y. a ≤ y) (sym e.2) hf) (subst (λ y. b ≤ y) (sym e.3) hg) (subst (λ y. c ≤ y) (sym e.4) hh);
    numbers = names;
    taken = not;
  }

  -- a row that is the kind's bounds
  plain_row : (k : ℕ) → 1 ≤ k → k ≤ 25 → Entries k (bound k 0) (bound k 1) (bound k 2) (bound k 3) (bound k 4)
      → ((a b c : ℕ) → exist x K k a b c q ≡ true) → refused_kind k ≡ false → By k
  plain_row k p l e names not =
      row_by k (bound k 0) (bound k 1) (bound k 2) (bound k 3) (bound k 4) e
      (λ m a b c d u f g h.
      right k (bound k 0) (bound k 1) (bound k 2) (bound k 3) (bound k 4) (refl, refl, refl, refl, refl) p l m a b c d u f g h
      (names a b c) not)

  empty-row : (k : ℕ) → Entries k 1 0 0 0 0 → By k
  empty-row k e = row_by k 1 0 0 0 0 e (λ m a b c l u f g h. absurd (omega arith))

  -- String and Variable
  text-row : (k : ℕ) → 1 ≤ k → k ≤ 25 → Entries k (none x) 0 (last x) 0 0 → Bounds k 0 0 any 0 0
      → ((a b c : ℕ) → ltb a x ≡ true → exist x K k a b c q ≡ true) → refused_kind k ≡ false → By k
  text-row k p r e d names not =
      row_by k (none x) 0 (last x) 0 0 e
      (λ m a b c l u f g h.
      right k 0 0 any 0 0 d p r m a b c (omega arith) u (omega arith) g h (names a b c (lt-ltb a x (omega arith))) not)

  property-row : By 11
  unfolding bound exist names_text refused_kind
  property-row =
      row_by 11 (none x) 0 (last x) (last x) (last x) (refl, refl, refl, refl, refl)
      (λ m a b c l u f g h.
      right 11 0 0 any any any (refl, refl, refl, refl, refl) (omega arith) (omega arith) m a b c (omega arith) u (omega arith)
      (omega arith) (omega arith)
      (ap (λ t. t && true && true && true)
      (both (both there (lt-ltb a x (omega arith))) (both (lt-ltb b x (omega arith)) (lt-ltb c x (omega arith))))) refl)

  -- MethodCall and FnCall
  call-row : (k g₁ h₁ : ℕ) → 1 ≤ k → k ≤ 25 → Entries k (none x) (any_of x) (last x) g₁ h₁ → Bounds k 0 any any g₁ h₁
      → ((a b c : ℕ) → ltb a x ≡ true → exist x K k a b c q ≡ true) → refused_kind k ≡ false → By k
  call-row k g₁ h₁ p r e d names not =
      row_by k (none x) (any_of x) (last x) g₁ h₁ e
      (λ m a b c l u f g h.
      let some = some_of x m l u in
      right k 0 any any g₁ h₁ d p r m a b c (omega arith) some.0 (omega arith) g h
      (names a b c (lt-ltb a x (omega (arith, some.1)))) not)

  switch-row : By 19
  unfolding bound exist names_text refused_kind
  switch-row =
      row_by 19 1 any any any K (refl, refl, refl, refl, refl)
      (λ m a b c l u f g h.
      right 19 1 any any any any (refl, refl, refl, refl, refl) (omega arith) (omega arith) m a b c l u f g (omega arith)
      (ap (λ t. t && true && true) (both (ap (λ t. t && true && true) there) (le-leb c K h))) refl)

  range-row : By 21
  unfolding bound exist names_text refused_kind
  range-row =
      row_by 21 (2 + none K) 2 1 (last K) 0 (refl, refl, refl, refl, refl)
      (λ m a b c l u f g h.
      right 21 2 2 1 any 0 (refl, refl, refl, refl, refl) (omega arith) (omega arith) m a b c (omega arith) u f (omega arith) h
      (ap (λ t. t && true) (both (ap (λ t. t && true && true && true) there) (lt-ltb b K (omega arith)))) refl)

  ref-row : By 22
  unfolding bound exist names_text refused_kind
  ref-row =
      row_by 22 (none K) 0 (last K) 0 0 (refl, refl, refl, refl, refl)
      (λ m a b c l u f g h.
      right 22 0 0 any 0 0 (refl, refl, refl, refl, refl) (omega arith) (omega arith) m a b c (omega arith) u (omega arith) g h
      (both (ap (λ t. t && true && true && true && true) there) (lt-ltb a K (omega arith))) refl)

  -- every kind has its row
  rows : Each By 0 26
  unfolding bound exist names_text refused_kind
  rows =
      empty-row 0 (refl, refl, refl, refl, refl)
      ▸ plain_row 1 (omega arith) (omega arith) (refl, refl, refl, refl, refl) (λ a b c. alone) refl
      ▸ plain_row 2 (omega arith) (omega arith) (refl, refl, refl, refl, refl) (λ a b c. alone) refl
      ▸ plain_row 3 (omega arith) (omega arith) (refl, refl, refl, refl, refl) (λ a b c. alone) refl
      ▸ plain_row 4 (omega arith) (omega arith) (refl, refl, refl, refl, refl) (λ a b c. alone) refl
      ▸ plain_row 5 (omega arith) (omega arith) (refl, refl, refl, refl, refl) (λ a b c. alone) refl
      ▸ text-row 6 (omega arith) (omega arith) (refl, refl, refl, refl, refl) (refl, refl, refl, refl, refl)
      (λ a b c h. ap (λ t. t && true && true && true && true) (both there h)) refl
      ▸ plain_row 7 (omega arith) (omega arith) (refl, refl, refl, refl, refl) (λ a b c. alone) refl
      ▸ plain_row 8 (omega arith) (omega arith) (refl, refl, refl, refl, refl) (λ a b c. alone) refl
      ▸ text-row 9 (omega arith) (omega arith) (refl, refl, refl, refl, refl) (refl, refl, refl, refl, refl)
      (λ a b c h. ap (λ t. t && true && true && true && true) (both there h)) refl
      ▸ plain_row 10 (omega arith) (omega arith) (refl, refl, refl, refl, refl) (λ a b c. alone) refl
      ▸ property-row
      ▸ call-row 12 0 0 (omega arith) (omega arith) (refl, refl, refl, refl, refl) (refl, refl, refl, refl, refl)
      (λ a b c h. ap (λ t. t && true && true && true && true) (both there h)) refl
      ▸ call-row 13 1 65535 (omega arith) (omega arith) (refl, refl, refl, refl, refl) (refl, refl, refl, refl, refl)
      (λ a b c h. ap (λ t. t && true && true && true && true) (both there h)) refl
      ▸ plain_row 14 (omega arith) (omega arith) (refl, refl, refl, refl, refl) (λ a b c. alone) refl
      ▸ plain_row 15 (omega arith) (omega arith) (refl, refl, refl, refl, refl) (λ a b c. alone) refl
      ▸ plain_row 16 (omega arith) (omega arith) (refl, refl, refl, refl, refl) (λ a b c. alone) refl
      ▸ plain_row 17 (omega arith) (omega arith) (refl, refl, refl, refl, refl) (λ a b c. alone) refl
      ▸ plain_row 18 (omega arith) (omega arith) (refl, refl, refl, refl, refl) (λ a b c. alone) refl
      ▸ switch-row
      ▸ plain_row 20 (omega arith) (omega arith) (refl, refl, refl, refl, refl) (λ a b c. alone) refl
      ▸ range-row
      ▸ ref-row
      ▸ empty-row 23 (refl, refl, refl, refl, refl)
      ▸ empty-row 24 (refl, refl, refl, refl, refl)
      ▸ empty-row 25 (refl, refl, refl, refl, refl)
      ▸ end

  pub row-right : (k m a b c : ℕ) → Row (limits x K) k m a b c → Right k m a b c
  row-right k m a b c r = each_at rows k (omega arith) (omega (arith, r.kind)) m a b c r

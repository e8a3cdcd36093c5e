-- The search for a list through the heads in the table, in the code's shapes. Assumed: `Hashed`, and that h is the hash of the list.
use Prim.Native.Nat.{ℕ, zero, suc, ◌+◌, ◌≤◌, ◌<◌}
use mathlib.Core.Path.{◌≡◌, refl, sym, ◌∙◌, ap, ap₂}
use mathlib.Core.Bool.{Bool, true, false, ◌&&◌, true≢false}
use mathlib.Core.List.{List, [], ◌∷◌}
use native.Mathlib.Omega.{arith}
use lib.Dec.{eqb}
use lib.ListN.{drop, set, drop_of_length-le}
use lib.Seq.{drop-cons}
use borrow.Author.Tests.{eq-eqb, ne_eqb}
use Rattle.std.specs.Prelude.{Option, None, Some, IfSome}
use Rattle.std.specs.Option.{unwrap_or, MatchOption}
use Rattle.laws.proofs.Bool.{and_right}
use Rattle.text.specs.Same.{same}
use Rattle.text.proofs.SameLaws.{same_true}
use Rattle.switch_tables.specs.Columns.{cell}
use Rattle.switch_tables.specs.Hash.{hash_of}
use Rattle.switch_tables.specs.Numbers.{number_in}
use Rattle.switch_tables.proofs.ColumnLaws.{keys_length, key-at}
use Rattle.switch_heads.specs.Hashed.{lists_by, Hashed, Numbered, met, first, met_at}
use Rattle.switch_heads.proofs.NumbersLaws.{number-here, number-later}

-- a head is looked at, at x and y of its columns
module _ (key : ℕ → List ℕ) (w : List ℕ) (at hashes : ℕ) (l : List ℕ) (h q x : ℕ) (x-is : x ≡ cell w (hashes + q)) where
  -- its list is compared
  pub met-compared : x ≡ h → (y : ℕ) (b : Bool) → y ≡ cell w (at + q) → b ≡ same l (key y) → b ≡ met_at key w at hashes l h q
  unfolding met_at
  met-compared e y b y-is b-is = rw (← y-is, ← x-is, eq-eqb x h e) b-is

  -- its hash is another
  pub met-other : (x ≡ h → ⊥) → eqb x h ≡ met_at key w at hashes l h q
  unfolding met_at
  met-other ne = rw (← x-is, ne_eqb x h ne) refl

-- what the search answers
abbrev pub Searched : (ℕ → Bool) → ℕ → Option ℕ → Type 0
Searched hit k r =
    MatchOption r ((j : ℕ) → 0 ≤ j → j < k → false ≡ hit j)
    (λ i. (0 ≤ i) × (i < k) × (true ≡ hit i) × ((j : ℕ) → 0 ≤ j → j < i → false ≡ hit j))

module _ (key : ℕ → List ℕ) (w : List ℕ) (at hashes k : ℕ) (l : List ℕ) (h : ℕ) (h-is : h ≡ hash_of l)
    (hashed : Hashed key w at hashes k) where
  abbrev met-here : ℕ → Bool
  met-here = met_at key w at hashes l h

  abbrev ms : List (List ℕ)
  ms = lists_by key w at k

  abbrev list-at : ℕ → List ℕ
  list-at q = key (cell w (at + q))

  other : (q : ℕ) → q < k → false ≡ met-here q → same l (list-at q) ≡ false
  unfolding met_at
  other q o miss = by (same l (list-at q)) refl
    where
      by : (b : Bool) → same l (list-at q) ≡ b → same l (list-at q) ≡ false
      by true e =
          let hash : cell w (hashes + q) ≡ h = hashed.hash_at q o ∙ ap hash_of (sym (same_true l (list-at q) e)) ∙ sym h-is in
          absurd (true≢false (sym (miss ∙ ap₂ ◌&&◌ (eq-eqb (cell w (hashes + q)) h hash) e)))
      by false e = e

  cons : (q : ℕ) → q < k → drop q ms ≡ list-at q ∷ drop (suc q) ms
  cons q o = rw (drop-cons ms q [] (omega (arith, keys_length key w at k)), key-at key w at [] k q o)

  -- the first q are others
  passed : (q : ℕ) → q ≤ k → ((j : ℕ) → 0 ≤ j → j < q → false ≡ met-here j) → q + number_in l (drop q ms) ≡ number_in l ms
  passed zero o miss = omega arith
  passed (suc q) o miss =
      let before = passed q (omega arith) (λ j z m. miss j z (omega arith)) in
      let here = other q o (miss q (omega arith) (omega arith)) in
      let told : q + number_in l (list-at q ∷ drop (suc q) ms) ≡ number_in l ms = rw (cons q o) at before in
      omega (arith, told, number-later l (list-at q) (drop (suc q) ms) here)

  pub first-number : (r : Option ℕ) → Searched met-here k r → unwrap_or r k ≡ number_in l ms
  unfolding number_in met_at
  first-number None miss =
      let none : drop k ms ≡ [] = drop_of_length-le ms {i = k} (omega (arith, keys_length key w at k)) in
      omega (arith, rw none at (passed k (omega arith) miss))
  first-number (Some q) (z, o, is, miss) =
      let same-is : same l (list-at q) ≡ true = and_right (eqb (cell w (hashes + q)) h) (same l (list-at q)) (sym is) in
      let told : q + number_in l (list-at q ∷ drop (suc q) ms) ≡ number_in l ms = rw (cons q o) at (passed q (omega arith) miss) in
      omega (arith, told, number-here l (list-at q) (drop (suc q) ms) same-is)

-- what is written for list i, that of k, with what the search answers
module _ (key : ℕ → List ℕ) (w : List ℕ) (numbers at hashes heads i k : ℕ) (l : List ℕ) (l-is : l ≡ key k) (r : Option ℕ)
    (number : unwrap_or r heads ≡ number_in l (lists_by key w at heads)) where
  now : unwrap_or r heads ≡ number_in (key k) (lists_by key w at heads)
  now = number ∙ ap (λ (m : List ℕ). number_in m (lists_by key w at heads)) l-is

  -- a head has it
  pub put-met : (q : ℕ) (v : List ℕ) → r ≡ Some q → IfSome r (λ (q : ℕ). q < heads) → v ≡ set w (numbers + i) q
      → Numbered key numbers at hashes w heads i k v heads
  put-met q v is less write = met q (rw is at now) (rw is at less) write refl

  -- none has it
  pub put-first : (h : ℕ) (v₁ v₂ v₃ : List ℕ) → r ≡ None → h ≡ hash_of l → v₁ ≡ set w (numbers + i) heads → v₂ ≡ set v₁ (at + heads) k
      → v₃ ≡ set v₂ (hashes + heads) h → Numbered key numbers at hashes w heads i k v₃ (heads + 1)
  put-first h v₁ v₂ v₃ is h-is a b c = first (rw is at now) (rw (← l-is, ← h-is, ← a, ← b) c) refl

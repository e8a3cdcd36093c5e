-- Laws of the integers that a range contains, and of the blocks of the ranges that pass a test.
use Prim.Native.Nat.{ℕ, ◌≤◌, ◌<◌}
use mathlib.Core.Path.{◌≡◌, refl}
use mathlib.Core.Bool.{Bool, true, false}
use mathlib.Core.List.Memᴰ
use mathlib.Core.List.{List, [], ◌∷◌, Memᴰ}
use mathlib.Core.Logic.{◌⊎◌, inl, inr}
use native.Mathlib.Omega.{arith}
use lib.Dec.{leb, ltb}
use borrow.Author.Tests.{leb-true, ltb-true, le-leb, lt-ltb}
use Rattle.laws.proofs.Bool.{both, and_left, and_right}
use Rattle.switch_split.specs.Range.{Range, inside, blocks_where}

-- ---- which integers are inside

-- x does not pass the end b
abbrev pub Within : ℕ → Bool → ℕ → Type 0
Within b true x = x ≤ b
Within b false x = x < b

pub within-le : (b : ℕ) (i : Bool) (x : ℕ) → Within b i x → x ≤ b
within-le b true x h = h
within-le b false x h = omega arith

pub within-lt : (b : ℕ) (i : Bool) (x : ℕ) → x < b → Within b i x
within-lt b true x h = omega arith
within-lt b false x h = h

pub inside-yes : (a b : ℕ) (i : Bool) (x : ℕ) → a ≤ x → Within b i x → inside a b i x ≡ true
unfolding inside
inside-yes a b true x h k = both (le-leb a x h) (le-leb x b k)
inside-yes a b false x h k = both (le-leb a x h) (lt-ltb x b k)

pub inside-low : (a b : ℕ) (i : Bool) (x : ℕ) → inside a b i x ≡ true → a ≤ x
unfolding inside
inside-low a b true x h = leb-true a x (and_left (leb a x) (leb x b) h)
inside-low a b false x h = leb-true a x (and_left (leb a x) (ltb x b) h)

pub inside-high : (a b : ℕ) (i : Bool) (x : ℕ) → inside a b i x ≡ true → Within b i x
unfolding inside
inside-high a b true x h = leb-true x b (and_right (leb a x) (leb x b) h)
inside-high a b false x h = ltb-true x b (and_right (leb a x) (ltb x b) h)

pub inside-no : (a b : ℕ) (i : Bool) (x : ℕ) → (a ≤ x → Within b i x → ⊥) → inside a b i x ≡ false
inside-no a b i x h = by (inside a b i x) refl
  where
    by : (t : Bool) → inside a b i x ≡ t → inside a b i x ≡ false
    by true e = absurd (h (inside-low a b i x e) (inside-high a b i x e))
    by false e = e

-- ---- the blocks of the ranges that pass a test

module _ (f : Range → Bool) (r : Range) (rs : List Range) where
  pub where-yes : f r ≡ true → blocks_where f (r ∷ rs) ≡ r.block ∷ blocks_where f rs
  unfolding blocks_where
  where-yes h = cc

  pub where-no : f r ≡ false → blocks_where f (r ∷ rs) ≡ blocks_where f rs
  unfolding blocks_where
  where-no h = cc

-- equal tests of the ranges at hand give equal lists
pub where-same : (f g : Range → Bool) (rs : List Range) → ((r : Range) → Memᴰ r rs → f r ≡ g r) → blocks_where f rs ≡ blocks_where g rs
unfolding blocks_where
where-same f g [] h = refl
where-same f g (r ∷ rs) h = by (g r) refl (h r (Memᴰ.head refl)) (where-same f g rs (λ s m. h s (Memᴰ.tail m)))
  where
    by : (t : Bool) → g r ≡ t → f r ≡ g r → blocks_where f rs ≡ blocks_where g rs → blocks_where f (r ∷ rs) ≡ blocks_where g (r ∷ rs)
    by true e q k = cc (where-yes f r rs (cc), where-yes g r rs e)
    by false e q k = cc (where-no f r rs (cc), where-no g r rs e)

-- no range passes
pub where-none : (f : Range → Bool) (rs : List Range) → ((r : Range) → Memᴰ r rs → f r ≡ false) → blocks_where f rs ≡ []
unfolding blocks_where
where-none f [] h = refl
where-none f (r ∷ rs) h = cc (where-no f r rs (h r (Memᴰ.head refl)), where-none f rs (λ s m. h s (Memᴰ.tail m)))

-- and conversely
where-empty : (f : Range → Bool) (rs : List Range) → blocks_where f rs ≡ [] → (r : Range) → Memᴰ r rs → f r ≡ false
where-empty f [] h r m = elim m [ ]
where-empty f (s ∷ rs) h r m = by (f s) refl (where-empty f rs) (Memᴰ.cases_cons m)
  where
    by : (t : Bool) → f s ≡ t → (blocks_where f rs ≡ [] → (q : Range) → Memᴰ q rs → f q ≡ false) → (r ≡ s) ⊎ Memᴰ r rs
        → f r ≡ false
    by true e k o = cc (where-yes f s rs e)
    by false e k (inl q) = cc
    by false e k (inr n) = k (cc (where-no f s rs e)) r n

-- a test that fewer ranges pass leaves nothing where the other leaves nothing
pub where-less : (f g : Range → Bool) (rs : List Range) → ((r : Range) → f r ≡ true → g r ≡ true) → blocks_where g rs ≡ []
    → blocks_where f rs ≡ []
where-less f g rs h k = where-none f rs (λ r m. by r (f r) refl (where-empty g rs k r m))
  where
    by : (r : Range) (t : Bool) → f r ≡ t → g r ≡ false → f r ≡ false
    by r true e n = cc (h r e)
    by r false e n = e

-- Laws of walks over siblings: m in all, of which i are passed, with node j next.
use Rattle.std.proofs.Common.{◌≡◌, ℕ, zero, suc, ◌+◌, ◌-◌, ◌<◌, ◌≤◌, Bool, true, false, List, sym, refl, ap, ◌∙◌, suc-add, zero-add, arith}
use Rattle.laws.proofs.Numbers.{left_one, one_less}
use Rattle.sheet.specs.Node.{next}
use Rattle.sheet.specs.Walk.{siblings_by, siblings, skip, sibling_list}
use Rattle.std.specs.Prelude.{[], ◌∷◌}

left-none : (m i : ℕ) → m ≤ i → m - i ≡ 0
left-none m i h = omega arith

module _ (P : ℕ → Bool) (s : List ℕ) where
  sibling-passes : (l j : ℕ) → P j ≡ true → siblings P s (suc l) j ≡ siblings P s l (next s j)
  unfolding siblings_by
  sibling-passes l j h = rw (h, siblings_by)

  sibling-fails : (l j : ℕ) → P j ≡ false → siblings P s (suc l) j ≡ false
  unfolding siblings_by
  sibling-fails l j h = rw (h, siblings_by)

  pub siblings-more : (m i j : ℕ) → i < m → P j ≡ true → siblings P s (m - i) j ≡ siblings P s (m - (i + 1)) (next s j)
  siblings-more m i j h p = ap (λ l. siblings P s l j) (left_one m i h) ∙ sibling-passes (m - (i + 1)) j p

  pub siblings-fail : (m i j : ℕ) → i < m → P j ≡ false → siblings P s (m - i) j ≡ false
  siblings-fail m i j h p = ap (λ l. siblings P s l j) (left_one m i h) ∙ sibling-fails (m - (i + 1)) j p

  pub siblings-done : (m i j : ℕ) → m ≤ i → siblings P s (m - i) j ≡ true
  unfolding siblings_by
  siblings-done m i j h = ap (λ l. siblings P s l j) (left-none m i h)

module _ (s : List ℕ) where
  skip-one : (l j : ℕ) → skip s (suc l) j ≡ skip s l (next s j)
  unfolding skip
  skip-one l j = refl

  pub skip-more : (m i j : ℕ) → i < m → skip s (m - i) j ≡ skip s (m - (i + 1)) (next s j)
  skip-more m i j h = ap (λ l. skip s l j) (left_one m i h) ∙ skip-one (m - (i + 1)) j

  pub skip-done : (m i j : ℕ) → m ≤ i → skip s (m - i) j ≡ j
  unfolding skip
  skip-done m i j h = ap (λ l. skip s l j) (left-none m i h)

  pub skip-add : (k m j : ℕ) → skip s (k + m) j ≡ skip s m (skip s k j)
  unfolding skip
  skip-add zero m j = ap (λ l. skip s l j) (zero-add m)
  skip-add (suc k) m j = ap (λ l. skip s l j) (suc-add k m) ∙ skip-add k m (next s j)

  -- no sibling is passed, one more, and one more with node j reached
  pub skip-none : (j : ℕ) → skip s 0 j ≡ j
  unfolding skip
  skip-none j = refl

  pub skip-next : (i j : ℕ) → next s (skip s i j) ≡ skip s (i + 1) j
  unfolding skip
  skip-next i j = sym (skip-add i 1 j)

  pub skip_step : (i first : ℕ) {j k : ℕ} → j ≡ skip s i first → k ≡ next s j → k ≡ skip s (i + 1) first
  skip_step i first e h = h ∙ ap (next s) e ∙ skip-next i first

-- the list of no siblings, and of one or more
pub sibling_list-none : (s : List ℕ) (m j : ℕ) → m ≡ 0 → sibling_list s m j ≡ []
unfolding sibling_list
sibling_list-none s m j h = ap (λ l. sibling_list s l j) h

pub sibling_list-first : (s : List ℕ) (m j k : ℕ) → (m ≡ 0 → ⊥) → k ≡ next s j → sibling_list s m j ≡ j ∷ sibling_list s (m - 1) k
unfolding sibling_list
sibling_list-first s m j k h e =
    ap (λ l. sibling_list s l j) (one_less m (omega arith)) ∙ ap (λ i. j ∷ sibling_list s (m - 1) i) (sym e)

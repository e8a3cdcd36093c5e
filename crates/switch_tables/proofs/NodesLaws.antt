-- Siblings as a list, in the shapes of a walk, and where the parts of a Switch stand.
use Prim.Native.Nat.{ℕ, zero, suc, ◌+◌, ◌*◌, ◌-◌, ◌<◌, min}
use mathlib.Core.Path.{◌≡◌, refl, sym, ◌∙◌, ap}
use mathlib.Core.List.{List, [], ◌∷◌, ◌++◌, map}
use native.Mathlib.Omega.{arith}
use native.Mathlib.Numerals.{add-one}
use lib.ListN.{length, get_or, take}
use Rattle.sheet.specs.Node.{count, field_a, child, next}
use Rattle.sheet.specs.Walk.{skip}
use Rattle.sheet.proofs.WalkLaws.{skip-add, skip_step}
use Rattle.check_switches.specs.Switch.{before_cases, case_count, range_count, first_case}
use Rattle.lowering.specs.SwitchSheet.{nodes_from, guard_of, body_of, cases_of, case_blocks, range_nodes, range_of, ranges_of}

take-map : {A B : Type 0} (f : A → B) (n : ℕ) (l : List A) → map f (take n l) ≡ take n (map f l)
take-map f zero l = refl
take-map f (suc n) [] = refl
take-map f (suc n) (x ∷ l) = ap (λ r. f x ∷ r) (take-map f n l)

module _ (s : List ℕ) where
  pub nodes-snoc : (i j : ℕ) → nodes_from s (i + 1) j ≡ nodes_from s i j ++ (skip s i j ∷ [])
  unfolding nodes_from skip
  nodes-snoc i j = rw add-one (last i j)
    where
      last : (i j : ℕ) → nodes_from s (suc i) j ≡ nodes_from s i j ++ (skip s i j ∷ [])
      last zero j = refl
      last (suc i) j = ap (λ (l : List ℕ). j ∷ l) (last i (next s j))

  pub nodes-length : (n j : ℕ) → length (nodes_from s n j) ≡ n
  unfolding nodes_from
  nodes-length zero j = refl
  nodes-length (suc n) j = ap suc (nodes-length n (next s j))

  pub nodes-take : (c n j : ℕ) → take c (nodes_from s n j) ≡ nodes_from s (min n c) j
  unfolding nodes_from
  nodes-take zero n j = let e : min n 0 ≡ 0 = omega arith in rw e refl
  nodes-take (suc c) zero j = let e : min 0 (suc c) ≡ 0 = omega arith in rw e refl
  nodes-take (suc c) (suc n) j =
      let e : min (suc n) (suc c) ≡ suc (min n c) = omega arith in
      rw e (ap (λ (l : List ℕ). j ∷ l) (nodes-take c n (next s j)))

  -- what is read by f at the first c
  pub nodes-read : {B : Type 0} (f : ℕ → B) (c n j : ℕ) → map f (nodes_from s (min n c) j) ≡ take c (map f (nodes_from s n j))
  nodes-read f c n j = ap (map f) (sym (nodes-take c n j)) ∙ take-map f c (nodes_from s n j)

  pub nodes-at : (n j i : ℕ) → i < n → get_or (nodes_from s n j) i 0 ≡ skip s i j
  unfolding nodes_from skip
  nodes-at zero j i h = absurd (omega arith)
  nodes-at (suc n) j zero h = refl
  nodes-at (suc n) j (suc i) h = nodes-at n (next s j) i (omega arith)

  -- ---- the parts of a Switch

  -- the body of block k stands behind its guard
  pub body-at : (k : ℕ) → next s (guard_of s k) ≡ body_of s k
  unfolding guard_of body_of
  body-at k = let e : 2 + 2 * k ≡ (1 + 2 * k) + 1 = omega arith in rw e (skip_step s (1 + 2 * k) (child 0) refl refl)

  -- and the next guard behind the body
  pub guard-next : (k : ℕ) → next s (body_of s k) ≡ guard_of s (k + 1)
  unfolding guard_of body_of
  guard-next k = let e : 1 + 2 * (k + 1) ≡ (2 + 2 * k) + 1 = omega arith in rw e (skip_step s (2 + 2 * k) (child 0) refl refl)

  pub cases-are : cases_of s ≡ nodes_from s (case_count s) (first_case s)
  unfolding cases_of first_case
  cases-are = refl

  pub cases-count : length (cases_of s) ≡ case_count s
  cases-count = ap length cases-are ∙ nodes-length (case_count s) (first_case s)

  pub ranges-are : range_nodes s ≡ nodes_from s (range_count s) (skip s (case_count s) (first_case s))
  unfolding range_nodes first_case
  ranges-are = ap (λ (j : ℕ). nodes_from s (range_count s) j) (skip-add s (before_cases s) (case_count s) (child 0))

  pub ranges-by : map (range_of s) (nodes_from s (range_count s) (skip s (case_count s) (first_case s))) ≡ ranges_of s
  unfolding ranges_of
  ranges-by = ap (map (range_of s)) (sym ranges-are)

  -- the Refs of a Case, from the nodes that the code reads
  pub blocks_from : (c : ℕ) {x j : ℕ} → x ≡ child c → j ≡ next s x → map (field_a s) (nodes_from s (count s c - 1) j) ≡ case_blocks s c
  unfolding case_blocks
  blocks_from c e h = ap (λ (k : ℕ). map (field_a s) (nodes_from s (count s c - 1) k)) (h ∙ ap (next s) e)

-- The interval law. Shown: for cuts that ascend strictly and have both ends of a range, the range covers piece j iff j lies in its span;
-- so the list of a piece is made from spans alone, and is that of the piece before where nothing starts or ends. Empty ranges (9..=3,
-- 5..5) are no special case. Assumed: nothing but `Strict`, membership of the ends, and j below the number of pieces.
use Prim.Native.Nat.{ℕ, suc, ◌+◌, ◌*◌, ◌/◌, ◌%◌, ◌≤◌, ◌<◌}
use mathlib.Core.Path.{◌≡◌, refl, sym, ◌∙◌, ap, ap₂}
use mathlib.Core.Bool.{Bool, true, false, ◌&&◌, ◌||◌}
use mathlib.Core.List.{List, [], ◌∷◌, map, Memᴰ}
use native.Mathlib.Omega.{arith}
use native.Mathlib.Decide.{dec_lt}
use lib.Dec.{leb, ltb, eqb}
use lib.ListN.{length}
use borrow.Author.Tests.{eqb-true, eqb-false, le-leb, lt-leb, lt-ltb, le-ltb}
use Rattle.laws.proofs.Bool.{not-or}
use Rattle.switch_split.specs.Range.{Range, inside, blocks_where}
use Rattle.switch_split.specs.Points.{cuts}
use Rattle.switch_split.specs.Points.{Strict}
use Rattle.switch_split.proofs.PointsLaws.{cuts-strict, cuts-have, from-point, to-point}
use Rattle.switch_split.specs.Split.{covers, pieces}
use Rattle.switch_split.specs.Piece.{cut_at, atom_at}
use Rattle.switch_split.proofs.PieceLaws.{at-even, at-odd, pieces-count}
use Rattle.switch_tables.specs.Place.{place}
use Rattle.switch_tables.proofs.PlaceLaws.{strict-at, Placed, place-placed}
use Rattle.switch_tables.specs.Spans.{Span, one_if, span_of, covered, blocks_at, changes_at}

-- ---- tests that say the same

leb-same : (a b c d : ℕ) → (a ≤ b → c ≤ d) → (c ≤ d → a ≤ b) → leb a b ≡ leb c d
leb-same a b c d h k =
    elim (dec_lt b a) [
      | yes l ↦ elim (dec_lt d c) [
        | yes x ↦ lt-leb a b l ∙ sym (lt-leb c d x)
        | no n ↦ absurd (omega (arith, k (omega arith)))
      ]
      | no n ↦ let m : a ≤ b = omega arith in le-leb a b m ∙ sym (le-leb c d (h m))
    ]

-- ---- a number at its place, beside cut i

module _ (cs : List ℕ) (v p : ℕ) (h : Strict cs) (k : Placed cs v p) (i : ℕ) (l : i < length cs) where
  beside : (Q : Type 0) → (i < p → cut_at cs i < v → Q) → (i ≡ p → cut_at cs i ≡ v → Q) → (p < i → v < cut_at cs i → Q) → Q
  beside Q low at high =
      elim (dec_lt i p) [
        | yes a ↦ low a (omega (arith, strict-at cs i p h a k.within, k.here))
        | no n ↦ elim (dec_lt p i) [
          | yes b ↦ high b (omega (arith, strict-at cs p i h b l, k.here))
          | no m ↦ let e : i ≡ p = omega arith in at e (ap (cut_at cs) e ∙ k.here)
        ]
      ]

-- ---- the interval law

pub one-most : (t : Bool) → one_if t ≤ 1
one-most true = omega arith
one-most false = omega arith

module _ (cs : List ℕ) (h : Strict cs) (r : Range) (a b : ℕ) (f : Placed cs r.from a) (t : Placed cs r.to b) where
  -- the range does not start above cut i
  low-point : (i j : ℕ) → i < length cs → j / 2 ≡ i → leb r.from (cut_at cs i) ≡ leb (2 * a) j
  low-point i j l e =
      beside cs r.from a h f i l (leb r.from (cut_at cs i) ≡ leb (2 * a) j)
      (λ x y. lt-leb r.from (cut_at cs i) y ∙ sym (lt-leb (2 * a) j (omega arith)))
      (λ x y. le-leb r.from (cut_at cs i) (omega arith) ∙ sym (le-leb (2 * a) j (omega arith)))
      (λ x y. le-leb r.from (cut_at cs i) (omega arith) ∙ sym (le-leb (2 * a) j (omega arith)))

  high-inclusive : (i j : ℕ) → i < length cs → j ≡ 2 * i → leb (cut_at cs i) r.to ≡ ltb j (2 * b + 1)
  high-inclusive i j l e =
      beside cs r.to b h t i l (leb (cut_at cs i) r.to ≡ ltb j (2 * b + 1))
      (λ x y. le-leb (cut_at cs i) r.to (omega arith) ∙ sym (lt-ltb j (2 * b + 1) (omega arith)))
      (λ x y. le-leb (cut_at cs i) r.to (omega arith) ∙ sym (lt-ltb j (2 * b + 1) (omega arith)))
      (λ x y. lt-leb (cut_at cs i) r.to y ∙ sym (le-ltb j (2 * b + 1) (omega arith)))

  high-exclusive : (i j : ℕ) → i < length cs → j ≡ 2 * i → ltb (cut_at cs i) r.to ≡ ltb j (2 * b + 0)
  high-exclusive i j l e =
      beside cs r.to b h t i l (ltb (cut_at cs i) r.to ≡ ltb j (2 * b + 0))
      (λ x y. lt-ltb (cut_at cs i) r.to y ∙ sym (lt-ltb j (2 * b + 0) (omega arith)))
      (λ x y. le-ltb (cut_at cs i) r.to (omega arith) ∙ sym (le-ltb j (2 * b + 0) (omega arith)))
      (λ x y. le-ltb (cut_at cs i) r.to (omega arith) ∙ sym (le-ltb j (2 * b + 0) (omega arith)))

  -- the stretch after cut i - 1 reaches to cut i
  high-stretch : (i j c : ℕ) → i < length cs → suc j ≡ 2 * i → c ≤ 1 → leb (cut_at cs i) r.to ≡ ltb j (2 * b + c)
  high-stretch i j c l e z =
      beside cs r.to b h t i l (leb (cut_at cs i) r.to ≡ ltb j (2 * b + c))
      (λ x y. le-leb (cut_at cs i) r.to (omega arith) ∙ sym (lt-ltb j (2 * b + c) (omega arith)))
      (λ x y. le-leb (cut_at cs i) r.to (omega arith) ∙ sym (lt-ltb j (2 * b + c) (omega arith)))
      (λ x y. lt-leb (cut_at cs i) r.to y ∙ sym (le-ltb j (2 * b + c) (omega arith)))

  at-point : (i j : ℕ) (c : Bool) → i < length cs → j ≡ 2 * i
      → inside r.from r.to c (cut_at cs i) ≡ (leb (2 * a) j && ltb j (2 * b + one_if c))
  unfolding inside
  at-point i j true l e = ap₂ ◌&&◌ (low-point i j l (omega arith)) (high-inclusive i j l e)
  at-point i j false l e = ap₂ ◌&&◌ (low-point i j l (omega arith)) (high-exclusive i j l e)

  -- the range covers piece j iff j lies between the numbers
  interval-at : (j : ℕ) → suc j < 2 * length cs → covers (atom_at cs j) r ≡ (leb (2 * a) j && ltb j (2 * b + one_if r.inclusive))
  unfolding covers
  interval-at j l = by (eqb (j % 2) 0) refl
    where
      by : (z : Bool) → eqb (j % 2) 0 ≡ z → covers (atom_at cs j) r ≡ (leb (2 * a) j && ltb j (2 * b + one_if r.inclusive))
      by true e =
          let z : j % 2 ≡ 0 = eqb-true (j % 2) 0 e in
          ap (λ x. covers x r) (at-even cs j z) ∙ at-point (j / 2) j r.inclusive (omega arith) (omega arith)
      by false e =
          let z : j % 2 ≡ 0 → ⊥ = eqb-false (j % 2) 0 e in
          let u : j % 2 ≡ 1 = omega arith in
          ap (λ x. covers x r) (at-odd cs j z)
          ∙ ap₂ ◌&&◌ (low-point (j / 2) j (omega arith) refl)
          (high-stretch (j / 2 + 1) j (one_if r.inclusive) (omega arith) (omega arith) (one-most r.inclusive))

-- the same by places
interval : (cs : List ℕ) (r : Range) (j : ℕ) → Strict cs → Memᴰ r.from cs → Memᴰ r.to cs → suc j < 2 * length cs
    → covers (atom_at cs j) r ≡ covered (span_of cs r) j
interval cs r j h m n l =
    interval-at cs h r (place cs r.from) (place cs r.to) (place-placed cs r.from h m) (place-placed cs r.to h n) j l

-- ---- the list of a piece

-- b and the list behind it, where a test holds
abbrev pub kept : ℕ → Bool → List ℕ → List ℕ
kept b t l = elim t [ true ↦ b ∷ l | false ↦ l ]

spans-list : (cs : List ℕ) (j : ℕ) (rs : List Range) → ((r : Range) → Memᴰ r rs → covers (atom_at cs j) r ≡ covered (span_of cs r) j)
    → blocks_where (covers (atom_at cs j)) rs ≡ blocks_at j (map (span_of cs) rs)
unfolding blocks_where blocks_at
spans-list cs j [] h = refl
spans-list cs j (r ∷ rs) h =
    ap₂ (kept r.block) (h r (Memᴰ.head refl)) (spans-list cs j rs (λ s m. h s (Memᴰ.tail m)))

-- piece j of the ranges has the blocks of the spans that cover it
pub piece-list : (rs : List Range) (j : ℕ) → j < length (pieces rs)
    → blocks_where (covers (atom_at (cuts rs) j)) rs ≡ blocks_at j (map (span_of (cuts rs)) rs)
piece-list rs j l =
    spans-list (cuts rs) j rs
    (λ r m.
    interval (cuts rs) r j (cuts-strict rs) (cuts-have r.from rs (from-point r rs m)) (cuts-have r.to rs (to-point r rs m))
    (omega (arith, pieces-count rs)))

-- ---- nothing changes where nothing starts or ends

covered_next : (x : Span) (j : ℕ) → (x.first ≡ suc j → ⊥) → (x.behind ≡ suc j → ⊥) → covered x (suc j) ≡ covered x j
covered_next x j f b =
    ap₂ ◌&&◌ (leb-same x.first (suc j) x.first j (λ l. omega arith) (λ l. omega arith))
    (leb-same (suc (suc j)) x.behind (suc j) x.behind (λ l. omega arith) (λ l. omega arith))

pub unchanged : (j : ℕ) (xs : List Span) → changes_at (suc j) xs ≡ false → blocks_at (suc j) xs ≡ blocks_at j xs
unfolding changes_at blocks_at
unchanged j [] h = refl
unchanged j (x ∷ xs) h =
    let o = not-or (eqb x.first (suc j) || eqb x.behind (suc j)) (changes_at (suc j) xs) h in
    let p = not-or (eqb x.first (suc j)) (eqb x.behind (suc j)) o.0 in
    ap₂ (kept x.block) (covered_next x j (eqb-false x.first (suc j) p.0) (eqb-false x.behind (suc j) p.1))
    (unchanged j xs o.1)

-- ---- worked examples: 9..=3 and 5..5 are empty beside 1..=9, over the cuts 1, 3, 5, 9

abbrev some-ranges : List Range
some-ranges =
    record { from = 9; to = 3; inclusive = true; block = 0 }
    ∷ record { from = 5; to = 5; inclusive = false; block = 1 }
    ∷ record { from = 1; to = 9; inclusive = true; block = 2 }
    ∷ []

example-spans : map (span_of (1 ∷ 3 ∷ 5 ∷ 9 ∷ [])) some-ranges
    ≡ record { first = 6; behind = 3; block = 0 }
    ∷ record { first = 4; behind = 4; block = 1 }
    ∷ record { first = 0; behind = 7; block = 2 }
    ∷ []
unfolding place
example-spans = refl

example-point : blocks_at 4 (map (span_of (1 ∷ 3 ∷ 5 ∷ 9 ∷ [])) some-ranges) ≡ 2 ∷ []
unfolding place blocks_at
example-point = refl

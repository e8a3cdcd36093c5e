-- The first i ranges from a node on, as loops pass them: one more is the range at the next node; all that are read; their end points.
use Prim.Native.Nat.{ℕ, zero, suc, ◌+◌, ◌*◌, ◌≤◌, ◌<◌, min}
use mathlib.Core.Path.{◌≡◌, refl, sym, ◌∙◌, ap, ap₂}
use mathlib.Core.List.{List, [], ◌∷◌, ◌++◌, map, map-append, Memᴰ}
use native.Mathlib.Omega.{arith}
use lib.IntN.{ℤ}
use lib.ListN.{length, set, take, length-set}
use mir.Syntax.{w64}
use mir.Val.{SFits}
use mir.ValLaws.{to_z-of_z}
use Rattle.sheet.specs.Limits.{max_entries}
use Rattle.sheet.specs.Node.{child, next}
use Rattle.sheet.specs.Walk.{skip}
use Rattle.check_switches.specs.Switch.{case_count, range_count, first_case}
use Rattle.switch_split.specs.Excess.{excess_of}
use Rattle.switch_split.specs.Held.{held, Lists}
use Rattle.switch_split.proofs.HeldLaws.{held-set, held-length}
use Rattle.switch_split.proofs.OrderLaws.{as_read}
use Rattle.switch_split.specs.Points.{points, sort, dedup, cuts}
use Rattle.switch_split.specs.Range.{Range}
use Rattle.lowering.specs.SwitchSheet.{nodes_from, int_at, range_of}
use Rattle.switch_tables.specs.Columns.{max_cuts}
use Rattle.switch_tables.specs.Table.{ranges_read}
use Rattle.switch_tables.proofs.NodesLaws.{nodes-snoc, nodes-read, ranges-by}

abbrev pub first_ranges : List ℕ → ℕ → ℕ → List Range
first_ranges s first i = map (range_of s) (nodes_from s i first)

module _ (s : List ℕ) where
  pub first-none : (first : ℕ) → first_ranges s first 0 ≡ []
  unfolding nodes_from
  first-none first = refl

  pub first_more : (first i : ℕ) → first_ranges s first (i + 1) ≡ first_ranges s first i ++ (range_of s (skip s i first) ∷ [])
  first_more first i = ap (map (range_of s)) (nodes-snoc s i first) ∙ map-append (range_of s) (nodes_from s i first) (skip s i first ∷ [])

  pub first-among : (first n i : ℕ) → i < n → Memᴰ (range_of s (skip s i first)) (first_ranges s first n)
  unfolding nodes_from skip
  first-among first zero i h = absurd (omega arith)
  first-among first (suc n) zero h = Memᴰ.head refl
  first-among first (suc n) (suc i) h = Memᴰ.tail (first-among (next s first) n i (omega arith))

  pub first_read : (first n : ℕ) → first ≡ skip s (case_count s) (first_case s) → n ≡ min (range_count s) max_entries
      → first_ranges s first n ≡ ranges_read s
  first_read first n h e =
      ap₂ (λ (k f : ℕ). first_ranges s f k) e h
      ∙ nodes-read s (range_of s) max_entries (range_count s) (skip s (case_count s) (first_case s))
      ∙ ap (take max_entries) (ranges-by s)

-- ---- end points

points-snoc : (rs : List Range) (r : Range) → points (rs ++ (r ∷ [])) ≡ (points rs ++ (r.from ∷ [])) ++ (r.to ∷ [])
unfolding points
points-snoc [] r = refl
points-snoc (q ∷ rs) r = ap (λ (l : List ℕ). q.from ∷ q.to ∷ l) (points-snoc rs r)

-- the end points of the first i ranges stand in the array
pub record Pointing (s : List ℕ) (first n : ℕ) (at : List ℤ) (i : ℕ) : Type 0 where
  pub within : i ≤ n
  pub size : length at ≡ max_cuts
  pub ends : held at (2 * i) ≡ points (first_ranges s first i)

pub pointing-start : (s : List ℕ) (first n : ℕ) (at : List ℤ) (i : ℕ) → length at ≡ max_cuts → i ≡ 0 → Pointing s first n at i
unfolding held points nodes_from
pointing-start s first n at i h z = rw z (record { within = omega arith; size = h; ends = refl })

module _ (s : List ℕ) (first n : ℕ) (at : List ℤ) (i : ℕ) (c : Pointing s first n at i) where
  pub pointing-on : (r : ℕ) (a b : ℤ) → i < n → n ≤ max_entries → r ≡ skip s i first → SFits w64 a → SFits w64 b
      → excess_of a ≡ int_at s (child r) → excess_of b ≡ int_at s (next s (child r))
      → Pointing s first n (set (set at (2 * i) (as_read a)) (2 * i + 1) (as_read b)) (i + 1)
  unfolding range_of
  pointing-on r a b l h node f g from_is to_is =
      let one = set at (2 * i) (as_read a) in
      let long : length one ≡ max_cuts = length-set at (2 * i) (as_read a) ∙ c.size in
      let low : excess_of (as_read a) ≡ int_at s (child r) = ap excess_of (to_z-of_z w64 a f) ∙ from_is in
      let high : excess_of (as_read b) ≡ int_at s (next s (child r)) = ap excess_of (to_z-of_z w64 b g) ∙ to_is in
      let two : 2 * (i + 1) ≡ (2 * i + 1) + 1 = omega arith in
      record {
        within = omega arith;
        size = length-set one (2 * i + 1) (as_read b) ∙ long;
        ends =
            ap (held (set one (2 * i + 1) (as_read b))) two
            ∙ held-set one (2 * i + 1) (as_read b) (omega arith)
            ∙ ap₂ (λ (l : List ℕ) (y : ℕ). l ++ (y ∷ [])) (held-set at (2 * i) (as_read a) (omega (arith, c.size))) high
            ∙ ap₂ (λ (l : List ℕ) (x : ℕ). (l ++ (x ∷ [])) ++ (int_at s (next s (child r)) ∷ [])) c.ends low
            ∙ sym (points-snoc (first_ranges s first i) (range_of s r))
            ∙ ap (λ (j : ℕ). points (first_ranges s first i ++ (range_of s j ∷ []))) node
            ∙ sym (ap points (first_more s first i));
      }

  pub pointing-end : n ≤ i → n ≤ max_entries → first ≡ skip s (case_count s) (first_case s) → n ≡ min (range_count s) max_entries
      → Lists at (2 * n) (points (ranges_read s))
  pointing-end l h f e =
      let is : i ≡ n = omega (arith, c.within) in
      let all : held at (2 * n) ≡ points (ranges_read s) =
      ap (λ (k : ℕ). held at (2 * k)) (sym is)
      ∙ c.ends
      ∙ ap (λ (k : ℕ). points (first_ranges s first k)) is
      ∙ ap points (first_read s first n f e) in
      record { numbers = all; count = sym (held-length at (2 * n) (omega (arith, c.size))) ∙ ap length all }

-- the end points sorted and made distinct
pub cuts-by : (rs : List Range) (a b c : List ℤ) (k m n : ℕ) → Lists a k (points rs) → Lists b m (sort (held a k))
    → Lists c n (dedup (held b m)) → Lists c n (cuts rs)
unfolding cuts
cuts-by rs a b c k m n h g l =
    let same : dedup (held b m) ≡ dedup (sort (points rs)) = ap dedup (g.numbers ∙ ap sort h.numbers) in
    record { numbers = l.numbers ∙ same; count = l.count ∙ ap length same }

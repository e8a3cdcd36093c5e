-- The passes over ranges and pieces, one after the other. Shown: the table then has the intervals, the cuts, the bands and their hashes,
-- and only these columns change. Assumed: what each pass says of itself.
use Prim.Native.Nat.{ℕ, ◌+◌, ◌*◌, ◌-◌, ◌≤◌, min}
use mathlib.Core.Path.{◌≡◌, refl, sym, ◌∙◌, ap}
use mathlib.Core.List.{List, [], map}
use native.Mathlib.Omega.{arith}
use lib.IntN.{ℤ}
use lib.ListN.{length, set, take, length-set}
use lib.Seq.{get_or-set_same, get_or-set_other, length-take-le}
use Rattle.sheet.specs.Limits.{max_entries}
use Rattle.sheet.specs.Walk.{skip}
use Rattle.check_switches.specs.Switch.{case_count, range_count, first_case}
use Rattle.switch_split.specs.Held.{excesses}
use Rattle.switch_split.proofs.HeldLaws.{excesses-length}
use Rattle.switch_split.specs.Points.{cuts, points as points_of, sort, sort_onto, dedup}
use Rattle.switch_split.specs.Split.{atoms, join}
use Rattle.switch_tables.specs.Columns.{size, cell, spans_at, first_at, low_at, high_at, bands_at, wanted_at, Within, max_cuts}
use Rattle.switch_tables.specs.Bands.{joined}
use Rattle.switch_tables.specs.Spans.{span_of}
use Rattle.switch_tables.specs.Table.{ranges_read, spans_to, spans_in, Spanned, CutWords, BandsAre, BandsHashed}
use Rattle.switch_tables.proofs.ColumnLaws.{within-then, within_wider, within-put}
use Rattle.switch_lists.proofs.SpanLaws.{spans-within, spans-none}
use Rattle.switch_intervals.specs.Marks.{AreRead, Cuts, Marked}
use Rattle.switch_intervals.proofs.FirstLaws.{first_ranges, first-none, first_read}
use Rattle.switch_intervals.proofs.MarksLaws.{marked-first}
use Rattle.switch_intervals.proofs.JoiningLaws.{bands-none}

-- node `first` is the first range
abbrev pub StartsAt : List ℕ → ℕ → Type 0
StartsAt s first = first ≡ skip s (case_count s) (first_case s)

-- what the table w has in the end, that was v before
abbrev pub AllPut : List ℕ → List ℕ → List ℕ → Type 0
AllPut s v w = Spanned s w × (CutWords s w × (BandsAre s w × (BandsHashed w × Within spans_at wanted_at v w)))

-- ---- no ranges

none-cut : cuts [] ≡ []
unfolding cuts points_of sort sort_onto dedup
none-cut = refl

none-joined : joined [] [] ≡ []
unfolding joined atoms join
none-joined = refl

module _ (s w v u : List ℕ) (first n : ℕ) (count : n ≡ min (range_count s) max_entries) (begun : v ≡ set w spans_at n) where
  pub none-put : n ≡ 0 → u ≡ set v bands_at 0 → length w ≡ size → StartsAt s first → AllPut s w u
  none-put z e long h =
      let read : ranges_read s ≡ [] =
      sym (first_read s first n h count) ∙ ap (λ (k : ℕ). first_ranges s first k) z ∙ first-none s first in
      let cut : cuts (ranges_read s) ≡ [] = ap cuts read ∙ none-cut in
      let short : length (cuts (ranges_read s)) ≡ 0 = ap length cut in
      let v-long : length v ≡ size = ap length begun ∙ length-set w spans_at n ∙ long in
      let spans : cell u spans_at ≡ 0 =
      rw (e, begun)
      (get_or-set_other (set w spans_at n) bands_at spans_at 0 0 (λ o. omega arith) ∙ get_or-set_same w spans_at n 0 (omega arith) ∙ z) in
      let bands : cell u bands_at ≡ 0 = rw e (get_or-set_same v bands_at 0 0 (omega arith)) in
      let first-kept : Within spans_at wanted_at w v = rw begun (within-put spans_at wanted_at w spans_at n (omega arith) (omega arith)) in
      let last-kept : Within spans_at wanted_at v u = rw e (within-put spans_at wanted_at v bands_at 0 (omega arith) (omega arith)) in
      let spanned : Spanned s u = record { few = omega arith; spans = rw (spans, spans-none u, read) refl } in
      let words : CutWords s u = record { lows = λ i l. absurd (omega arith); highs = λ i l. absurd (omega arith) } in
      let bands-are : BandsAre s u =
      record {
        few = omega arith;
        bands = rw (bands, bands-none u, cut, read) (sym none-joined);
        firsts = λ i l. absurd (omega arith);
        lasts = λ i l. absurd (omega arith);
      } in
      let hashed : BandsHashed u = record { hash_at = λ i l. absurd (omega arith) } in
      (spanned, (words, (bands-are, (hashed, within-then first-kept last-kept))))

-- ---- some ranges

-- what each pass says
abbrev pub CutsRead : List ℕ → ℕ → ℕ → List ℤ → Type 0
CutsRead s first n at = AreRead s first n → excesses at ≡ cuts (ranges_read s)

abbrev pub SpansPut : List ℕ → List ℕ → List ℕ → ℕ → ℕ → List ℕ → List ℕ → Type 0
SpansPut s v w first n cs marked =
    AreRead s first n → cs ≡ cuts (ranges_read s)
    → (spans_to w n ≡ map (span_of (cuts (ranges_read s))) (ranges_read s)) × (Marked marked (spans_to w n) × Within first_at low_at v w)

abbrev pub CutsPut : List ℕ → List ℕ → List ℕ → Type 0
CutsPut v w cs = Cuts cs w × Within low_at bands_at v w

abbrev pub BandsPut : List ℕ → List ℕ → List ℕ → Type 0
BandsPut v w marks =
    (s : List ℕ) → Spanned s v → Marked marks (spans_in v) → length marks ≡ 2 * length (cuts (ranges_read s)) - 1
    → BandsAre s w × (BandsHashed w × Within bands_at wanted_at v w)

module _ (s w₀ w₁ w₂ w₃ w₄ : List ℕ) (first n : ℕ) (count : n ≡ min (range_count s) max_entries) (begun : w₁ ≡ set w₀ spans_at n) where
  module _ (at : List ℤ) (p : ℕ) (few : length at ≤ max_cuts) (read : CutsRead s first n at) where
    abbrev cs : List ℕ
    cs = cuts (ranges_read s)

    pub all-put : p ≡ 2 * length at - 1 → (marked : List ℕ) → p ≤ length marked → SpansPut s w₁ w₂ first n (excesses at) marked
        → CutsPut w₂ w₃ (excesses at) → BandsPut w₃ w₄ (take p marked) → length w₀ ≡ size → StartsAt s first → AllPut s w₀ w₄
    all-put pieces marked short spans-put two bands-put size₀ h =
        let nodes : AreRead s first n = record { start = h; count = count } in
        let held : excesses at ≡ cs = read nodes in
        let many : length cs ≡ length at = ap length (sym held) ∙ excesses-length at in
        let one = spans-put nodes held in
        let n₁ : cell w₁ spans_at ≡ n = ap (λ (l : List ℕ). cell l spans_at) begun ∙ get_or-set_same w₀ spans_at n 0 (omega arith) in
        let n₂ : cell w₂ spans_at ≡ n = one.1.1.low spans_at (omega arith) ∙ n₁ in
        let n₃ : cell w₃ spans_at ≡ n = two.1.low spans_at (omega arith) ∙ n₂ in
        let most : n ≤ max_entries = omega arith in
        let spans₂ : spans_in w₂ ≡ spans_to w₂ n = ap (spans_to w₂) n₂ in
        let spans₃ : spans_in w₃ ≡ spans_to w₂ n = spans-within (omega arith) (omega arith) two.1 ∙ spans₂ in
        let spanned : Spanned s w₃ = record { few = omega arith; spans = spans₃ ∙ one.0 } in
        let three =
        bands-put s spanned (rw spans₃ (marked-first marked p (spans_to w₂ n) short one.1.0))
        (length-take-le p marked short ∙ pieces ∙ ap (λ (x : ℕ). 2 * x - 1) (sym many)) in
        let cut : Cuts cs w₃ = rw held at two.0 in
        let kept : Within bands_at wanted_at w₃ w₄ = three.1.1 in
        let kept₁ : Within spans_at wanted_at w₀ w₁ = rw begun (within-put spans_at wanted_at w₀ spans_at n (omega arith) (omega arith)) in
        let kept₂ : Within spans_at wanted_at w₁ w₂ = within_wider spans_at wanted_at (omega arith) (omega arith) one.1.1 in
        let kept₃ : Within spans_at wanted_at w₂ w₃ = within_wider spans_at wanted_at (omega arith) (omega arith) two.1 in
        let kept₄ : Within spans_at wanted_at w₃ w₄ = within_wider spans_at wanted_at (omega arith) (omega arith) kept in
        let n₄ : cell w₄ spans_at ≡ n = kept.low spans_at (omega arith) ∙ n₃ in
        let spanned₄ : Spanned s w₄ =
        record { few = omega arith; spans = spans-within (omega arith) (omega arith) kept ∙ spanned.spans } in
        let words : CutWords s w₄ =
        record {
          lows = λ i l. kept.low (low_at + i) (omega arith) ∙ cut.lows i l;
          highs = λ i l. kept.low (high_at + i) (omega arith) ∙ cut.highs i l;
        } in
        (spanned₄, (words, (three.0, (three.1.0, within-then (within-then kept₁ kept₂) (within-then kept₃ kept₄)))))

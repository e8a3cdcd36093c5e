-- The loop that puts each range into the table as an interval of pieces, and marks where it starts and ends: its invariant, `Spanning`,
-- with start, step and end.
use Prim.Native.Nat.{ℕ, ◌+◌, ◌*◌, ◌≤◌, ◌<◌}
use mathlib.Core.Path.{◌≡◌, refl, sym, ◌∙◌, ap, ap₂}
use mathlib.Core.List.{List, [], ◌∷◌, ◌++◌, map, map-append, Memᴰ}
use native.Mathlib.Omega.{arith}
use lib.Dec.{eqb}
use lib.ListN.{length, get_or, set, length-set}
use lib.Seq.{get_or-set_same, get_or-set_other}
use Rattle.sheet.specs.Limits.{max_entries}
use Rattle.sheet.specs.Node.{child, next, field_a, field_b}
use Rattle.sheet.specs.Walk.{skip}
use Rattle.switch_split.specs.Points.{cuts}
use Rattle.switch_split.specs.Points.{Strict}
use Rattle.switch_split.proofs.PointsLaws.{cuts-strict, cuts-have, from-point, to-point}
use Rattle.switch_split.specs.Range.{Range}
use Rattle.lowering.specs.SwitchSheet.{int_at, range_of}
use Rattle.switch_tables.specs.Columns.{size, first_at, behind_at, block_at, low_at, cell, Within, max_cuts}
use Rattle.switch_tables.specs.Place.{place}
use Rattle.switch_tables.specs.Spans.{Span, span_of, one_if}
use Rattle.switch_tables.specs.Table.{ranges_read, span_at, spans_to}
use Rattle.switch_tables.proofs.ColumnLaws.{within_none, within-then}
use Rattle.switch_tables.proofs.PlaceLaws.{place-placed}
use Rattle.switch_tables.proofs.SpansLaws.{one-most}
use Rattle.switch_lists.proofs.SpanLaws.{spans-more, spans-kept}
use Rattle.switch_intervals.specs.Marks.{AreRead, Marked, with_span, with_marks}
use Rattle.switch_intervals.proofs.FirstLaws.{first_ranges, first-none, first_more, first-among, first_read}
use Rattle.switch_intervals.proofs.MarksLaws.{marked_start, marked-on}

-- ---- one span, as the code makes it

module _ (s cs w m : List ℕ) (r i : ℕ) where
  abbrev span : Span
  span = span_of cs (range_of s r)

  -- from the places of its ends, its flag and its block
  pub span-put : {a b o f k : ℕ} {w₁ w₂ w₃ m₁ m₂ : List ℕ} → a ≡ place cs (int_at s (child r)) → b ≡ place cs (int_at s (next s (child r)))
      → f ≡ field_a s r → o ≡ one_if (eqb f 1) → k ≡ field_b s r → w₁ ≡ set w (first_at + i) (2 * a) → w₂ ≡ set w₁ (behind_at + i) (2 * b + o)
      → w₃ ≡ set w₂ (block_at + i) k → m₁ ≡ set m (2 * a) 1 → m₂ ≡ set m₁ (2 * b + o) 1
      → (w₃ ≡ with_span w i span) × (m₂ ≡ with_marks m span)
  unfolding with_span with_marks range_of
  span-put {a} {b} {o} {f} {k} a_is b_is f-is o_is k-is w₁-is w₂-is w₃-is m₁_is m₂-is =
      let first-is : 2 * a ≡ span.first = ap (λ (x : ℕ). 2 * x) a_is in
      let behind-is : 2 * b + o ≡ span.behind = ap₂ (λ (x y : ℕ). 2 * x + y) b_is (o_is ∙ ap (λ (x : ℕ). one_if (eqb x 1)) f-is) in
      let one = w₁-is ∙ ap (set w (first_at + i)) first-is in
      let two = w₂-is ∙ ap₂ (λ (v : List ℕ) (x : ℕ). set v (behind_at + i) x) one behind-is in
      let marked = m₁_is ∙ ap (λ (x : ℕ). set m x 1) first-is in
      let three = w₃-is ∙ ap₂ (λ (v : List ℕ) (x : ℕ). set v (block_at + i) x) two k-is in
      (three, m₂-is ∙ ap₂ (λ (v : List ℕ) (x : ℕ). set v x 1) marked behind-is)

-- ---- the spans of the table

module _ (w : List ℕ) (i : ℕ) (x : Span) (h : i < max_entries) where
  abbrev one : List ℕ
  one = set w (first_at + i) x.first

  abbrev two : List ℕ
  two = set one (behind_at + i) x.behind

  with-here : length w ≡ size → span_at (with_span w i x) i ≡ x
  unfolding with_span
  with-here e =
      let long₁ : length one ≡ size = length-set w (first_at + i) x.first ∙ e in
      let long₂ : length two ≡ size = length-set one (behind_at + i) x.behind ∙ long₁ in
      rw (
        get_or-set_other two (block_at + i) (first_at + i) x.block 0 (λ (q : first_at + i ≡ block_at + i). omega arith),
        get_or-set_other one (behind_at + i) (first_at + i) x.behind 0 (λ (q : first_at + i ≡ behind_at + i). omega arith),
        get_or-set_same w (first_at + i) x.first 0 (omega arith),
        get_or-set_other two (block_at + i) (behind_at + i) x.block 0 (λ (q : behind_at + i ≡ block_at + i). omega arith),
        get_or-set_same one (behind_at + i) x.behind 0 (omega arith),
        get_or-set_same two (block_at + i) x.block 0 (omega arith),
      )
      refl

  other : (j : ℕ) → (j ≡ first_at + i → ⊥) → (j ≡ behind_at + i → ⊥) → (j ≡ block_at + i → ⊥) → cell (with_span w i x) j ≡ cell w j
  unfolding with_span
  other j a b c =
      get_or-set_other two (block_at + i) j x.block 0 c
      ∙ get_or-set_other one (behind_at + i) j x.behind 0 b
      ∙ get_or-set_other w (first_at + i) j x.first 0 a

  with-other : (k : ℕ) → k < i → span_at (with_span w i x) k ≡ span_at w k
  with-other k l =
      rw (
        other (first_at + k) (λ q. omega arith) (λ q. omega arith) (λ q. omega arith),
        other (behind_at + k) (λ q. omega arith) (λ q. omega arith) (λ q. omega arith),
        other (block_at + k) (λ q. omega arith) (λ q. omega arith) (λ q. omega arith),
      )
      refl

  with-more : length w ≡ size → spans_to (with_span w i x) (i + 1) ≡ spans_to w i ++ (x ∷ [])
  with-more e =
      spans-more (with_span w i x) i
      ∙ ap₂ (λ (l : List Span) (y : Span). l ++ (y ∷ [])) (spans-kept w (with_span w i x) i with-other) (with-here e)

  with-within : Within first_at low_at w (with_span w i x)
  with-within = record {
    low = λ j l. other j (λ q. omega arith) (λ q. omega arith) (λ q. omega arith);
    high = λ j l. other j (λ q. omega arith) (λ q. omega arith) (λ q. omega arith);
  }

-- ---- both numbers of a span are pieces, or stand right behind them

span_small : (rs : List Range) (r : Range) → Memᴰ r rs → length (cuts rs) ≤ max_cuts
    → ((span_of (cuts rs) r).first < 256) × ((span_of (cuts rs) r).behind < 256)
span_small rs r m few =
    let low = (place-placed (cuts rs) r.from (cuts-strict rs) (cuts-have r.from rs (from-point r rs m))).within in
    let high = (place-placed (cuts rs) r.to (cuts-strict rs) (cuts-have r.to rs (to-point r rs m))).within in
    (omega arith, omega (arith, one-most r.inclusive))

-- ---- the loop

-- what the loop is given
pub record Given (s m cs : List ℕ) (first n : ℕ) : Type 0 where
  pub marks-long : length m ≡ 256
  pub clear : (j : ℕ) → j < 256 → get_or m j 0 ≡ 0
  pub read : AreRead s first n
  pub cuts_are : cs ≡ cuts (ranges_read s)

-- the first i ranges stand in the table w, which was w₀
pub record SpannedTo (s cs w₀ w m : List ℕ) (first i : ℕ) : Type 0 where
  pub spans : spans_to w i ≡ map (span_of cs) (first_ranges s first i)
  pub marked : Marked m (spans_to w i)
  pub kept : Within first_at low_at w₀ w

pub record Spanning (s cs w₀ m₀ : List ℕ) (first n : ℕ) (w m : List ℕ) (i : ℕ) : Type 0 where
  pub within : i ≤ n
  pub long : length w ≡ size
  pub marks-same : length m ≡ length m₀
  pub so : Given s m₀ cs first n → SpannedTo s cs w₀ w m first i

pub spanning-start : (s cs w m : List ℕ) (first n i : ℕ) → length w ≡ size → i ≡ 0 → Spanning s cs w m first n w m i
unfolding spans_to
spanning-start s cs w m first n i long z = rw z (record {
  within = omega arith;
  long = long;
  marks-same = refl;
  so =
      λ g. record {
        spans = sym (ap (map (span_of cs)) (first-none s first));
        marked = marked_start m (λ j l. g.clear j (omega (arith, g.marks-long)));
        kept = within_none first_at low_at w;
      };
})

module _ (s cs w₀ m₀ : List ℕ) (first n : ℕ) (w m : List ℕ) (i : ℕ) (few : length cs ≤ max_cuts)
    (c : Spanning s cs w₀ m₀ first n w m i) where
  abbrev here : ℕ → Span
  here r = span_of cs (range_of s r)

  step : (r : ℕ) → r ≡ skip s i first → Given s m₀ cs first n → i < n → n ≤ max_entries
      → SpannedTo s cs w₀ (with_span w i (here r)) (with_marks m (here r)) first (i + 1)
  step r node g l h =
      let d = c.so g in
      let room : i < max_entries = omega arith in
      let rs = ranges_read s in
      let among : Memᴰ (range_of s r) rs =
      rw node (rw (first_read s first n g.read.start g.read.count) at (first-among s first n i l)) in
      let small : ((here r).first < 256) × ((here r).behind < 256) =
      rw g.cuts_are (span_small rs (range_of s r) among (omega (arith, few, ap length g.cuts_are))) in
      let more = with-more w i (here r) room c.long in
      let long : length m ≡ 256 = c.marks-same ∙ g.marks-long in
      record {
        spans =
            more
            ∙ ap₂ (λ (xs : List Span) (j : ℕ). xs ++ (span_of cs (range_of s j) ∷ [])) d.spans node
            ∙ sym (map-append (span_of cs) (first_ranges s first i) (range_of s (skip s i first) ∷ []))
            ∙ sym (ap (map (span_of cs)) (first_more s first i));
        marked = rw more (marked-on m (spans_to w i) d.marked (here r) (omega (arith, small.0, long)) (omega (arith, small.1, long)));
        kept = within-then d.kept (with-within w i (here r) room);
      }

  pub spanning-on : (r : ℕ) (w' m' : List ℕ) → r ≡ skip s i first → i < n → n ≤ max_entries → length w' ≡ size → length m' ≡ length m
      → (Strict cs → (w' ≡ with_span w i (here r)) × (m' ≡ with_marks m (here r))) → Spanning s cs w₀ m₀ first n w' m' (i + 1)
  spanning-on r w' m' node l h w-long m-same put = record {
    within = omega arith;
    long = w-long;
    marks-same = m-same ∙ c.marks-same;
    so =
        λ g.
        let are = put (rw g.cuts_are (cuts-strict (ranges_read s))) in
        rw (are.0, are.1) (step r node g l h);
  }

  pub spanning-end : n ≤ i → length m₀ ≡ 256 → ((j : ℕ) → j < 256 → get_or m₀ j 0 ≡ 0)
      → AreRead s first n → cs ≡ cuts (ranges_read s)
      → (spans_to w n ≡ map (span_of (cuts (ranges_read s))) (ranges_read s)) × (Marked m (spans_to w n) × Within first_at low_at w₀ w)
  spanning-end l m-long clear read q =
      let d = c.so (record { marks-long = m-long; clear = clear; read = read; cuts_are = q }) in
      let is : i ≡ n = omega (arith, c.within) in (
        ap (spans_to w) (sym is)
            ∙ d.spans
            ∙ ap (λ (k : ℕ). map (span_of cs) (first_ranges s first k)) is
            ∙ ap₂ (λ (ks : List ℕ) (rs : List Range). map (span_of ks) rs) q (first_read s first n read.start read.count),
        (rw is at d.marked, d.kept),
      )

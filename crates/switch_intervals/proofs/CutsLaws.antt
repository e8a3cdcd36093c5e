-- The loop that puts the words of the cuts into the table: its invariant, `Cutting`, with start, step and end.
use Prim.Native.Nat.{ℕ, ◌+◌, ◌^◌, ◌≤◌, ◌<◌}
use mathlib.Core.Path.{◌≡◌, ◌∙◌, ap}
use mathlib.Core.List.{List}
use native.Mathlib.Omega.{arith}
use borrow.Author.Count.{below_more}
use lib.IntN.{ℤ, pos}
use lib.ListN.{length, get_or, set, length-set}
use lib.Seq.{get_or-set_same, get_or-set_other}
use lib.Signed.{mag}
use mir.Syntax.{w64}
use mir.ValLaws.{to_z-of_z}
use Rattle.switch_split.specs.Excess.{low_word, high_word, excess_of}
use Rattle.switch_split.specs.Held.{excesses}
use Rattle.switch_split.proofs.HeldLaws.{excesses-length}
use Rattle.switch_split.proofs.OrderLaws.{as_read}
use Rattle.switch_split.specs.Piece.{cut_at}
use Rattle.switch_tables.specs.Columns.{size, low_at, high_at, bands_at, cell, Within, max_cuts}
use Rattle.switch_tables.proofs.ColumnLaws.{within_none, within-then, within-put}
use Rattle.switch_intervals.specs.Marks.{Cuts}
use Rattle.switch_intervals.proofs.SearchLaws.{cut-held}

-- the first i cuts stand in the table, and nothing else has changed
pub record Cutting (at : List ℤ) (before w : List ℕ) (i : ℕ) : Type 0 where
  pub within : i ≤ length at
  pub long : length w ≡ size
  pub lows : (k : ℕ) → k < i → cell w (low_at + k) ≡ low_word (cut_at (excesses at) k)
  pub highs : (k : ℕ) → k < i → cell w (high_at + k) ≡ high_word (cut_at (excesses at) k)
  pub kept : Within low_at bands_at before w

pub cutting-start : (at : List ℤ) (w : List ℕ) → length w ≡ size → Cutting at w w 0
cutting-start at w long = record {
  within = omega arith;
  long = long;
  lows = λ k h. absurd (omega arith);
  highs = λ k h. absurd (omega arith);
  kept = within_none low_at bands_at w;
}

pub cutting-on : (at : List ℤ) (before w w' w'' : List ℕ) (i low high : ℕ) → Cutting at before w i → i < length at → length at ≤ max_cuts
    → mag (get_or at i (pos 0)) < 2 ^ 63 → low ≡ low_word (excess_of (as_read (get_or at i (pos 0))))
    → high ≡ high_word (excess_of (as_read (get_or at i (pos 0)))) → w' ≡ set w (low_at + i) low
    → w'' ≡ set w' (high_at + i) high → Cutting at before w'' (i + 1)
cutting-on at before w w' w'' i low high c l few fits low-is high_is a b =
    let is : excess_of (as_read (get_or at i (pos 0))) ≡ cut_at (excesses at) i =
    ap excess_of (to_z-of_z w64 (get_or at i (pos 0)) (record { sfits = fits })) ∙ cut-held at i in
    let one = set w (low_at + i) low in
    let long : length one ≡ size = length-set w (low_at + i) low ∙ c.long in
    rw (b ∙ ap (λ (v : List ℕ). set v (high_at + i) high) a)
    (record {
      within = omega arith;
      long = length-set one (high_at + i) high ∙ long;
      lows =
          below_more _ _
          (λ k h.
          get_or-set_other one (high_at + i) (low_at + k) high 0 (λ (q : low_at + k ≡ high_at + i). omega arith)
          ∙ get_or-set_other w (low_at + i) (low_at + k) low 0 (λ (q : low_at + k ≡ low_at + i). omega arith)
          ∙ c.lows k h)
          (get_or-set_other one (high_at + i) (low_at + i) high 0 (λ (q : low_at + i ≡ high_at + i). omega arith)
          ∙ get_or-set_same w (low_at + i) low 0 (omega (arith, c.long))
          ∙ low-is
          ∙ ap low_word is);
      highs =
          below_more _ _
          (λ k h.
          get_or-set_other one (high_at + i) (high_at + k) high 0 (λ (q : high_at + k ≡ high_at + i). omega arith)
          ∙ get_or-set_other w (low_at + i) (high_at + k) low 0 (λ (q : high_at + k ≡ low_at + i). omega arith)
          ∙ c.highs k h)
          (get_or-set_same one (high_at + i) high 0 (omega arith) ∙ high_is ∙ ap high_word is);
      kept =
          within-then c.kept
          (within-then (within-put low_at bands_at w (low_at + i) low (omega arith) (omega arith))
          (within-put low_at bands_at one (high_at + i) high (omega arith) (omega arith)));
    })

pub cutting-end : (at : List ℤ) (before w : List ℕ) (i : ℕ) → Cutting at before w i → length at ≤ i
    → Cuts (excesses at) w × Within low_at bands_at before w
cutting-end at before w i c l =
    let long = excesses-length at in
    (record { lows = λ k h. c.lows k (omega arith); highs = λ k h. c.highs k (omega arith) }, c.kept)

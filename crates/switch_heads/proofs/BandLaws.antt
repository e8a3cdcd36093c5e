-- The heads of the bands: the loop over them, with its invariant `BandFill`. Assumed: at most 64 intervals
-- and 255 bands.
use Prim.Native.Nat.{ℕ, ◌+◌, ◌≤◌, ◌<◌, min}
use mathlib.Core.Path.{◌≡◌, sym, ◌∙◌, ap}
use mathlib.Core.List.{List, []}
use native.Mathlib.Omega.{arith}
use lib.ListN.{length, get_or, set}
use Rattle.sheet.specs.Limits.{max_entries}
use Rattle.lowering.specs.Limits.{max_bands}
use Rattle.switch_tables.specs.Columns.{size, cell, column, spans_at, wanted_at, Within}
use Rattle.switch_tables.specs.Columns.{bands_at, band_first_at, band_heads_at, band_number_at, band_head_at, band_head_hash_at}
use Rattle.switch_tables.specs.Spans.{Span, blocks_at}
use Rattle.switch_tables.specs.Table.{spans_in, piece_in, band_keys, BandHeads}
use Rattle.switch_tables.proofs.ColumnLaws.{column-kept, keys_length, key-at}
use Rattle.switch_lists.proofs.SpanLaws.{spans-within}
use Rattle.switch_heads.specs.Hashed.{Hashed, Numbered}
use Rattle.switch_heads.proofs.FillLaws.{Places, Fill, Filled, fill_start, fill-step, fill_end}

abbrev band_places : Places
band_places = record {
  counts = band_heads_at;
  numbers = band_number_at;
  at = band_head_at;
  hashes = band_head_hash_at;
  cap = max_bands;
  first = omega arith;
  second = omega arith;
  third = omega arith;
  inside = omega arith;
}

-- what the contract asks
pub record Asked (w : List ℕ) : Type 0 where
  pub few_spans : cell w spans_at ≤ max_entries
  pub few_bands : cell w bands_at ≤ max_bands

pub record BandFill (w : List ℕ) (n : ℕ) (v : List ℕ) (heads i : ℕ) : Type 0 where
  pub count : n ≡ min (cell w bands_at) max_bands
  pub whole : length w ≡ size
  pub fill : Fill (piece_in w) band_places (band_keys w) (Asked w) w n v heads i

pub bands-start : (w : List ℕ) (n m : ℕ) → m ≡ cell w bands_at → n ≡ min m max_bands → length w ≡ size → BandFill w n w 0 0
bands-start w n m e h long = record { count = rw (← e) h; whole = long; fill = fill_start n (omega arith) }

keys-same : {xs ys : List Span} → xs ≡ ys → ◌≡◌ {A = ℕ → List ℕ} (λ p. blocks_at p xs) (λ p. blocks_at p ys)
keys-same e = ap {B = ℕ → List ℕ} (λ (xs : List Span) (p : ℕ). blocks_at p xs) e

module _ (w : List ℕ) (n : ℕ) (v : List ℕ) (heads i : ℕ) (k : BandFill w n v heads i) where
  all : Asked w → n ≡ length (band_keys w)
  all a = omega (arith, k.count, a.few_bands, keys_length (piece_in w) w band_first_at (cell w bands_at))

  module _ (more : i < n) (p : ℕ) (p-is : p ≡ cell v (band_first_at + i)) (u : List ℕ) (most : ℕ) where
    -- with what the contract asks
    module _ (a : Asked w) where
      r : Filled (piece_in w) band_places (band_keys w) w v heads i
      r = k.fill.filled a

      p-now : p ≡ cell w (band_first_at + i)
      p-now = p-is ∙ r.stays.low (band_first_at + i) (omega (arith, k.fill.low))

      list-now : get_or (band_keys w) i [] ≡ piece_in w p
      list-now = key-at (piece_in w) w band_first_at [] (cell w bands_at) i (omega (arith, k.count)) ∙ ap (piece_in w) (sym p-now)

    pub bands-step : length u ≡ length v → most ≤ heads + 1
        → (cell v spans_at ≤ max_entries → Hashed (piece_in v) v band_head_at band_head_hash_at heads
        → Numbered (piece_in v) band_number_at band_head_at band_head_hash_at v heads i p u most)
        → BandFill w n u most (i + 1)
    bands-step same few put = record {
      count = k.count;
      whole = k.whole;
      fill = fill-step k.fill (λ a. k.whole) all more p list-now u most same few
          (λ a.
          let few-now : cell v spans_at ≤ max_entries = rw ((r a).stays.low spans_at (omega arith)) a.few_spans in
          (rw (keys-same (spans-within (omega arith) a.few_spans (r a).stays)) at (put few-now)) (r a).hashed);
    }

  -- the count of heads is written at the end
  pub bands-end : n ≤ i → (u : List ℕ) → u ≡ set v band_heads_at heads → Asked w → BandHeads u × Within band_heads_at wanted_at w u
  bands-end done u write a =
      let d = fill_end k.fill (λ b. k.whole) all done write a in
      let spans : spans_in u ≡ spans_in w = spans-within (omega arith) a.few_spans d.stays in
      let bands : cell u bands_at ≡ cell w bands_at = d.stays.low bands_at (omega arith) in
      let firsts : column u band_first_at (cell w bands_at) ≡ column w band_first_at (cell w bands_at) =
      column-kept w u band_first_at (cell w bands_at) (λ j h. d.stays.low (band_first_at + j) (omega (arith, a.few_bands))) in (
        record {
          few = d.few;
          heads = rw (keys-same spans, bands, firsts) d.heads-are;
          numbers = λ j h.
              let l : j < cell w bands_at = rw bands at h in
              rw (keys-same spans, spans, bands, firsts, d.stays.low (band_first_at + j) (omega (arith, a.few_bands)))
              (d.number_at j (rw (keys_length (piece_in w) w band_first_at (cell w bands_at)) l)
              ∙ rw (key-at (piece_in w) w band_first_at [] (cell w bands_at) j l));
        },
        d.stays,
      )

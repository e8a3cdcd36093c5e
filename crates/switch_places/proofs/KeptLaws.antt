-- What the table has of a switch stays where only cells behind it change.
use Prim.Native.Nat.{ℕ, zero, suc, ◌+◌, ◌<◌, ◌≤◌}
use mathlib.Core.Path.{◌≡◌, refl, sym, ◌∙◌, ap, ap₂}
use mathlib.Core.List.{List, [], ◌∷◌, ◌++◌, map}
use native.Mathlib.Omega.{arith}
use lib.Dec.{eqb}
use lib.ListN.{length, length-take}
use Rattle.sheet.specs.Limits.{max_entries}
use Rattle.switch_split.specs.Points.{cuts}
use Rattle.switch_split.proofs.PointsLaws.{cuts-length}
use Rattle.lowering.specs.Limits.{max_bands}
use Rattle.lowering.specs.SwitchSheet.{ranges_of}
use Rattle.expr_count.specs.Count.{Rec}
use Rattle.switch_tables.specs.Columns.{guard_at, guard_len_at, guard_emitted_at, guard_node_at, case_heads_at, case_number_at, head_node_at, spans_at}
use Rattle.switch_tables.specs.Columns.{low_at, max_cuts}
use Rattle.switch_tables.specs.Columns.{high_at, bands_at, band_first_at, band_last_at, band_heads_at, band_number_at, band_head_at, band_hash_at}
use Rattle.switch_tables.specs.Columns.{band_place_at}
use Rattle.switch_tables.specs.Columns.{band_exit_at, wanted_at, case_place_at, case_exit_at, body_at, dispatch_at, default_at, end_at, fallback_at}
use Rattle.switch_tables.specs.Columns.{case_const_at, cell, column, Within}
use Rattle.switch_tables.specs.Spans.{Span, blocks_at}
use Rattle.switch_tables.specs.Heads.{case_key}
use Rattle.switch_tables.specs.Bands.{Band, bands_in, entry_of}
use Rattle.switch_tables.specs.Table.{known_in, GuardsBy, head_keys, ranges_read, spans_in, piece_in, CutWords}
use Rattle.switch_tables.specs.Planned.{TablesBy, PlacedBy, entries}
use Rattle.switch_tables.proofs.ColumnLaws.{column-kept, keys_length}
use Rattle.switch_lists.proofs.SpanLaws.{spans-same}
use Rattle.switch_count.specs.Total.{case_lists, split_lists}

-- no more than 128 cuts are made by the ranges that are read
few-cuts : (s : List ℕ) → length (cuts (ranges_read s)) ≤ max_cuts
few-cuts s = omega (arith, cuts-length (ranges_read s), length-take max_entries (ranges_of s))

-- cells below b stay
module _ (w v : List ℕ) (b : ℕ) (same : (i : ℕ) → i < b → cell v i ≡ cell w i) where
  -- a column with its count
  counted-stays : (at c m : ℕ) → c < b → at + m ≤ b → cell w c ≤ m → column v at (cell v c) ≡ column w at (cell w c)
  counted-stays at c m l h k = ap (column v at) (same c l) ∙ column-kept w v at (cell w c) (λ i n. same (at + i) (omega arith))

  pub guards-stay : (s : List ℕ) {tal : Rec} (n : ℕ) → case_heads_at ≤ b → n ≤ max_entries → GuardsBy s tal w n → GuardsBy s tal v n
  guards-stay s n h l g = record {
    known = λ k m.
        let known : known_in v k ≡ known_in w k = λ i. record {
          kind = same (guard_at + k) (omega arith) i;
          len = same (guard_len_at + k) (omega arith) i;
          emitted = same (guard_emitted_at + k) (omega arith) i;
        } in
        known ∙ g.known k m;
    node = λ k m. same (guard_node_at + k) (omega arith) ∙ g.node k m;
  }

  pub heads-stay : (s : List ℕ) → spans_at ≤ b → cell w case_heads_at ≤ max_entries → head_keys s v ≡ head_keys s w
  heads-stay s h l = ap (map (case_key s)) (counted-stays head_node_at case_heads_at max_entries (omega arith) (omega arith) l)

  pub spans-stay : low_at ≤ b → cell w spans_at ≤ max_entries → spans_in v ≡ spans_in w
  spans-stay h l = spans-same w v l (λ i to. same i (omega arith))

  pub cut-words-stay : (s : List ℕ) → bands_at ≤ b → CutWords s w → CutWords s v
  cut-words-stay s h c = record {
    lows = λ i l. same (low_at + i) (omega (arith, few-cuts s)) ∙ c.lows i l;
    highs = λ i l. same (high_at + i) (omega (arith, few-cuts s)) ∙ c.highs i l;
  }

  bands-to : (n : ℕ) → band_heads_at ≤ b → n ≤ max_bands → bands_in v n ≡ bands_in w n
  unfolding bands_in
  bands-to zero h l = refl
  bands-to (suc n) h l =
      ap₂ (λ (xs : List Band) (x : Band). xs ++ (x ∷ [])) (bands-to n h (omega arith))
      (λ i. record { first = same (band_first_at + n) (omega arith) i; last = same (band_last_at + n) (omega arith) i })

  pub bands-stay : band_heads_at ≤ b → cell w bands_at ≤ max_bands → bands_in v (cell v bands_at) ≡ bands_in w (cell w bands_at)
  bands-stay h l = ap (bands_in v) (same bands_at (omega arith)) ∙ bands-to (cell w bands_at) h l

  -- cells of the bands are below m
  pub band-cells-stay : (at m : ℕ) → at + max_bands ≤ b → band_heads_at ≤ b → cell w bands_at ≤ max_bands
      → ((i : ℕ) → i < cell w bands_at → cell w (at + i) < m) → (i : ℕ) → i < cell v bands_at → cell v (at + i) < m
  band-cells-stay at m h k few f i l =
      let n : i < cell w bands_at = omega (arith, same bands_at (omega arith)) in
      omega (arith, f i n, same (at + i) (omega arith))

  -- ---- all that is read

  tables-stay : (s : List ℕ) {tal : Rec} → band_hash_at ≤ b → TablesBy s tal w → TablesBy s tal v
  tables-stay s h t = record {
    few_blocks = t.few_blocks;
    few_cases = t.few_cases;
    guards = guards-stay s _ (omega arith) t.few_blocks t.guards;
    few_heads = omega (arith, same case_heads_at (omega arith), t.few_heads);
    case_heads = heads-stay s (omega arith) t.few_heads ∙ t.case_heads;
    case_numbers = λ i l. same (case_number_at + i) (omega (arith, t.few_cases)) ∙ t.case_numbers i l;
    few_spans = omega (arith, same spans_at (omega arith), t.few_spans);
    cut_words = cut-words-stay s (omega arith) t.cut_words;
    few_bands = omega (arith, same bands_at (omega arith), t.few_bands);
    bands = ap (map (entry_of (ranges_of s) (cuts (ranges_of s)))) (bands-stay (omega arith) t.few_bands) ∙ t.bands;
    few_band_heads = omega (arith, same band_heads_at (omega arith), t.few_band_heads);
    band_heads =
        ap (map (piece_in v)) (counted-stays band_head_at band_heads_at max_bands (omega arith) (omega arith) t.few_band_heads)
        ∙ ap (λ (xs : List Span). map (λ p. blocks_at p xs) (column w band_head_at (cell w band_heads_at)))
        (spans-stay (omega arith) t.few_spans)
        ∙ t.band_heads;
    band_numbers = λ i l.
        let few : i < cell w bands_at = omega (arith, same bands_at (omega arith)) in
        same (band_number_at + i) (omega (arith, t.few_bands)) ∙ t.band_numbers i few;
    firsts = band-cells-stay band_first_at _ (omega arith) (omega arith) t.few_bands t.firsts;
    lasts = band-cells-stay band_last_at _ (omega arith) (omega arith) t.few_bands t.lasts;
  }

-- what is read stays where only cells of the count change
pub tables-kept : {s w v : List ℕ} {tal : Rec} {lo hi : ℕ} → TablesBy s tal w → Within lo hi w v → band_hash_at ≤ lo → TablesBy s tal v
tables-kept {s} {w} {v} {tal} {lo} t c h = tables-stay w v lo (λ i l. c.low i l) s h t

-- ---- where the parts stand

-- how many chains there are
pub case_count : {s w : List ℕ} {tal : Rec} → TablesBy s tal w → length (case_lists s) ≡ cell w case_heads_at
case_count {s} {w} t = sym (ap length t.case_heads) ∙ keys_length (case_key s) w head_node_at (cell w case_heads_at)

pub band-count : {s w : List ℕ} {tal : Rec} → TablesBy s tal w → length (split_lists (entries s)) ≡ cell w band_heads_at
band-count {s} {w} t = sym (ap length t.band_heads) ∙ keys_length (piece_in w) w band_head_at (cell w band_heads_at)

pub placed-kept : {s w v : List ℕ} {tal : Rec} {lo hi : ℕ} → TablesBy s tal w → PlacedBy s tal w → Within lo hi w v → case_const_at ≤ lo
    → PlacedBy s tal v
placed-kept {s} {w} {v} {tal} {lo} t p c h = record {
  wanted = λ k l. ap (λ x. eqb x 1) (same (wanted_at + k) (omega (arith, t.few_blocks))) ∙ p.wanted k l;
  bodies = λ k l. same (body_at + k) (omega (arith, t.few_blocks)) ∙ p.bodies k l;
  case_chains = record {
    places = λ q l. same (case_place_at + q) (omega (arith, case_count t, t.few_heads)) ∙ p.case_chains.places q l;
    exits = λ q l. same (case_exit_at + q) (omega (arith, case_count t, t.few_heads)) ∙ p.case_chains.exits q l;
  };
  band_chains = record {
    places = λ q l. same (band_place_at + q) (omega (arith, band-count t, t.few_band_heads)) ∙ p.band_chains.places q l;
    exits = λ q l. same (band_exit_at + q) (omega (arith, band-count t, t.few_band_heads)) ∙ p.band_chains.exits q l;
  };
  dispatch_is = same dispatch_at (omega arith) ∙ p.dispatch_is;
  default_is = same default_at (omega arith) ∙ p.default_is;
  end_is = same end_at (omega arith) ∙ p.end_is;
  fallback_is = same fallback_at (omega arith) ∙ p.fallback_is;
}
  where
    same : (i : ℕ) → i < case_const_at → cell v i ≡ cell w i
    same i l = c.low i (omega arith)

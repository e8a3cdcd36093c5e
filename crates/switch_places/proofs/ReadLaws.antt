-- What the passes leave in the table, put together: an accepted switch, in the words of the definition of the lowering.
use Prim.Native.Nat.{ℕ, zero, suc, ◌+◌, ◌<◌, ◌≤◌, min}
use mathlib.Core.Path.{◌≡◌, refl, sym, ◌∙◌, ap, ap₂}
use mathlib.Core.List.{List, [], map, map-append}
use native.Mathlib.Omega.{arith}
use lib.ListN.{length, get_or, length-map}
use Rattle.sheet.specs.Limits.{max_entries}
use Rattle.sheet.specs.Node.{kind}
use Rattle.check_switches.specs.Switch.{case_count}
use Rattle.checks.specs.Checked.{verdict_number, checked}
use Rattle.switch_split.specs.Range.{Range}
use Rattle.switch_split.specs.Points.{cuts}
use Rattle.switch_split.specs.Split.{atoms, piece, pieces}
use Rattle.switch_split.specs.Split as Split
use Rattle.lowering.specs.Kinds.{switch_kind}
use Rattle.lowering.specs.SwitchSheet.{block_count}
use Rattle.lowering.specs.Arms.{distinct}
use Rattle.expr_count.specs.Count.{Rec}
use Rattle.switch_count.specs.Total.{case_lists, split_lists}
use Rattle.switch_tables.specs.Columns.{case_heads_at, case_number_at, spans_at, bands_at, band_first_at, band_last_at, band_heads_at, wanted_at, cell}
use Rattle.switch_tables.specs.Columns.{column}
use Rattle.switch_tables.specs.Columns.{Within}
use Rattle.switch_tables.specs.Spans.{blocks_at}
use Rattle.switch_tables.specs.Numbers.{number_in}
use Rattle.switch_tables.specs.Bands.{band_at, bands_in, entry_of, joined}
use Rattle.switch_tables.specs.Table.{GuardsBy, CaseHeads, case_keys, ranges_read, piece_in, Spanned, CutWords, BandsAre, band_keys, BandHeads}
use Rattle.switch_tables.specs.Planned.{TablesBy, entries}
use Rattle.switch_tables.proofs.Accepted.{few_blocks, few_cases, ranges-whole, blocks-whole}
use Rattle.switch_tables.proofs.Whole.{case-keys, split-all, band-list}
use Rattle.switch_tables.proofs.SpansLaws.{piece-list}
use Rattle.switch_tables.proofs.ColumnLaws.{key-at}
use Rattle.switch_places.proofs.KeptLaws.{guards-stay, heads-stay, spans-stay, cut-words-stay, bands-stay, band-cells-stay}

-- ---- the lists of the bands

abbrev blocks_of : Split.Entry → List ℕ
blocks_of e = e.blocks

module _ (s w : List ℕ) (g : Spanned s w) (a : BandsAre s w) where
  abbrev rs : List Range
  rs = ranges_read s

  abbrev cs : List ℕ
  cs = cuts rs

  -- the list of a band is that of its first piece
  band-has : (i : ℕ) → i < cell w bands_at → piece_in w (cell w (band_first_at + i)) ≡ (entry_of rs cs (band_at w i)).blocks
  unfolding pieces
  band-has i h =
      let j = cell w (band_first_at + i) in
      let l : j < length (pieces rs) = omega (arith, a.firsts i h, length-map (atoms cs) (piece rs)) in
      ap (blocks_at j) g.spans ∙ sym (piece-list rs j l) ∙ sym (band-list rs cs (band_at w i))

  bands-have : (n : ℕ) → n ≤ cell w bands_at → map (piece_in w) (column w band_first_at n) ≡ map blocks_of (map (entry_of rs cs) (bands_in w n))
  unfolding column bands_in
  bands-have zero h = refl
  bands-have (suc n) h = simp (map-append, bands-have n (omega arith), band-has n (omega arith))

  band-lists : band_keys w ≡ map blocks_of (joined rs cs)
  band-lists = bands-have (cell w bands_at) (omega arith) ∙ ap (map blocks_of) a.bands

-- ---- what the passes leave

module _ (s : List ℕ) (ok : verdict_number (checked s) ≡ 0) (k : kind s 0 ≡ switch_kind) where
  case-lists : distinct (case_keys s) ≡ case_lists s
  unfolding case_lists
  case-lists = ap distinct (case-keys s ok k)

  joined-entries : joined (ranges_read s) (cuts (ranges_read s)) ≡ entries s
  joined-entries = split-all s ok k (ranges_read s) (cuts (ranges_read s)) (ranges-whole s ok k) refl

  -- w₁ has the guards, w₂ the heads of the cases, w₃ the ranges, w₄ the heads of the bands
  module _ {w₁ w₂ w₃ w₄ : List ℕ} {tal : Rec} (g : GuardsBy s tal w₁ (min (block_count s) max_entries))
      (h : CaseHeads s w₂ × Within case_heads_at spans_at w₁ w₂)
      (x : Spanned s w₃) (u : CutWords s w₃) (a : BandsAre s w₃) (c₃ : Within spans_at wanted_at w₂ w₃)
      (r : BandHeads w₄ × Within band_heads_at wanted_at w₃ w₄) where
    low : (i : ℕ) → i < spans_at → cell w₄ i ≡ cell w₂ i
    low i l = r.1.low i (omega arith) ∙ c₃.low i l

    guards₄ : GuardsBy s tal w₄ (min (block_count s) max_entries)
    guards₄ = guards-stay w₁ w₄ case_heads_at (λ i l. low i (omega arith) ∙ h.1.low i l) s _ (omega arith) (omega arith) g

    spanned₄ : Spanned s w₄
    spanned₄ = record {
      few = omega (arith, r.1.low spans_at (omega arith), x.few);
      spans = spans-stay w₃ w₄ band_heads_at r.1.low (omega arith) x.few ∙ x.spans;
    }

    bands₄ : BandsAre s w₄
    bands₄ = record {
      few = omega (arith, r.1.low bands_at (omega arith), a.few);
      bands =
          ap (map (entry_of (ranges_read s) (cuts (ranges_read s)))) (bands-stay w₃ w₄ band_heads_at r.1.low (omega arith) a.few)
          ∙ a.bands;
      firsts = band-cells-stay w₃ w₄ band_heads_at r.1.low band_first_at _ (omega arith) (omega arith) a.few a.firsts;
      lasts = band-cells-stay w₃ w₄ band_heads_at r.1.low band_last_at _ (omega arith) (omega arith) a.few a.lasts;
    }

    keys₄ : band_keys w₄ ≡ map blocks_of (entries s)
    keys₄ = band-lists s w₄ spanned₄ bands₄ ∙ ap (map blocks_of) joined-entries

    heads₄ : distinct (band_keys w₄) ≡ split_lists (entries s)
    unfolding split_lists
    heads₄ = ap distinct keys₄

    pub tables-read : TablesBy s tal w₄
    tables-read = record {
      few_blocks = few_blocks s ok k;
      few_cases = few_cases s ok k;
      guards = let all : min (block_count s) max_entries ≡ block_count s = omega (arith, few_blocks s ok k) in rw (← all) guards₄;
      few_heads = omega (arith, low case_heads_at (omega arith), h.0.few);
      case_heads = heads-stay w₂ w₄ spans_at low s (omega arith) h.0.few ∙ h.0.heads ∙ case-lists;
      case_numbers = λ i l.
          let m : i < min (case_count s) max_entries = omega (arith, few_cases s ok k) in
          low (case_number_at + i) (omega (arith, few_cases s ok k))
          ∙ h.0.numbers i m
          ∙ ap₂ number_in (blocks-whole s ok k i l) case-lists;
      few_spans = spanned₄.few;
      cut_words = cut-words-stay w₃ w₄ band_heads_at r.1.low s (omega arith) u;
      few_bands = bands₄.few;
      bands =
          ap (λ (z : List Range). map (entry_of z (cuts z)) (bands_in w₄ (cell w₄ bands_at))) (sym (ranges-whole s ok k))
          ∙ bands₄.bands
          ∙ joined-entries;
      few_band_heads = r.0.few;
      band_heads = r.0.heads ∙ heads₄;
      band_numbers = λ i l.
          r.0.numbers i l
          ∙ ap₂ number_in
          (sym (key-at (piece_in w₄) w₄ band_first_at [] (cell w₄ bands_at) i l) ∙ ap (λ z. get_or z i []) keys₄) heads₄;
      firsts = bands₄.firsts;
      lasts = bands₄.lasts;
    }

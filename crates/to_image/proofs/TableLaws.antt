-- The tables of a Switch as the code writes them are the program's: the flat table has the words of each row.
use Prim.Native.Nat.{ℕ, zero, suc, ◌+◌, ◌-◌, ◌/◌, ◌%◌, ◌<◌}
use mathlib.Core.Path.{◌≡◌, refl, sym, ap, ◌∙◌}
use mathlib.Core.Bool.{Bool, true, false}
use mathlib.Core.List.{List, [], ◌∷◌, ◌++◌}
use native.Mathlib.Omega.{arith}
use native.Mathlib.Nat.{add-zero}
use lib.Dec.{ltb}
use lib.ListN.{length, take, get_or, length-map, get_or-append, get_or-map}
use lib.Seq.{get_or_at}
use borrow.Author.Tests.{ltb-true, ltb-false, eq-eqb}
use Rattle.switch_tables.proofs.BandsLaws.{bands-length}
use Rattle.lowering.specs.Kinds.{switch_kind}
use Rattle.lowering.proofs.LowerFits.{lower_switch}
use Rattle.sheet.specs.Limits.{max_depth}
use Rattle.sheet.specs.Node.{child, kind}
use Rattle.sheet.specs.Walk.{skip}
use Rattle.check_switches.specs.Switch.{case_count, first_case}
use Rattle.switch_split.specs.Excess.{shifted, low_word, high_word}
use Rattle.switch_split.specs.Points.{cuts}
use Rattle.switch_split.specs.Piece.{cut_at}
use Rattle.switch_split.specs.Split.{Entry, atoms}
use Rattle.switch_split.proofs.SplitLaws.{atoms-count}
use Rattle.bytecode.specs.declared.SwitchCase.{SwitchCase}
use Rattle.bytecode.specs.declared.SwitchRange.{SwitchRange}
use Rattle.bytecode.specs.Switch.{case_words, range_words}
use Rattle.lowering.specs.Image.{section}
use Rattle.lowering.specs.Pools.{Pools, const_of, const_at, push_const}
use Rattle.lowering.specs.Expression.{expression}
use Rattle.lowering.specs.SwitchSheet.{default_block, cases_of, case_blocks, ranges_of}
use Rattle.lowering.specs.SwitchLaid.{SwitchLaid}
use Rattle.lowering.specs.SwitchCode as code
use Rattle.lowering.specs.SwitchTables as rows
use Rattle.lowering.specs.SwitchTables.{target, case_rows, range_rows, case_table, range_table, case_pools, one_if}
use Rattle.lowering.specs.Switch.{switch, switch_of}
use Rattle.lowering.specs.Outcome.{lower}
use Rattle.lowering.proofs.RowCounts.{case-rows-length}
use Rattle.expr_count.specs.Count.{tally}
use Rattle.expr_count.proofs.CountLaws.{tally-counts}
use Rattle.switch_count.specs.Total.{case_lists, split_lists}
use Rattle.switch_count.specs.Place.{range_target}
use Rattle.switch_count.proofs.PlaceLaws.{layout-case, layout-range}
use Rattle.switch_model.proofs.SwitchLaws.{laid_out}
use Rattle.switch_model.proofs.NodeLaws as blocks
use Rattle.switch_model.proofs.WholeLaws.{splits-are}
use Rattle.switch_tables.specs.Columns.{bands_at, band_first_at, band_last_at, band_number_at, case_number_at, case_const_at, default_at, fallback_at}
use Rattle.switch_tables.specs.Columns.{cell}
use Rattle.switch_tables.specs.Bands.{Band, band_at, bands_in, entry_of}
use Rattle.switch_tables.specs.Table.{CutWords, ranges_read}
use Rattle.switch_tables.specs.Planned.{Tables, Placed, entries}
use Rattle.switch_tables.proofs.NodesLaws as nodes
use Rattle.switch_tables.proofs.Accepted.{ranges-whole}
use Rattle.switch_tables.proofs.Whole.{case_at, band-low, band-high-point, band-high-gap, band-closed}
use Rattle.write_rows.specs.TableRows.{rows_to, tables_of, case_words_in, band_target_in, range_words_in}
use Rattle.write_rows.proofs.TableLaws.{tables-are}
use Rattle.write_rows.proofs.Filled.{section-by}
use Rattle.switch_heads.proofs.NumbersLaws.{mapped_at}
use Rattle.switch_heads.proofs.TargetLaws.{case-target-by, range-target-by, case-below, entry-below}
use Rattle.switch_emit.specs.Ready.{Ready}
use Rattle.to_image.proofs.SwitchLaws.{fallback-at, default-at}
use Rattle.to_image.proofs.TargetLaws.{goes-to}

-- ---- the rows of the definition

module _ (s : List ℕ) (l : SwitchLaid) (fallback : ℕ) where
  -- the row of Case c, with the pools p
  unfoldable case_row : ℕ → Pools → SwitchCase
  case_row c p = record {
    target = target l.bodies fallback (rows.entry_of (case_blocks s c) l.case_arms);
    constant = const_at s (const_of s (child c)) p;
  }

  case-row : (d : SwitchCase) (cs : List ℕ) (p : Pools) (i : ℕ) → i < length cs
      → get_or (case_rows s l fallback cs p) i d ≡ case_row (get_or cs i 0) (case_pools s (take i cs) p)
  unfolding case_rows case_pools case_row
  case-row d [] p i h = absurd (omega arith)
  case-row d (c ∷ cs) p zero h = refl
  case-row d (c ∷ cs) p (suc i) h = case-row d cs (push_const s (const_of s (child c)) p) i (omega arith)

-- the row of entry e
unfoldable range_row : SwitchLaid → ℕ → Entry → SwitchRange
range_row l fallback e = record {
  from = shifted e.from;
  to = shifted e.to;
  inclusive = one_if e.inclusive;
  target = target l.bodies fallback (rows.entry_of e.blocks l.range_arms);
}

range-section-by : (l : SwitchLaid) (fallback : ℕ) (es : List Entry)
    → section range_words (range_rows l fallback es) ≡ section (λ e. range_words (range_row l fallback e)) es
unfolding range_rows range_row section
range-section-by l fallback [] = refl
range-section-by l fallback (e ∷ es) =
    ap (λ (z : List ℕ). range_words (range_row l fallback e) ++ z) (range-section-by l fallback es)

-- ---- the bands of the flat table

bands-at : (w : List ℕ) (d : Band) (n i : ℕ) → i < n → get_or (bands_in w n) i d ≡ band_at w i
unfolding bands_in
bands-at w d zero i h = absurd (omega arith)
bands-at w d (suc n) i h = by (bands-at w d n i) (ltb i n) refl
  where
    by : (i < n → get_or (bands_in w n) i d ≡ band_at w i) → (t : Bool) → ltb i n ≡ t → get_or (bands_in w n ++ (band_at w n ∷ [])) i d ≡ band_at w i
    by before true e =
        let l = ltb-true i n e in
        get_or-append (bands_in w n) (band_at w n ∷ []) d i (omega (arith, bands-length w n)) ∙ before l
    by before false e =
        let l = ltb-false i n e in
        let z : i ≡ n = omega arith in
        get_or_at (bands_in w n) (band_at w n) [] d i (bands-length w n ∙ sym z) ∙ ap (band_at w) (sym z)

-- the words of band i, by the entry that it is
module _ (s w : List ℕ) (c : CutWords s w) (i : ℕ) (first_fits : cell w (band_first_at + i) < length (atoms (cuts (ranges_read s))))
    (last_Fits : cell w (band_last_at + i) < length (atoms (cuts (ranges_read s)))) where
  abbrev cs : List ℕ
  cs = cuts (ranges_read s)

  abbrev e : Entry
  e = entry_of (ranges_read s) cs (band_at w i)

  abbrev last : ℕ
  last = cell w (band_last_at + i)

  -- the high end is a cut, which belongs to the band if the last piece is a point
  high_end : (m : ℕ) → last % 2 ≡ m → m < 2 → (cut_at cs (last / 2 + m) ≡ e.to) × (1 - m ≡ one_if e.inclusive)
  high_end zero h l =
      (rw add-zero (band-high-point (ranges_read s) cs (band_at w i) h), ap one_if (rw h at (band-closed (ranges_read s) cs (band_at w i))))
  high_end (suc zero) h l =
      (band-high-gap (ranges_read s) cs (band_at w i) (λ z. omega arith), ap one_if (rw h at (band-closed (ranges_read s) cs (band_at w i))))
  high_end (suc (suc m)) h l = absurd (omega arith)

  range-words-at : (default : ℕ) → band_target_in w i ≡ (range_row (laid_out s) default e).target
      → range_words (range_row (laid_out s) default e) ≡ range_words_in w i
  unfolding range_words range_words_in range_row low_word high_word
  range-words-at default t =
      let j = cell w (band_first_at + i) / 2 in
      let k = last / 2 + last % 2 in
      let j-fits : j < length cs = omega (arith, atoms-count cs) in
      let k-fits : k < length cs = omega (arith, atoms-count cs) in
      let low = band-low (ranges_read s) cs (band_at w i) in
      let high = high_end (last % 2) refl (omega arith) in
      rw (
        c.lows j j-fits ∙ ap low_word low,
        c.highs j j-fits ∙ ap high_word low,
        c.lows k k-fits ∙ ap low_word high.0,
        c.highs k k-fits ∙ ap high_word high.0,
        high.1,
        t,
      )

-- ---- the tables

module _ {s w : List ℕ} (D : Ready s) (T : Tables s w) (P : Placed s w) where
  abbrev fallback : ℕ
  fallback = code.fallback_at (default_block s) (laid_out s).splits (laid_out s)

  abbrev default : ℕ
  default = code.default_at (default_block s) (laid_out s)

  bands-all : length (entries s) ≡ cell w bands_at
  bands-all =
      sym (ap length T.bands)
      ∙ length-map (bands_in w (cell w bands_at)) (entry_of (ranges_of s) (cuts (ranges_of s)))
      ∙ bands-length w (cell w bands_at)

  pub switches-are : tables_of (case_count s) (cell w fallback_at) (cell w bands_at) (cell w default_at) ≡ (lower s).switches
  unfolding switch switch_of
  switches-are =
      rw (← nodes.cases-count s, ← bands-all, fallback-at P, default-at P, tables-are)
      (sym (ap (λ r. r.switches) (lower_switch s (eq-eqb (kind s 0) switch_kind D.switch))
      ∙ ap (λ es. case_table fallback (cases_of s) ∷ range_table default es)
      (splits-are s (expression max_depth s))))

  -- the rows of cases, with the pools p before their constants
  module _ (p : Pools) (consts : (i : ℕ) → i < case_count s
      → cell w (case_const_at + i) ≡ const_at s (const_of s (child (skip s i (first_case s)))) (case_pools s (take i (cases_of s)) p)) where
    case-words-at : (i : ℕ) → i < case_count s
        → case_words (case_row s (laid_out s) fallback (skip s i (first_case s)) (case_pools s (take i (cases_of s)) p)) ≡ case_words_in w i
    unfolding case_words case_words_in case_row case_lists
    case-words-at i h =
        let l = case_blocks s (skip s i (first_case s)) in
        let goes = goes-to P l (case_number_at + i) fallback_at _ (blocks.case-lists s D.right D.numbers D.switch) P.case_chains
        (case-below s i h) (T.case_numbers i h) P.fallback_is in
        rw (
          goes
              ∙ sym (case-target-by s (entries s) l (case-below s i h))
              ∙ sym (layout-case s (expression max_depth s) (tally max_depth s) (tally-counts max_depth s) l),
          consts i h,
        )

    pub case-section : (lower s).cases ≡ case_rows s (laid_out s) fallback (cases_of s) p
        → section case_words (lower s).cases ≡ rows_to (case_words_in w) (case_count s)
    case-section e =
        let d = case_row s (laid_out s) fallback 0 p in
        ap (section case_words) e
        ∙ section-by case_words (case_words_in w) (case_rows s (laid_out s) fallback (cases_of s) p) d (case_count s)
        (case-rows-length s (laid_out s) fallback (cases_of s) p ∙ nodes.cases-count s)
        (λ i h.
        ap case_words
        (case-row s (laid_out s) fallback d (cases_of s) p i (omega (arith, nodes.cases-count s))
        ∙ ap (λ (c : ℕ). case_row s (laid_out s) fallback c (case_pools s (take i (cases_of s)) p)) (case_at s i h))
        ∙ case-words-at i h)

  -- the rows of ranges
  abbrev no_band : Band
  no_band = record { first = 0; last = 0 }

  abbrev none : Entry
  none = entry_of (ranges_of s) (cuts (ranges_of s)) no_band

  -- entry i is band i
  entry_at : (i : ℕ) → i < cell w bands_at → get_or (entries s) i none ≡ entry_of (ranges_read s) (cuts (ranges_read s)) (band_at w i)
  entry_at i h =
      let f = entry_of (ranges_of s) (cuts (ranges_of s)) in
      sym (ap (λ (es : List Entry). get_or es i none) T.bands)
      ∙ get_or-map f (bands_in w (cell w bands_at)) i no_band
      ∙ ap f (bands-at w no_band (cell w bands_at) i h)
      ∙ sym (ap (λ rs. entry_of rs (cuts rs) (band_at w i)) (ranges-whole s D.accepted D.switch))

  target-at : (i : ℕ) → i < cell w bands_at
      → band_target_in w i ≡ (range_row (laid_out s) default (entry_of (ranges_read s) (cuts (ranges_read s)) (band_at w i))).target
  unfolding split_lists range_row
  target-at i h =
      let e = entry_of (ranges_read s) (cuts (ranges_read s)) (band_at w i) in
      let g : i < length (entries s) = omega (arith, bands-all) in
      let few = entry-below (entries s) i g in
      goes-to P _ (band_number_at + i) default_at _ (blocks.range-lists s D.right D.numbers D.switch) P.band_chains few
      (T.band_numbers i h) P.default_is
      ∙ sym (range-target-by s (entries s) _ few)
      ∙ ap (range_target s (tally max_depth s) (entries s))
      (mapped_at (λ (x : Entry). x.blocks) (entries s) i [] none g ∙ ap (λ (x : Entry). x.blocks) (entry_at i h))
      ∙ sym (layout-range s (expression max_depth s) (tally max_depth s) (tally-counts max_depth s) e.blocks)

  pub range-section : section range_words (lower s).ranges ≡ rows_to (range_words_in w) (cell w bands_at)
  unfolding switch switch_of
  range-section =
      let row = range_row (laid_out s) default in
      ap (λ r. section range_words r.ranges) (lower_switch s (eq-eqb (kind s 0) switch_kind D.switch))
      ∙ ap (λ es. section range_words (range_rows (laid_out s) default es)) (splits-are s (expression max_depth s))
      ∙ range-section-by (laid_out s) default (entries s)
      ∙ section-by (λ e. range_words (row e)) (range_words_in w) (entries s) none (cell w bands_at) bands-all
      (λ i h.
      ap (λ e. range_words (row e)) (entry_at i h)
      ∙ range-words-at s w T.cut_words i (T.firsts i h) (T.lasts i h) default (target-at i h))

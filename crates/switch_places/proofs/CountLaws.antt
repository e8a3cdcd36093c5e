-- What the passes of the count leave, put together: the total, and the places of the parts.
use Prim.Native.Nat.{ℕ, zero, suc, ◌+◌, ◌-◌, ◌<◌, ◌≤◌, min}
use mathlib.Core.Path.{◌≡◌, sym, ap, ◌∙◌}
use mathlib.Core.Bool.{Bool, false, and-eq-true_iff, or_assoc}
use mathlib.Core.List.{List, ◌++◌}
use native.Mathlib.Omega.{arith}
use lib.Dec.{eqb}
use lib.ListN.{length, length-map}
use lib.Seq.{get_or-set_same}
use borrow.Author.Tests.{leb-true, eq-eqb}
use Rattle.switch_tables.proofs.BandsLaws.{bands-length}
use Rattle.checks.proofs.AcceptedLaws.{accepted-sizes, accepted-shape, accepted-numbers}
use Rattle.words.proofs.CountLaws.{all-at}
use Rattle.sheet.specs.Limits.{max_entries}
use Rattle.sheet.specs.Sections.{node_count}
use Rattle.sheet.specs.Node.{kind}
use Rattle.check_numbers.specs.Numbers.{exist, number_by, number_ok, node_numbers_by, numbers_by}
use Rattle.checks.specs.Checked.{verdict_number, checked}
use Rattle.switch_split.specs.Points.{cuts}
use Rattle.switch_split.specs.Split as Split
use Rattle.lowering.specs.Kinds.{switch_kind}
use Rattle.lowering.specs.Limits.{max_emitted}
use Rattle.lowering.proofs.NodesLaws.{right}
use Rattle.lowering.specs.SwitchSheet.{block_count, default_block, subject, ranges_of}
use Rattle.expr_count.specs.declared.tallies.Tally.{Tally}
use Rattle.expr_count.specs.Limits.{cap}
use Rattle.expr_count.specs.Tally.{instructions, plus, capped}
use Rattle.expr_count.proofs.TallyLaws.{plus_assoc, capped_left, back-capped}
use Rattle.expr_count.specs.Count.{Rec}
use Rattle.switch_count.specs.Arms.{any_wants, arms_tally}
use Rattle.switch_count.proofs.ArmsAdd.{any_append}
use Rattle.switch_count.specs.Bodies.{bodies_tally}
use Rattle.switch_count.specs.Total.{case_lists, split_lists, bodies_of, switch_tally}
use Rattle.switch_count.specs.Place.{cases_place, dispatch_place, bodies_place, body_from, body_place, default_place}
use Rattle.switch_tables.specs.Columns.{size, bands_at, band_place_at, band_exit_at, wanted_at, case_place_at, case_exit_at, body_at, dispatch_at}
use Rattle.switch_tables.specs.Columns.{default_at}
use Rattle.switch_tables.specs.Columns.{case_const_at, cell, Within}
use Rattle.switch_tables.specs.Bands.{bands_in, entry_of}
use Rattle.switch_tables.specs.Table.{GuardsBy}
use Rattle.switch_tables.specs.Planned.{TablesBy, PlacedBy, entries, want_in, wanted_by}
use Rattle.switch_tables.proofs.ColumnLaws.{within-put}
use Rattle.switch_places.specs.Counted.{Counted}
use Rattle.switch_places.specs.Finished.{if_none, default_in, last_ones, Finished}
use Rattle.switch_places.specs.Idle.{idles_from, Exits, second_at, Second}
use Rattle.switch_places.specs.Laid.{Laid, BodiesLaid}
use Rattle.switch_places.proofs.KeptLaws.{tables-kept, case_count, band-count}
use Rattle.switch_places.proofs.SumLaws.{some_band, second-least, second-len, one-band, back-plus, second_back, cases-back}
use Rattle.switch_places.proofs.SumLaws.{ranges-are}
use Rattle.switch_places.proofs.SumLaws.{default-back}
use Rattle.switch_places.proofs.SumLaws.{take-most, second-place, from-most, default-most, end-by, fall-by}

entry-count : {s w : List ℕ} {tal : Rec} → TablesBy s tal w → cell w bands_at ≡ length (entries s)
entry-count {s} {w} t =
    sym (bands-length w (cell w bands_at))
    ∙ sym (length-map (bands_in w (cell w bands_at)) (entry_of (ranges_of s) (cuts (ranges_of s))))
    ∙ ap length t.bands

-- the default of an accepted switch is one of its blocks
pub default-in : (s : List ℕ) → verdict_number (checked s) ≡ 0 → kind s 0 ≡ switch_kind → default_block s ≤ block_count s
unfolding numbers_by node_numbers_by number_by exist
default-in s ok k =
    let all = simp and-eq-true_iff at (accepted-numbers s ok) in
    let few = (right s (accepted-sizes s ok) (accepted-shape s ok)).some in
    let root = simp and-eq-true_iff at (all-at (number_ok s) (node_count s) 0 all.0 (omega (arith, few))) in
    leb-true (default_block s) (block_count s) (rw (eq-eqb (kind s 0) 19 k) at root.0.0.1)

-- ---- no sum is over the cap

len_is : {a b : Tally} → a ≡ b → a.len ≡ b.len
len_is e = ap (λ (x : Tally). x.len) e

pub most : {a : Tally} (b : Tally) → a ≡ capped b → (a.len ≤ cap) × (a.emitted ≤ cap)
unfolding capped
most b e = rw e (omega arith, omega arith)

pub second-most : {n : ℕ} {i : Bool} {b r : Tally} {w v : List ℕ} → Second n i b w v r → (b.len ≤ cap) × (b.emitted ≤ cap)
    → (r.len ≤ cap) × (r.emitted ≤ cap)
unfolding if_none
second-most {n = zero} p h = rw p.sum h
second-most {n = suc n} p h = most _ p.sum

-- ---- what each pass is given

-- the subject and the Switch, as the code adds them
pub head_of : (tal : Rec) {j : ℕ} {sub one head : Tally} → j ≡ subject → sub ≡ capped (tal j) → one ≡ instructions 1
    → head ≡ capped (plus sub one) → head ≡ capped (plus (capped (tal subject)) (instructions 1))
head_of tal e p q h = rw (h, p, q, e)

pub exits_of : {s w v : List ℕ} {tal : Rec} {b r : Tally} → TablesBy s tal v → Laid s tal (case_lists s) case_place_at case_exit_at b w v r
    → Exits s v (case_lists s)
exits_of t p = record { count = sym (case_count t); few = omega (arith, case_count t, t.few_heads); exit = p.exits }

pub second-in : {n : ℕ} {i : Bool} {b r : Tally} {w v : List ℕ} → Second n i b w v r → Within dispatch_at default_at w v
second-in {n} {i} {b} {r} {w} p =
    rw p.put (within-put dispatch_at default_at w dispatch_at (second_at n i b.len) (omega arith) (omega arith))

pub second-by : {s w v : List ℕ} {tal : Rec} {i : Bool} {b r : Tally} → TablesBy s tal w → Second (cell w bands_at) i b w v r
    → Second (length (entries s)) i b w v r
second-by t p = rw (← entry-count t) p

-- the blocks that are wanted: by the default, by the cases, and by the bands
pub wanted-by : {tal : Rec} {s w₁ w₂ w₃ w₄ : List ℕ} {n def a b c d : ℕ} {ls ms : List (List ℕ)} {h i j k : Tally} → n ≡ block_count s
    → n ≤ max_entries
    → def ≡ default_block s → ((m : ℕ) → m < n → want_in w₁ m ≡ eqb def (suc m)) → Laid s tal ls a b h w₁ w₂ i
    → Within dispatch_at default_at w₂ w₃
    → Laid s tal ms c d j w₃ w₄ k → (m : ℕ) → m < block_count s → want_in w₄ m ≡ wanted_by s (default_block s) (ls ++ ms) m
wanted-by {s = s} {ls = ls} {ms = ms} e few d-is one p in₃ q m l =
    q.wanted m l
    ∙ rw (in₃.low (wanted_at + m) (omega (arith, e)), p.wanted m l, one m (omega (arith, e)), d-is, any_append)
    (or_assoc (eqb (default_block s) (suc m)) (any_wants s m ls) (any_wants s m ms))

-- all blocks are read
pub bodies-of : {tal : Rec} {s w v : List ℕ} {n d : ℕ} {ls : List (List ℕ)} {b r : Tally} {P : Type 0} → n ≡ block_count s → TablesBy s tal w
    → (GuardsBy s tal w n → ((j : ℕ) → j < n → want_in w j ≡ wanted_by s d ls j) → BodiesLaid s tal ls d n b v r × P)
    → ((j : ℕ) → j < block_count s → want_in w j ≡ wanted_by s d ls j) → BodiesLaid s tal ls d (block_count s) b v r × P
bodies-of e t f g = rw (← e) (f (rw e t.guards) (λ j l. g j (omega (arith, e))))

-- what the passes leave in turn: w₁ the want of the default, w₂ the chains of the cases, w₃ the second Switch, w₄ the chains of the bands,
-- w₅ the bodies, w₆ the end
module _ {s w₁ w₂ w₃ w₄ w₅ w₆ : List ℕ} {t : Rec} {head cases switched bands all : Tally} {def : ℕ} (few : default_block s ≤ block_count s)
    (d-is : def ≡ default_block s) (head-sum : head ≡ capped (plus (capped (t subject)) (instructions 1)))
    (chains₂ : Laid s t (case_lists s) case_place_at case_exit_at head w₁ w₂ cases)
    (second : Second (length (entries s)) (idles_from s false (case_lists s)) cases w₂ w₃ switched)
    (long : length w₂ ≡ size)
    (chains₄ : Laid s t (split_lists (entries s)) band_place_at band_exit_at switched w₃ w₄ bands × Within band_place_at case_place_at w₃ w₄)
    (wanted₄ : (k : ℕ) → k < block_count s → want_in w₄ k ≡ wanted_by s (default_block s) (case_lists s ++ split_lists (entries s)) k)
    (bodies₅ : BodiesLaid s t (case_lists s ++ split_lists (entries s)) (default_block s) (block_count s) bands w₅ all
    × Within body_at dispatch_at w₄ w₅)
    (tables₅ : TablesBy s t w₅) (end-in : Within default_at case_const_at w₅ w₆)
    (finished : all.len < cap → bands.len ≤ cap → Finished w₅ w₆ def bands.len all.len) where
  abbrev es : List Split.Entry
  es = entries s

  abbrev drops : Bool
  drops = idles_from s false (case_lists s)

  -- ---- which cells stay

  -- from the bands' chains on
  after-bands : (i : ℕ) → i < body_at → cell w₆ i ≡ cell w₄ i
  after-bands i h = end-in.low i (omega arith) ∙ bodies₅.1.low i h

  after-cases : (i : ℕ) → case_place_at ≤ i → i < body_at → cell w₆ i ≡ cell w₂ i
  after-cases i l h = after-bands i h ∙ chains₄.1.high i l ∙ (second-in second).low i (omega arith)

  -- ---- a switch that fits

  module _ (fit : (switch_tally s t es).len ≤ max_emitted) where
    ends-fit : bodies_place s t es + (bodies_tally s t (bodies_of s es)).len + 1 ≤ max_emitted
    unfolding switch_tally plus instructions bodies_place dispatch_place cases_place
    ends-fit = omega (arith, fit, default-most s t (default_block s) (bodies_of s es))

    bodies-by : bodies_place s t es ≡ dispatch_place s t es + some_band (length es) + (arms_tally s t (split_lists es)).len
    unfolding bodies_place plus instructions
    bodies-by = omega (arith, len_is (ranges-are s t es))

    chains-fit : cases_place s t + (arms_tally s t (case_lists s)).len ≤ max_emitted + 1
    unfolding dispatch_place
    chains-fit =
        let n = cases_place s t + (arms_tally s t (case_lists s)).len in
        omega (arith, second-least (length es) drops n, second-place s t es (cases_place s t), bodies-by, ends-fit)

    head-is : head.len ≡ cases_place s t
    unfolding capped plus instructions cases_place
    head-is = omega (arith, len_is head-sum, chains-fit)

    cases-is : cases.len ≡ cases_place s t + (arms_tally s t (case_lists s)).len
    unfolding capped plus
    cases-is = omega (arith, len_is chains₂.sum, head-is, chains-fit)

    at-is : second_at (length es) drops cases.len ≡ dispatch_place s t es
    unfolding dispatch_place
    at-is = ap (second_at (length es) drops) cases-is ∙ second-place s t es (cases_place s t)

    switched-is : switched.len ≡ dispatch_place s t es + some_band (length es)
    switched-is = omega (arith, len_is second.sum, second-len (length es) drops cases (omega (arith, cases-is, chains-fit)), at-is)

    bands-is : bands.len ≡ bodies_place s t es
    unfolding capped plus
    bands-is = omega (arith, len_is chains₄.0.sum, switched-is, bodies-by, ends-fit)

    all-is : all.len ≡ bodies_place s t es + (bodies_tally s t (bodies_of s es)).len
    unfolding capped plus bodies_of
    all-is = omega (arith, len_is bodies₅.0.sum, bands-is, ends-fit)

    dispatch₅ : cell w₅ dispatch_at ≡ dispatch_place s t es
    dispatch₅ =
        bodies₅.1.high dispatch_at (omega arith)
        ∙ chains₄.1.high dispatch_at (omega arith)
        ∙ ap (λ w. cell w dispatch_at) second.put
        ∙ get_or-set_same w₂ dispatch_at (second_at (length es) drops cases.len) 0 (omega (arith, long))
        ∙ at-is

    body-at : (k : ℕ) → k < block_count s → cell w₅ (body_at + k) ≡ body_place s t es k
    unfolding body_place bodies_of
    body-at k h =
        bodies₅.0.places k h
        ∙ ap (λ b. min (body_from s t k b (bodies_of s es)) cap) bands-is
        ∙ omega (arith, from-most s t k (bodies_place s t es) (bodies_of s es), ends-fit)

    default-by : (d : ℕ) → d ≤ block_count s → default_in w₅ d all.len ≡ default_place s t es d
    unfolding if_none default_place
    default-by zero h = all-is
    default-by (suc k) h = let at : body_at + suc k - 1 ≡ body_at + k = omega arith in ap (cell w₅) at ∙ body-at k (omega arith)

    end_of : Finished w₅ w₆ (default_block s) bands.len all.len
    end_of = rw (← d-is) (finished (omega (arith, all-is, ends-fit)) (omega (arith, bands-is, ends-fit)))

    placed : PlacedBy s t w₆
    placed = record {
      wanted = λ k h. ap (λ x. eqb x 1) (after-bands (wanted_at + k) (omega (arith, tables₅.few_blocks))) ∙ wanted₄ k h;
      bodies = λ k h. end-in.low (body_at + k) (omega (arith, tables₅.few_blocks)) ∙ body-at k h;
      case_chains = record {
        places = λ q h.
            after-cases (case_place_at + q) (omega arith) (omega (arith, case_count tables₅, tables₅.few_heads))
            ∙ chains₂.places q h
            ∙ omega (arith, head-is, take-most s t q (case_lists s), chains-fit);
        exits = λ q h.
            after-cases (case_exit_at + q) (omega arith) (omega (arith, case_count tables₅, tables₅.few_heads)) ∙ chains₂.exits q h;
      };
      band_chains = record {
        places = λ q h.
            after-bands (band_place_at + q) (omega (arith, band-count tables₅, tables₅.few_band_heads))
            ∙ chains₄.0.places q h
            ∙ omega (arith, switched-is, one-band es q h, take-most s t q (split_lists es), bodies-by, ends-fit);
        exits = λ q h. after-bands (band_exit_at + q) (omega (arith, band-count tables₅, tables₅.few_band_heads)) ∙ chains₄.0.exits q h;
      };
      dispatch_is = end-in.low dispatch_at (omega arith) ∙ dispatch₅;
      default_is = end_of.default_is ∙ default-by (default_block s) few;
      end_is = end_of.end_is ∙ rw (bands-is, all-is) (end-by s t es (default_block s));
      fallback_is =
          end_of.fallback_is ∙ rw (entry-count tables₅, default-by (default_block s) few, dispatch₅) (fall-by s t es (default_block s));
    }

  pub counted : {r last : Tally} {c : ℕ} → c ≡ last_ones def → last ≡ instructions c → r ≡ capped (plus all last) → Counted s t w₆ r
  unfolding switch_tally bodies_of
  counted {r} e q h = record {
    total =
        rw (h, q, e, d-is, bodies₅.0.sum, chains₄.0.sum, second.sum, chains₂.sum, head-sum)
        (simp (back-capped, back-plus, capped_left, second_back, plus_assoc, cases-back, ranges-are, default-back));
    tables = tables-kept tables₅ end-in (omega arith);
    placed = placed;
  }

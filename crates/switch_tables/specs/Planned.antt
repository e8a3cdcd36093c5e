-- What the table has of an accepted switch, in the words of the definition of the lowering: what is read, and where its parts stand.
use Rattle.std.specs.Prelude.{ℕ, suc, ◌+◌, ◌<◌, ◌≤◌, ◌≡◌, Bool, true, false, ◌||◌, List, [], ◌++◌, map, eqb, length, get_or, take}
use Rattle.sheet.specs.Limits.{max_depth, max_entries}
use Rattle.sheet.specs.Walk.{skip}
use Rattle.check_switches.specs.Switch.{case_count, first_case}
use Rattle.switch_split.specs.Points.{cuts}
use Rattle.switch_split.specs.Split.{split, atoms}
use Rattle.switch_split.specs.Split as Split
use Rattle.lowering.specs.Limits.{max_bands}
use Rattle.lowering.specs.SwitchSheet.{block_count, default_block, case_blocks, ranges_of}
use Rattle.lowering.specs.Arms.{End, taken, declined, idle}
use Rattle.expr_count.specs.Count.{Rec, tally}
use Rattle.switch_count.specs.Arms.{any_wants, arms_tally, end_of, has_try}
use Rattle.switch_count.specs.Total.{case_lists, split_lists}
use Rattle.switch_count.specs.Place.{cases_place, dispatch_place, body_place, default_place, end_place, fallback_place}
use Rattle.switch_tables.specs.Columns.{case_heads_at, case_number_at, spans_at, bands_at, band_first_at, band_last_at, band_heads_at}
use Rattle.switch_tables.specs.Columns.{band_number_at}
use Rattle.switch_tables.specs.Columns.{band_place_at, band_exit_at, wanted_at, case_place_at, case_exit_at, body_at, dispatch_at, default_at}
use Rattle.switch_tables.specs.Columns.{end_at}
use Rattle.switch_tables.specs.Columns.{fallback_at, cell}
use Rattle.switch_tables.specs.Numbers.{number_in}
use Rattle.switch_tables.specs.Bands.{bands_in, entry_of}
use Rattle.switch_tables.specs.Table.{GuardsBy, CutWords, ranges_read, head_keys, band_head_keys}

-- the entries of the split
abbrev pub entries : List ℕ → List Split.Entry
entries s = split (ranges_of s)

-- what is read of an accepted switch, where t is the tally of a node
pub record TablesBy (s : List ℕ) (t : Rec) (w : List ℕ) : Type 0 where
  pub few_blocks : block_count s ≤ max_entries
  pub few_cases : case_count s ≤ max_entries
  pub guards : GuardsBy s t w (block_count s)
  pub few_heads : cell w case_heads_at ≤ max_entries
  pub case_heads : head_keys s w ≡ case_lists s
  pub case_numbers : (i : ℕ) → i < case_count s → cell w (case_number_at + i) ≡ number_in (case_blocks s (skip s i (first_case s))) (case_lists s)
  pub few_spans : cell w spans_at ≤ max_entries
  pub cut_words : CutWords s w
  pub few_bands : cell w bands_at ≤ max_bands
  pub bands : map (entry_of (ranges_of s) (cuts (ranges_of s))) (bands_in w (cell w bands_at)) ≡ entries s
  pub few_band_heads : cell w band_heads_at ≤ max_bands
  pub band_heads : band_head_keys w ≡ split_lists (entries s)
  pub band_numbers : (i : ℕ) → i < cell w bands_at
      → cell w (band_number_at + i) ≡ number_in (get_or (map (λ (e : Split.Entry). e.blocks) (entries s)) i []) (split_lists (entries s))
  pub firsts : (i : ℕ) → i < cell w bands_at → cell w (band_first_at + i) < length (atoms (cuts (ranges_read s)))
  pub lasts : (i : ℕ) → i < cell w bands_at → cell w (band_last_at + i) < length (atoms (cuts (ranges_read s)))

abbrev pub Tables : List ℕ → List ℕ → Type 0
Tables s w = TablesBy s (tally max_depth s) w

-- where a list goes: to its chain, which ends with a jump to the fallback (0) or to a body (1); without one to the fallback (2), or to
-- the body of a block (plus 3)
unfoldable pub exit_by : Bool → End → ℕ
exit_by true (taken k) = 1
exit_by true declined = 0
exit_by true idle = 0
exit_by false (taken k) = k + 3
exit_by false declined = 2
exit_by false idle = 2

abbrev pub exit_of : List ℕ → List ℕ → ℕ
exit_of s l = exit_by (has_try s l) (end_of s l)

-- where the chain of number q of the lists ls stands, from place b on
abbrev pub chain_place : List ℕ → Rec → List (List ℕ) → ℕ → ℕ → ℕ
chain_place s t ls b q = b + (arms_tally s t (take q ls)).len

-- block k has a body
abbrev pub want_in : List ℕ → ℕ → Bool
want_in w k = eqb (cell w (wanted_at + k)) 1

-- the blocks that are wanted, by lists ls and by the default (plus 1)
abbrev pub wanted_by : List ℕ → ℕ → List (List ℕ) → ℕ → Bool
wanted_by s def ls k = eqb def (suc k) || any_wants s k ls

-- the chains of the lists ls: places from b on in the column `at`, exits in the column `out`
pub record Chained (s : List ℕ) (t : Rec) (w : List ℕ) (ls : List (List ℕ)) (b at out : ℕ) : Type 0 where
  pub places : (q : ℕ) → q < length ls → cell w (at + q) ≡ chain_place s t ls b q
  pub exits : (q : ℕ) → q < length ls → cell w (out + q) ≡ exit_of s (get_or ls q [])

-- where the parts of the switch stand
pub record PlacedBy (s : List ℕ) (t : Rec) (w : List ℕ) : Type 0 where
  pub wanted : (k : ℕ) → k < block_count s → want_in w k ≡ wanted_by s (default_block s) (case_lists s ++ split_lists (entries s)) k
  pub bodies : (k : ℕ) → k < block_count s → cell w (body_at + k) ≡ body_place s t (entries s) k
  pub case_chains : Chained s t w (case_lists s) (cases_place s t) case_place_at case_exit_at
  pub band_chains : Chained s t w (split_lists (entries s)) (dispatch_place s t (entries s) + 1) band_place_at band_exit_at
  pub dispatch_is : cell w dispatch_at ≡ dispatch_place s t (entries s)
  pub default_is : cell w default_at ≡ default_place s t (entries s) (default_block s)
  pub end_is : cell w end_at ≡ end_place s t (entries s) (default_block s)
  pub fallback_is : cell w fallback_at ≡ fallback_place s t (entries s) (default_block s)

abbrev pub Placed : List ℕ → List ℕ → Type 0
Placed s w = PlacedBy s (tally max_depth s) w

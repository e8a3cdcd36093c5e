-- The heads of the cases: the loop over them, with its invariant `CaseFill`.
use Prim.Native.Nat.{ℕ, ◌+◌, ◌≤◌, ◌<◌, min}
use mathlib.Core.Path.{◌≡◌, refl, sym, ◌∙◌, ap}
use mathlib.Core.List.{List, []}
use native.Mathlib.Omega.{arith}
use lib.ListN.{length, get_or, set, take, length-map}
use Rattle.sheet.specs.Limits.{max_entries}
use Rattle.sheet.specs.Node.{next}
use Rattle.sheet.specs.Walk.{skip}
use Rattle.sheet.proofs.WalkLaws.{skip-next}
use Rattle.check_switches.specs.Switch.{case_count, first_case}
use Rattle.lowering.specs.SwitchSheet.{cases_of, nodes_from}
use Rattle.switch_tables.specs.Columns.{size, case_heads_at, case_number_at, head_node_at, head_hash_at, spans_at, Within}
use Rattle.switch_tables.specs.Heads.{case_key}
use Rattle.switch_tables.specs.Table.{case_keys, CaseHeads}
use Rattle.switch_tables.proofs.NodesLaws.{nodes-length, nodes-take, nodes-at, cases-are}
use Rattle.switch_heads.specs.Hashed.{Hashed, Numbered}
use Rattle.switch_heads.proofs.NumbersLaws.{mapped_at}
use Rattle.switch_heads.proofs.FillLaws.{Places, Fill, fill_start, fill-step, fill_end}

abbrev case_places : Places
case_places = record {
  counts = case_heads_at;
  numbers = case_number_at;
  at = head_node_at;
  hashes = head_hash_at;
  cap = max_entries;
  first = omega arith;
  second = omega arith;
  third = omega arith;
  inside = omega arith;
}

-- ---- the lists of the cases by number

module _ (s : List ℕ) where
  read-are : take max_entries (cases_of s) ≡ nodes_from s (min (case_count s) max_entries) (first_case s)
  read-are = ap (take max_entries) (cases-are s) ∙ nodes-take s max_entries (case_count s) (first_case s)

  read_length : length (take max_entries (cases_of s)) ≡ min (case_count s) max_entries
  read_length = ap length read-are ∙ nodes-length s (min (case_count s) max_entries) (first_case s)

  keys_length : length (case_keys s) ≡ min (case_count s) max_entries
  keys_length = length-map (take max_entries (cases_of s)) (case_key s) ∙ read_length

  keys-at : (i : ℕ) → i < min (case_count s) max_entries → get_or (case_keys s) i [] ≡ case_key s (skip s i (first_case s))
  keys-at i h =
      mapped_at (case_key s) (take max_entries (cases_of s)) i [] 0 (rw read_length h)
      ∙ ap (λ (xs : List ℕ). case_key s (get_or xs i 0)) read-are
      ∙ ap (case_key s) (nodes-at s (min (case_count s) max_entries) (first_case s) i h)

-- ---- the loop: node c is next

-- what the contract asks
pub record Asked (s w : List ℕ) (first : ℕ) : Type 0 where
  pub whole : length w ≡ size
  pub start : first ≡ first_case s

pub record CaseFill (s w : List ℕ) (first n : ℕ) (v : List ℕ) (heads c i : ℕ) : Type 0 where
  pub count : n ≡ min (case_count s) max_entries
  pub node : c ≡ skip s i first
  pub fill : Fill (case_key s) case_places (case_keys s) (Asked s w first) w n v heads i

pub cases-start : (s w : List ℕ) (first n m : ℕ) → m ≡ case_count s → n ≡ min m max_entries
    → CaseFill s w first n w 0 first 0
unfolding skip
cases-start s w first n m e h = record { count = rw (← e) h; node = refl; fill = fill_start n (omega arith) }

module _ (s w : List ℕ) (first n : ℕ) (v : List ℕ) (heads c i : ℕ) (k : CaseFill s w first n v heads c i) where
  all : n ≡ length (case_keys s)
  all = k.count ∙ sym (keys_length s)

  pub cases-step : (u : List ℕ) (most c₁ : ℕ) → i < n → length u ≡ length v → most ≤ heads + 1
      → (Hashed (case_key s) v head_node_at head_hash_at heads
      → Numbered (case_key s) case_number_at head_node_at head_hash_at v heads i c u most)
      → c₁ ≡ next s c → CaseFill s w first n u most c₁ (i + 1)
  cases-step u most c₁ more same few put walk = record {
    count = k.count;
    node = walk ∙ ap (next s) k.node ∙ skip-next s i first;
    fill = fill-step k.fill (λ a. a.whole) (λ a. all) more c
        (λ a. keys-at s i (omega (arith, k.count)) ∙ ap (case_key s) (sym (k.node ∙ ap (skip s i) a.start))) u most same few
        (λ a. put (k.fill.filled a).hashed);
  }

  pub cases_end : n ≤ i → (u : List ℕ) → u ≡ set v case_heads_at heads
      → (first ≡ first_case s → case_count s ≤ max_entries → c ≡ skip s (case_count s) (first_case s))
      × (length w ≡ size → first ≡ first_case s → CaseHeads s u × Within case_heads_at spans_at w u)
  cases_end done u write = (
    λ f l. let e : i ≡ case_count s = omega (arith, k.count, k.fill.within) in k.node ∙ rw (f, e),
    λ whole f.
        let d = fill_end k.fill (λ a. a.whole) (λ a. all) done write (record { whole = whole; start = f }) in (
          record {
            few = d.few;
            heads = d.heads-are;
            numbers = λ j h. d.number_at j (rw (keys_length s) h) ∙ rw (keys-at s j h);
          },
          d.stays,
        ),
  )

-- In a checked sheet with a Switch, every block that a case or a split entry names is one of its blocks, so
-- its guard and its body are nodes.
use Prim.Native.Nat.{ℕ, zero, suc, ◌+◌, ◌*◌, ◌-◌, ◌<◌}
use mathlib.Core.Path.{◌≡◌, sym, ap, ◌∙◌}
use mathlib.Core.Bool.{true}
use mathlib.Core.List.{List, [], ◌∷◌, map}
use native.Mathlib.Omega.{arith}
use lib.ListN.{length, get_or}
use Rattle.lowering.proofs.SwitchChecked.{child-kind, switch-case, switch-range, case-ref, ref-exists, range-exists, number_at, switch-kind}
use Rattle.sheet.specs.Sections.{text_count}
use Rattle.sheet.specs.Node.{kind, count, field_a, field_b, field_c, child, next, namespace_word}
use Rattle.sheet.specs.Walk.{skip}
use Rattle.sheet.proofs.WalkLaws.{skip-add}
use Rattle.check_numbers.specs.Numbers.{numbers_ok}
use Rattle.switch_split.specs.Split.{split}
use Rattle.lowering.specs.All.{All}
use Rattle.lowering.specs.Kinds.{switch_kind}
use Rattle.lowering.specs.SwitchSheet.{block_count, subject, nodes_from, cases_of, range_nodes, case_blocks, range_of, ranges_of}
use Rattle.lowering.specs.Nodes.{Valid, Right}
use Rattle.lowering.proofs.NodesLaws.{children, switch-count, cases-row, ranges-row}
use Rattle.switch_model.specs.Change.{case_lists, range_lists}
use Rattle.switch_model.proofs.SameLaws.{AllIn}
use Rattle.switch_model.proofs.BlockLaws.{distinct-all, AllRanges, split-lists}

-- ---- lists of nodes

module _ (s : List ℕ) (Q : ℕ → Type 0) where
  blocks-all : (n j : ℕ) → ((i : ℕ) → i < n → Q (field_a s (skip s i j))) → All Q (map (λ r. field_a s r) (nodes_from s n j))
  unfolding nodes_from skip
  blocks-all zero j h = tt
  blocks-all (suc n) j h = (h 0 (omega arith), blocks-all n (next s j) (λ i l. h (suc i) (omega arith)))

  cases-all : (n j : ℕ) → ((i : ℕ) → i < n → All Q (case_blocks s (skip s i j))) → AllIn Q (map (case_blocks s) (nodes_from s n j))
  unfolding nodes_from skip
  cases-all zero j h = tt
  cases-all (suc n) j h = (h 0 (omega arith), cases-all n (next s j) (λ i l. h (suc i) (omega arith)))

  ranges-all : (n j : ℕ) → ((i : ℕ) → i < n → Q (field_b s (skip s i j))) → AllRanges Q (map (range_of s) (nodes_from s n j))
  unfolding nodes_from skip range_of
  ranges-all zero j h = tt
  ranges-all (suc n) j h = (h 0 (omega arith), ranges-all n (next s j) (λ i l. h (suc i) (omega arith)))

-- ---- the blocks of a checked sheet

module _ (s : List ℕ) (C : Right s) (N : numbers_ok s ≡ true) (e : kind s 0 ≡ switch_kind) where
  -- k is a block
  abbrev pub Block : ℕ → Type 0
  Block k = k < block_count s

  -- a Ref and a Range name a block
  ref-block : (j : ℕ) → Valid s j → kind s j ≡ 22 → Block (field_a s j)
  ref-block j v h = ref-exists (text_count s) (block_count s) (kind s j) (field_a s j) (field_b s j) (field_c s j) (namespace_word s j) h
      (number_at s C N e j v)

  range-block : (j : ℕ) → Valid s j → kind s j ≡ 21 → Block (field_b s j)
  range-block j v h = range-exists (text_count s) (block_count s) (kind s j) (field_a s j) (field_b s j) (field_c s j) (namespace_word s j) h
      (number_at s C N e j v)

  -- the blocks of a Case
  case-blocks : (c : ℕ) → Valid s c → kind s c ≡ 20 → All Block (case_blocks s c)
  unfolding case_blocks skip
  case-blocks c v h = blocks-all s Block (count s c - 1) (next s (child c)) one
    where
      one : (i : ℕ) → i < count s c - 1 → Block (field_a s (skip s (suc i) (child c)))
      one i l =
          let j = skip s (suc i) (child c) in
          let k = child-kind s C c v (suc i) (omega arith) in
          ref-block j ((children s C c v).each (suc i) (omega arith))
          (case-ref (kind s c) (field_a s c) (field_b s c) (suc i) (kind s j) h (omega arith) k)

  pub case-kind : (i : ℕ) → i < field_b s 0 → kind s (skip s i (skip s (1 + 2 * block_count s) subject)) ≡ 20
  case-kind i l =
      let n = 1 + 2 * block_count s in
      let m = switch-count s C e in
      let k = switch-kind s C N e (n + i) (omega arith) in
      ap (kind s) (sym (skip-add s n i subject))
      ∙ switch-case (kind s 0) (block_count s) (field_b s 0) (n + i) (kind s (skip s (n + i) subject)) e (omega arith) (omega arith) k

  range-kind : (i : ℕ) → i < count s 0 - (1 + 2 * block_count s + field_b s 0)
      → kind s (skip s i (skip s (1 + 2 * block_count s + field_b s 0) subject)) ≡ 21
  range-kind i l =
      let n = 1 + 2 * block_count s + field_b s 0 in
      let k = switch-kind s C N e (n + i) (omega arith) in
      ap (kind s) (sym (skip-add s n i subject))
      ∙ switch-range (kind s 0) (block_count s) (field_b s 0) (n + i) (kind s (skip s (n + i) subject)) e (omega arith) k

  -- every list of the cases, and of the split entries, is of blocks
  pub case-lists : AllIn Block (case_lists s)
  unfolding cases_of
  case-lists =
      let j = skip s (1 + 2 * block_count s) subject in
      distinct-all Block (map (case_blocks s) (nodes_from s (field_b s 0) j))
      (cases-all s Block (field_b s 0) j (λ i l. case-blocks (skip s i j) ((cases-row s C e).each i l) (case-kind i l)))

  pub range-lists : AllIn Block (range_lists (split (ranges_of s)))
  unfolding ranges_of range_nodes
  range-lists =
      let before = 1 + 2 * block_count s + field_b s 0 in
      let j = skip s before subject in
      split-lists Block (map (range_of s) (nodes_from s (count s 0 - before) j))
      (ranges-all s Block (count s 0 - before) j (λ i l. range-block (skip s i j) ((ranges-row s C e).each i l) (range-kind i l)))

-- ---- a fact of each, by place

pub all-place : (P : ℕ → Type 0) (ks : List ℕ) → All P ks → (i : ℕ) → i < length ks → P (get_or ks i 0)
all-place P [] h i l = absurd (omega arith)
all-place P (k ∷ ks) h zero l = h.0
all-place P (k ∷ ks) h (suc i) l = all-place P ks h.1 i (omega arith)

pub lists-place : (P : ℕ → Type 0) (ls : List (List ℕ)) → AllIn P ls → (i : ℕ) → i < length ls → All P (get_or ls i [])
lists-place P [] h i l = absurd (omega arith)
lists-place P (k ∷ ls) h zero l = h.0
lists-place P (k ∷ ls) h (suc i) l = lists-place P ls h.1 i (omega arith)

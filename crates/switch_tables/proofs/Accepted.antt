-- An accepted switch has at most 64 blocks, cases, ranges, and Refs in one case: nothing is cut where the code reads the first 64.
use Prim.Native.Nat.{ℕ, zero, suc, ◌-◌, ◌≤◌, ◌<◌}
use mathlib.Core.Path.{◌≡◌, refl, sym, ap, ◌∙◌}
use mathlib.Core.Bool.{Bool, true, false, and-eq-true_iff, true≢false}
use mathlib.Core.List.{List}
use native.Mathlib.Omega.{arith}
use lib.ListN.{length, take, length-map}
use lib.Seq.{take_all}
use borrow.Author.Tests.{leb-true, eq-eqb}
use Rattle.laws.proofs.Bool.{true-unless}
use Rattle.sheet.specs.Limits.{max_entries}
use Rattle.sheet.specs.Node.{kind, count, field_a, child, next}
use Rattle.sheet.specs.Walk.{siblings_by, siblings, skip}
use Rattle.check_switches.specs.Switch.{is_switch_by, is_switch, case_count, range_count, first_case, refs_by, refs_ok, counts_by}
use Rattle.check_switches.specs.Switch.{counts_ok}
use Rattle.check_switches.proofs.SwitchLaws.{entries-many, entries-refs}
use Rattle.checks.specs.Checked.{verdict_number, checked}
use Rattle.checks.proofs.AcceptedLaws.{accepted-entries}
use Rattle.lowering.specs.Kinds.{switch_kind}
use Rattle.lowering.specs.SwitchSheet.{block_count, nodes_from, cases_of, range_nodes, ranges_of, range_of, case_blocks}
use Rattle.switch_tables.proofs.NodesLaws.{nodes-length, cases-are, ranges-are}

-- a test at each of m siblings
module _ (P : ℕ → Bool) (s : List ℕ) where
  passes : (m j : ℕ) → siblings P s (suc m) j ≡ true → (P j ≡ true) × (siblings P s m (next s j) ≡ true)
  unfolding siblings_by
  passes m j h = by (P j) refl
    where
      by : (t : Bool) → P j ≡ t → (P j ≡ true) × (siblings P s m (next s j) ≡ true)
      by true e = (e, rw (e, siblings_by) at h)
      by false e = absurd (true≢false (sym h ∙ rw (e, siblings_by)))

  siblings-at : (m j q : ℕ) → siblings P s m j ≡ true → q < m → P (skip s q j) ≡ true
  unfolding skip
  siblings-at zero j q h l = absurd (omega arith)
  siblings-at (suc m) j zero h l = (passes m j h).0
  siblings-at (suc m) j (suc q) h l = siblings-at m (next s j) q (passes m j h).1 (omega arith)

module _ (s : List ℕ) (h : verdict_number (checked s) ≡ 0) where
  module _ (k : kind s 0 ≡ switch_kind) where
    is-switch : is_switch s ≡ true
    unfolding is_switch_by
    is-switch = eq-eqb (kind s 0) 19 k

    counts : counts_ok s ≡ true
    counts = true-unless (counts_ok s) (λ e. true≢false (sym (accepted-entries s h) ∙ entries-many s is-switch e))

    pub few_blocks : block_count s ≤ max_entries
    unfolding counts_by
    few_blocks = let c = simp and-eq-true_iff at counts in omega (arith, leb-true)

    pub few_cases : case_count s ≤ max_entries
    unfolding counts_by
    few_cases = let c = simp and-eq-true_iff at counts in omega (arith, leb-true)

    few-ranges : range_count s ≤ max_entries
    unfolding counts_by
    few-ranges = let c = simp and-eq-true_iff at counts in omega (arith, leb-true)

    -- Case number i
    few-refs : (i : ℕ) → i < case_count s → count s (skip s i (first_case s)) ≤ 65
    unfolding refs_by
    few-refs i l =
        leb-true (count s (skip s i (first_case s))) 65
        (siblings-at (refs_ok s) s (case_count s) (first_case s) i (sym (entries-refs s is-switch counts) ∙ accepted-entries s h) l)

    -- so nothing is cut
    pub cases_whole : take max_entries (cases_of s) ≡ cases_of s
    cases_whole =
        take_all max_entries (cases_of s) (omega (arith, few_cases, ap length (cases-are s), nodes-length s (case_count s) (first_case s)))

    pub ranges-whole : take max_entries (ranges_of s) ≡ ranges_of s
    unfolding ranges_of
    ranges-whole =
        take_all max_entries (ranges_of s)
        (omega (
          arith,
          few-ranges,
          length-map (range_nodes s) (range_of s),
          ap length (ranges-are s),
          nodes-length s (range_count s) (skip s (case_count s) (first_case s)),
        ))

    pub blocks-whole : (i : ℕ) → i < case_count s
        → take max_entries (case_blocks s (skip s i (first_case s))) ≡ case_blocks s (skip s i (first_case s))
    unfolding case_blocks
    blocks-whole i l =
        let c = skip s i (first_case s) in
        take_all max_entries (case_blocks s c)
        (omega (
          arith,
          few-refs i l,
          length-map (nodes_from s (count s c - 1) (next s (child c))) (λ (r : ℕ). field_a s r),
          nodes-length s (count s c - 1) (next s (child c)),
        ))

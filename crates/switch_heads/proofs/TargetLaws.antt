-- Where a list goes, by the number of its head. Shown: the definition's target of a list is `list_target` at the place of the chain that its
-- number names; the number of a list of the distinct ones is below their count. Assumed: the list is one of the heads.
use Prim.Native.Nat.{ℕ, suc, ◌+◌, ◌<◌}
use mathlib.Core.Path.{◌≡◌, sym, ◌∙◌, ap}
use mathlib.Core.List.{List, [], ◌∷◌, map}
use native.Mathlib.Omega.{arith}
use borrow.Table.Steps.{cases}
use lib.ListN.{length, get_or, length-map}
use Rattle.text.specs.Same.{same}
use Rattle.text.proofs.SameLaws.{same_true}
use Rattle.sheet.specs.Limits.{max_depth}
use Rattle.sheet.specs.Walk.{skip}
use Rattle.check_switches.specs.Switch.{case_count, first_case}
use Rattle.switch_split.specs.Split as Split
use Rattle.expr_count.specs.Tally.{plus, nothing, instructions}
use Rattle.expr_count.specs.Count.{tally}
use Rattle.lowering.specs.SwitchSheet.{default_block, cases_of, case_blocks}
use Rattle.switch_count.specs.Arms.{arm_tally, arms_tally}
use Rattle.switch_count.specs.Total.{case_lists, split_lists}
use Rattle.switch_count.specs.Place.{cases_place, dispatch_place, body_place, default_place, fallback_place}
use Rattle.switch_count.specs.Place.{list_target, target_from, case_target, range_target}
use Rattle.switch_tables.specs.Numbers.{number_in}
use Rattle.switch_tables.specs.Planned.{chain_place}
use Rattle.switch_tables.proofs.NodesLaws.{nodes-length, cases-are}
use Rattle.switch_tables.proofs.Whole.{case_at}
use Rattle.switch_heads.proofs.NumbersLaws.{number-here, number-later, number_at, number-below, mapped_at}

-- ---- the target of a list, by its number

module _ (s : List ℕ) (f : ℕ → ℕ) (fallback : ℕ) (l : List ℕ) where
  target-by : (ms : List (List ℕ)) (b : ℕ) → number_in l ms < length ms
      → target_from s (tally max_depth s) f fallback l b ms ≡ list_target s f fallback (chain_place s (tally max_depth s) ms b (number_in l ms)) l
  unfolding target_from arms_tally nothing instructions plus
  target-by [] b h = absurd (omega arith)
  target-by (m ∷ ms) b h =
      cases (same l m)
      (λ e.
      let place : chain_place s (tally max_depth s) (m ∷ ms) b 0 ≡ b = omega arith in
      rw (number-here l m ms e, place, e, target_from) (ap (list_target s f fallback b) (sym (same_true l m e))))
      (λ e.
      let b' = b + (arm_tally s (tally max_depth s) m).len in
      let place : chain_place s (tally max_depth s) (m ∷ ms) b (suc (number_in l ms)) ≡ chain_place s (tally max_depth s) ms b'
      (number_in l ms) = omega arith in
      rw (number-later l m ms e, place, e, target_from) (target-by ms b' (omega (arith, number-later l m ms e))))

  -- the same with the head in place of the list
  target-of-head : (ms : List (List ℕ)) (b : ℕ) → number_in l ms < length ms
      → target_from s (tally max_depth s) f fallback l b ms
      ≡ list_target s f fallback (chain_place s (tally max_depth s) ms b (number_in l ms)) (get_or ms (number_in l ms) [])
  target-of-head ms b h = rw (number_at l ms h) (target-by ms b h)

-- ---- the rows of both tables

module _ (s : List ℕ) (es : List Split.Entry) (l : List ℕ) where
  pub case-target-by : number_in l (case_lists s) < length (case_lists s)
      → case_target s (tally max_depth s) es l
      ≡ list_target s (body_place s (tally max_depth s) es) (fallback_place s (tally max_depth s) es (default_block s))
      (chain_place s (tally max_depth s) (case_lists s) (cases_place s (tally max_depth s)) (number_in l (case_lists s)))
      (get_or (case_lists s) (number_in l (case_lists s)) [])
  unfolding case_target
  case-target-by h = target-of-head s _ _ l (case_lists s) _ h

  pub range-target-by : number_in l (split_lists es) < length (split_lists es)
      → range_target s (tally max_depth s) es l
      ≡ list_target s (body_place s (tally max_depth s) es) (default_place s (tally max_depth s) es (default_block s))
      (chain_place s (tally max_depth s) (split_lists es) (dispatch_place s (tally max_depth s) es + 1) (number_in l (split_lists es)))
      (get_or (split_lists es) (number_in l (split_lists es)) [])
  unfolding range_target
  range-target-by h = target-of-head s _ _ l (split_lists es) _ h

-- ---- numbers below the count

-- Case i
pub case-below : (s : List ℕ) (i : ℕ) → i < case_count s
    → number_in (case_blocks s (skip s i (first_case s))) (case_lists s) < length (case_lists s)
unfolding case_lists
case-below s i h =
    let l : i < length (cases_of s) = omega (arith, ap length (cases-are s), nodes-length s (case_count s) (first_case s)) in
    let e : get_or (map (case_blocks s) (cases_of s)) i [] ≡ case_blocks s (skip s i (first_case s)) =
    mapped_at (case_blocks s) (cases_of s) i [] 0 l ∙ ap (case_blocks s) (case_at s i h) in
    rw e at (number-below (map (case_blocks s) (cases_of s)) i (omega (arith, length-map (cases_of s) (case_blocks s))))

-- entry i of a split
pub entry-below : (es : List Split.Entry) (i : ℕ) → i < length es
    → number_in (get_or (map (λ (e : Split.Entry). e.blocks) es) i []) (split_lists es) < length (split_lists es)
unfolding split_lists
entry-below es i h =
    number-below (map (λ (e : Split.Entry). e.blocks) es) i (omega (arith, length-map es (λ (e : Split.Entry). e.blocks)))

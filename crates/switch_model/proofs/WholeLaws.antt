-- The whole of a checked sheet's Switch, with places of bodies and wishes that agree with the definition on each block.
use Prim.Native.Nat.{ℕ, ◌<◌}
use mathlib.Core.Path.{◌≡◌, refl, sym, ap, ◌∙◌}
use mathlib.Core.Bool.{Bool, true, false}
use mathlib.Core.List.{List}
use lib.ListN.{get_or}
use Rattle.text.specs.Same.{same}
use Rattle.sheet.specs.Limits.{max_depth}
use Rattle.sheet.specs.Node.{kind}
use Rattle.check_numbers.specs.Numbers.{numbers_ok}
use Rattle.switch_split.specs.Split.{split}
use Rattle.bytecode.specs.declared.Op.TheVariants.{Switch}
use Rattle.lowering.specs.Code.{no_pos}
use Rattle.lowering.specs.Kinds.{switch_kind}
use Rattle.lowering.specs.Nodes.{Right}
use Rattle.lowering.specs.Pools.{emits, first_where}
use Rattle.lowering.specs.Out.{Rec}
use Rattle.lowering.specs.Expression.{expression}
use Rattle.lowering.specs.SwitchSheet.{block_count, default_block, cases_of, ranges_of}
use Rattle.lowering.specs.Bodies.{body_at}
use Rattle.lowering.specs.SwitchLaid.{layout}
use Rattle.lowering.specs.SwitchCode.{default_at, end_at, fallback_at, last_emits, switch_code}
use Rattle.lowering.specs.SwitchTables.{entry_of, target, case_rows}
use Rattle.lowering.specs.Switch.{switch_of, switch}
use Rattle.expr_model.specs.Made.{Made, made, nothing, emit, lowered}
use Rattle.switch_model.specs.Change.{arms_to, any_split, case_lists, range_lists, Targets, subject_to, switch_to, cases_to}
use Rattle.switch_model.proofs.SwitchLaws.{wanted_of, laid_out, switch-is, switch-whole}
use Rattle.switch_model.proofs.SameLaws.{AllIn, agree-lists, arms_same, switch-same}
use Rattle.switch_model.proofs.NodeLaws.{case-lists, range-lists}
use Rattle.switch_model.proofs.TargetLaws.{targets_to, targets-same}
use Rattle.switch_model.proofs.TableLaws.{case-target, range-target}

pub splits-are : (s : List ℕ) (rec : Rec) → (layout s rec).splits ≡ split (ranges_of s)
unfolding layout
splits-are s rec = refl

module _ (s : List ℕ) (C : Right s) (N : numbers_ok s ≡ true) (e : kind s 0 ≡ switch_kind) (f : ℕ → ℕ) (w : ℕ → Bool)
    (F : (k : ℕ) → k < block_count s → f k ≡ body_at k (laid_out s).bodies)
    (W : (k : ℕ) → k < block_count s → w k ≡ wanted_of (default_block s) (laid_out s) k) where
  -- the targets, with f for the bodies
  abbrev pub targets_by : Targets
  targets_by =
      record {
        body = f;
        fallback = fallback_at (default_block s) (laid_out s).splits (laid_out s);
        default = default_at (default_block s) (laid_out s);
        end = end_at (default_block s) (laid_out s);
      }

  -- the change from nothing
  abbrev pub switch_by : Made
  switch_by = switch_to s (lowered max_depth s) targets_by (laid_out s).splits (default_block s) w nothing

  by-same : switch_by
      ≡ switch_to s (lowered max_depth s)
      (record {
        body = λ k. body_at k (laid_out s).bodies;
        fallback = targets_by.fallback;
        default = targets_by.default;
        end = targets_by.end;
      })
      (laid_out s).splits (default_block s) (wanted_of (default_block s) (laid_out s)) nothing
  unfolding layout
  by-same =
      switch-same s (lowered max_depth s) f (λ k. body_at k (laid_out s).bodies) targets_by.fallback targets_by.default targets_by.end
      (laid_out s).splits (default_block s) w (wanted_of (default_block s) (laid_out s)) nothing
      (case-lists s C N e) (range-lists s C N e) F W

  pub switch-by : switch_by ≡ made (switch_code (default_block s) (laid_out s)) (emits (last_emits (default_block s)) (laid_out s).pools) 1
  switch-by = by-same ∙ switch-is s

  pub whole_by : cases_to s (cases_of s) switch_by
      ≡ made (switch s (expression max_depth s)).code (switch s (expression max_depth s)).pools 1
  whole_by = ap (cases_to s (cases_of s)) by-same ∙ switch-whole s

  -- the tables, with the pools before the constants of the Cases
  pub rows-by : (switch s (expression max_depth s)).cases ≡ case_rows s (laid_out s) targets_by.fallback (cases_of s) switch_by.pools
  unfolding switch switch_of
  rows-by = ap (λ (x : Made). case_rows s (laid_out s) targets_by.fallback (cases_of s) x.pools) (sym switch-by)

  -- the target of a row whose list of blocks is x, by its place among the lists
  abbrev pub at_cases_by : Made
  at_cases_by = subject_to (lowered max_depth s) nothing

  abbrev pub behind_cases_by : Made
  behind_cases_by = arms_to s (lowered max_depth s) f targets_by.fallback (any_split (laid_out s).splits) (case_lists s) at_cases_by

  case-agree : AllIn (λ k. f k ≡ body_at k (laid_out s).bodies) (case_lists s)
  case-agree = agree-lists f (λ k. body_at k (laid_out s).bodies) (block_count s) F (case_lists s) (case-lists s C N e)

  range-agree : AllIn (λ k. f k ≡ body_at k (laid_out s).bodies) (range_lists (laid_out s).splits)
  unfolding layout
  range-agree =
      agree-lists f (λ k. body_at k (laid_out s).bodies) (block_count s) F (range_lists (laid_out s).splits) (range-lists s C N e)

  pub case-target-by : (x : List ℕ)
      → target (laid_out s).bodies targets_by.fallback (entry_of x (laid_out s).case_arms)
      ≡ get_or (targets_to s (lowered max_depth s) f targets_by.fallback (any_split (laid_out s).splits) (case_lists s) at_cases_by)
      (first_where (same x) (case_lists s)) targets_by.fallback
  unfolding lowered
  case-target-by x =
      case-target s (expression max_depth s) (laid_out s).bodies targets_by.fallback targets_by.default x
      ∙ ap (λ (ts : List ℕ). get_or ts (first_where (same x) (case_lists s)) targets_by.fallback)
      (sym (targets-same s (lowered max_depth s) f (λ k. body_at k (laid_out s).bodies) targets_by.fallback
      (any_split (laid_out s).splits) (case_lists s) at_cases_by case-agree))

  pub range-target-by : (x : List ℕ)
      → target (laid_out s).bodies targets_by.default (entry_of x (laid_out s).range_arms)
      ≡ get_or (targets_to s (lowered max_depth s) f targets_by.default false (range_lists (laid_out s).splits)
      (emit (Switch 1) no_pos 0 behind_cases_by))
      (first_where (same x) (range_lists (laid_out s).splits)) targets_by.default
  unfolding lowered
  range-target-by x =
      let g : ℕ → ℕ = λ k. body_at k (laid_out s).bodies in
      let ls = range_lists (laid_out s).splits in
      range-target s (expression max_depth s) (laid_out s).bodies targets_by.fallback targets_by.default x
      ∙ ap (λ (a : Made). get_or (targets_to s (lowered max_depth s) g targets_by.default false ls (emit (Switch 1) no_pos 0 a))
      (first_where (same x) ls) targets_by.default)
      (sym (arms_same s (lowered max_depth s) f g targets_by.fallback (any_split (laid_out s).splits) (case_lists s) at_cases_by case-agree))
      ∙ ap (λ (ts : List ℕ). get_or ts (first_where (same x) ls) targets_by.default)
      (sym (targets-same s (lowered max_depth s) f g targets_by.default false ls (emit (Switch 1) no_pos 0 behind_cases_by) range-agree))

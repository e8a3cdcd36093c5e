-- A Switch lowered with the places of the flat table: they are the targets that the definition takes, and what is made is its program.
use Prim.Native.Nat.{ℕ, suc, ◌<◌}
use mathlib.Core.Path.{◌≡◌, refl, sym, ap, ap₂, ◌∙◌}
use mathlib.Core.Bool.{◌||◌, or_assoc}
use mathlib.Core.List.{List, [], ◌∷◌, ◌++◌}
use lib.Dec.{eqb}
use borrow.Author.Tests.{eq-eqb}
use Rattle.lowering.proofs.LowerFits.{lower_switch}
use Rattle.sheet.specs.Limits.{max_depth}
use Rattle.sheet.specs.Node.{kind}
use Rattle.lowering.specs.Kinds.{switch_kind}
use Rattle.lowering.specs.Expression.{expression}
use Rattle.lowering.specs.SwitchSheet.{block_count, default_block, guard_of, cases_of}
use Rattle.lowering.specs.Arms.{Guard, never, always, tried, guard_kind}
use Rattle.lowering.specs.Bodies as bodies
use Rattle.lowering.specs.SwitchCode as code
use Rattle.lowering.specs.SwitchTables.{case_rows}
use Rattle.lowering.specs.Outcome.{lower}
use Rattle.expr_count.specs.Count.{tally}
use Rattle.expr_count.proofs.CountLaws.{tally-counts}
use Rattle.switch_count.specs.Arms.{wants, any_wants}
use Rattle.switch_count.specs.Total.{case_lists, split_lists}
use Rattle.switch_count.proofs.PlaceLaws.{layout-body, layout-default, layout-end, layout-fallback}
use Rattle.expr_model.specs.Made.{Made, made, nothing, lowered}
use Rattle.switch_model.specs.Change.{range_lists, switch_to, cases_to}
use Rattle.switch_model.specs.Change as Change
use Rattle.switch_model.proofs.SwitchLaws.{wanted_of, laid_out}
use Rattle.switch_model.proofs.WholeLaws.{splits-are, switch_by, whole_by, rows-by}
use Rattle.switch_model.proofs.WantLaws.{list_wants, lists_want, want_is}
use Rattle.switch_tables.specs.Columns.{default_at, end_at, fallback_at, cell}
use Rattle.switch_tables.specs.Planned.{Placed, entries, want_in}
use Rattle.switch_emit.specs.Ready.{Ready}
use Rattle.switch_emit.specs.Parts.{place_in, targets_in}

-- ---- the blocks that are wanted

module _ (s : List ℕ) (k : ℕ) where
  list-wants : (js : List ℕ) → wants s k js ≡ list_wants s k js
  unfolding wants list_wants
  list-wants [] = refl
  list-wants (j ∷ js) = by (guard_kind s (guard_of s j)) refl (list-wants js)
    where
      by : (g : Guard) → guard_kind s (guard_of s j) ≡ g → wants s k js ≡ list_wants s k js → wants s k (j ∷ js) ≡ list_wants s k (j ∷ js)
      by never h e = rw (h, wants, list_wants) e
      by always h e = rw (h, wants, list_wants)
      by tried h e = rw (h, wants, list_wants) (ap (λ t. eqb k j || t) e)

  lists-want : (ls ms : List (List ℕ)) → any_wants s k (ls ++ ms) ≡ (lists_want s k ls || lists_want s k ms)
  unfolding any_wants lists_want
  lists-want [] [] = refl
  lists-want [] (m ∷ ms) = ap₂ ◌||◌ (list-wants m) (lists-want [] ms)
  lists-want (l ∷ ls) ms =
      ap₂ ◌||◌ (list-wants l) (lists-want ls ms) ∙ sym (or_assoc (list_wants s k l) (lists_want s k ls) (lists_want s k ms))

-- ---- the places, as the definition has them

module _ {s w : List ℕ} (P : Placed s w) where
  bodies-at : (k : ℕ) → k < block_count s → place_in w k ≡ bodies.body_at k (laid_out s).bodies
  bodies-at k h = P.bodies k h ∙ sym (layout-body s (expression max_depth s) (tally max_depth s) (tally-counts max_depth s) k)

  wanted-at : (k : ℕ) → k < block_count s → want_in w k ≡ wanted_of (default_block s) (laid_out s) k
  unfolding case_lists split_lists
  wanted-at k h =
      P.wanted k h
      ∙ ap (λ u. eqb (default_block s) (suc k) || u) (lists-want s k (Change.case_lists s) (range_lists (entries s)))
      ∙ ap (λ es. eqb (default_block s) (suc k) || (lists_want s k (Change.case_lists s) || lists_want s k (range_lists es)))
      (sym (splits-are s (expression max_depth s)))
      ∙ sym (want_is s k (expression max_depth s))

  pub fallback-at : cell w fallback_at ≡ code.fallback_at (default_block s) (laid_out s).splits (laid_out s)
  fallback-at =
      P.fallback_is ∙ sym (layout-fallback s (expression max_depth s) (tally max_depth s) (tally-counts max_depth s) (default_block s))

  pub default-at : cell w default_at ≡ code.default_at (default_block s) (laid_out s)
  default-at =
      P.default_is ∙ sym (layout-default s (expression max_depth s) (tally max_depth s) (tally-counts max_depth s) (default_block s))

  end-at : cell w end_at ≡ code.end_at (default_block s) (laid_out s)
  end-at = P.end_is ∙ sym (layout-end s (expression max_depth s) (tally max_depth s) (tally-counts max_depth s) (default_block s))

-- ---- what is made

abbrev pub switched : List ℕ → List ℕ → Made
switched s w = switch_to s (lowered max_depth s) (targets_in w) (entries s) (default_block s) (want_in w) nothing

module _ {s w : List ℕ} (D : Ready s) (P : Placed s w) where
  switched-by : switched s w
      ≡ switch_by s D.right D.numbers D.switch (place_in w) (want_in w) (bodies-at P) (wanted-at P)
  switched-by = λ i. switch_to s (lowered max_depth s)
      (record { body = place_in w; fallback = fallback-at P i; default = default-at P i; end = end-at P i })
      (sym (splits-are s (expression max_depth s)) i) (default_block s) (want_in w) nothing

  pub switch-made : cases_to s (cases_of s) (switched s w) ≡ made (lower s).code (lower s).pools 1
  switch-made =
      ap (cases_to s (cases_of s)) switched-by
      ∙ whole_by s D.right D.numbers D.switch (place_in w) (want_in w) (bodies-at P) (wanted-at P)
      ∙ ap (λ r. made r.code r.pools 1) (sym (lower_switch s (eq-eqb (kind s 0) switch_kind D.switch)))

  -- the rows of the cases, with the pools before the constants of the Cases
  pub cases-made : (lower s).cases
      ≡ case_rows s (laid_out s) (code.fallback_at (default_block s) (laid_out s).splits (laid_out s)) (cases_of s) (switched s w).pools
  cases-made =
      ap (λ r. r.cases) (lower_switch s (eq-eqb (kind s 0) switch_kind D.switch))
      ∙ rows-by s D.right D.numbers D.switch (place_in w) (want_in w) (bodies-at P) (wanted-at P)
      ∙ ap (λ (a : Made). case_rows s (laid_out s) (code.fallback_at (default_block s) (laid_out s).splits (laid_out s)) (cases_of s) a.pools)
      (sym switched-by)

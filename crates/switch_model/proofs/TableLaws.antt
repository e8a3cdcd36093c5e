-- The targets of the rows of both tables, by the place of a row's list of blocks among the distinct lists.
use Prim.Native.Nat.{ℕ, ◌+◌}
use mathlib.Core.Path.{◌≡◌, refl, sym, ap, ◌∙◌}
use mathlib.Core.Bool.{Bool, true, false}
use mathlib.Core.List.{List, [], ◌∷◌, ◌++◌}
use lib.ListN.{length, get_or}
use Rattle.text.specs.Same.{same}
use Rattle.switch_split.specs.Split as Split
use Rattle.bytecode.specs.declared.Op.TheVariants.{Switch}
use Rattle.lowering.specs.Code.{Code, no_pos}
use Rattle.lowering.specs.Pools.{Pools, emits, first_where}
use Rattle.lowering.specs.Out.{Out, Rec}
use Rattle.lowering.specs.Arms.{Arm, arm_chains, distinct_from, distinct}
use Rattle.lowering.specs.Bodies.{Body, body_at}
use Rattle.lowering.specs.SwitchLaid.{lay_cases, case_arms_of, lay_ranges, layout}
use Rattle.lowering.specs.SwitchTables.{entry_of, target}
use Rattle.expr_model.specs.Made.{Made, made, nothing, emit}
use Rattle.expr_model.proofs.Put.{low_of}
use Rattle.switch_model.specs.Change.{arms_to, any_split, case_lists, range_lists, subject_to}
use Rattle.switch_model.proofs.ArmsLaws.{arms_if}
use Rattle.switch_model.proofs.SwitchLaws.{
  switch_at,
  switch-emit,
  subject-is,
  one-behind,
  arms-split,
  cases-is,
  subj,
  case,
  start,
  start-length,
}
use Rattle.switch_model.proofs.TargetLaws.{
  targets_to,
  arm_targets,
  targets-is,
  targets-if,
  arm_blocks,
  chains-blocks,
  drop-blocks,
  entry-target,
}

if-blocks : (d : Bool) (as' : List Arm) → arm_blocks (arms_if d as') ≡ arm_blocks as'
if-blocks true as' = drop-blocks as'
if-blocks false as' = refl

-- the entry of list x, where targets and lists of the arms are known
found : (bodies : List Body) (fallback : ℕ) (x : List ℕ) (as' : List Arm) (ts : List ℕ) (ls : List (List ℕ))
    → arm_targets bodies fallback as' ≡ ts → arm_blocks as' ≡ ls
    → target bodies fallback (entry_of x as') ≡ get_or ts (first_where (same x) ls) fallback
found bodies fallback x as' ts ls h g =
    entry-target bodies fallback x as'
    ∙ ap (λ (y : List ℕ). get_or y (first_where (same x) (arm_blocks as')) fallback) h
    ∙ ap (λ (y : List (List ℕ)). get_or ts (first_where (same x) y) fallback) g

module _ (s : List ℕ) (rec : Rec) (bodies : List Body) where
  abbrev placed : ℕ → ℕ
  placed k = body_at k bodies

  cases-target : (fallback : ℕ) (es : List Split.Entry) (o : Out) (x : List ℕ)
      → target bodies fallback (entry_of x (case_arms_of es (lay_cases s rec o).arms))
      ≡ get_or
      (targets_to s (low_of rec) placed fallback (any_split es) (case_lists s) (made (o.code ++ (switch_at 0 ∷ [])) (emits 1 o.pools) 1))
      (first_where (same x) (case_lists s)) fallback
  unfolding lay_cases
  cases-target fallback es o x =
      let c = o.code ++ (switch_at 0 ∷ []) in
      let p = emits 1 o.pools in
      let go : ℕ → List Arm = λ b. (arm_chains s rec (case_lists s) b p).arms in
      let d = any_split es in
      let b = length o.code + 1 in
      found bodies fallback x (case_arms_of es (go b)) _ (case_lists s)
      (ap (arm_targets bodies fallback) (sym (arms-split es (go b)))
      ∙ ap (λ n. arm_targets bodies fallback (arms_if d (go n))) (sym (one-behind o.code (switch_at 0)))
      ∙ targets-if bodies fallback s rec d d (case_lists s) c p)
      (ap arm_blocks (sym (arms-split es (go b))) ∙ if-blocks d (go b) ∙ chains-blocks s rec (case_lists s) b p)

  ranges-target : (default : ℕ) (es : List Split.Entry) (c : Code) (p : Pools) (x : List ℕ)
      → target bodies default (entry_of x (lay_ranges s rec es (length c) p).arms)
      ≡ get_or (targets_to s (low_of rec) placed default false (range_lists es) (emit (Switch 1) no_pos 0 (made c p 1)))
      (first_where (same x) (range_lists es)) default
  unfolding lay_ranges distinct distinct_from targets_to first_where entry_of target
  ranges-target default [] c p x = refl
  ranges-target default (e ∷ es) c p x =
      let y = c ++ (switch_at 1 ∷ []) in
      let ls = range_lists (e ∷ es) in
      let go : ℕ → List Arm = λ b. (arm_chains s rec ls b (emits 1 p)).arms in
      found bodies default x (go (length c + 1)) _ ls
      (ap (λ n. arm_targets bodies default (go n)) (sym (one-behind c (switch_at 1)))
      ∙ targets-is bodies default s rec false ls y (emits 1 p)
      ∙ ap (targets_to s (low_of rec) placed default false ls) (sym (switch-emit 1 c p)))
      (chains-blocks s rec ls (length c + 1) (emits 1 p))

-- in the definition's layout, with the bodies of any layout, `fallback` for the cases and `default` for the ranges
module _ (s : List ℕ) (rec : Rec) (bodies : List Body) (fallback default : ℕ) (x : List ℕ) where
  -- behind the first Switch, and behind the chains of the cases
  abbrev pub at_cases : Made
  at_cases = subject_to (low_of rec) nothing

  abbrev pub behind_cases : Made
  behind_cases = arms_to s (low_of rec) (λ k. body_at k bodies) fallback (any_split (layout s rec).splits) (case_lists s) at_cases

  pub case-target : target bodies fallback (entry_of x (layout s rec).case_arms)
      ≡ get_or (targets_to s (low_of rec) (λ k. body_at k bodies) fallback (any_split (layout s rec).splits) (case_lists s) at_cases)
      (first_where (same x) (case_lists s)) fallback
  unfolding layout
  case-target =
      cases-target s rec bodies fallback (layout s rec).splits (subj s rec bodies fallback default 0) x
      ∙ ap (λ (a : Made). get_or (targets_to s (low_of rec) (λ k. body_at k bodies) fallback (any_split (layout s rec).splits) (case_lists s) a)
      (first_where (same x) (case_lists s)) fallback) (sym (subject-is rec))

  pub range-target : target bodies default (entry_of x (layout s rec).range_arms)
      ≡ get_or (targets_to s (low_of rec) (λ k. body_at k bodies) default false (range_lists (layout s rec).splits)
      (emit (Switch 1) no_pos 0 behind_cases))
      (first_where (same x) (range_lists (layout s rec).splits)) default
  unfolding layout
  range-target =
      let es = (layout s rec).splits in
      let c = start s rec bodies fallback default 0 in
      let p = (case s rec bodies fallback default 0).pools in
      let o = subj s rec bodies fallback default 0 in
      let state : behind_cases ≡ made c p 1 =
      ap (arms_to s (low_of rec) (λ k. body_at k bodies) fallback (any_split es) (case_lists s)) (subject-is rec)
      ∙ cases-is s rec bodies fallback es o in
      ap (λ b. target bodies default (entry_of x (lay_ranges s rec es b p).arms)) (sym (start-length s rec bodies fallback default 0))
      ∙ ranges-target s rec bodies default es c p x
      ∙ ap (λ (a : Made). get_or (targets_to s (low_of rec) (λ k. body_at k bodies) default false (range_lists es) (emit (Switch 1) no_pos 0 a))
      (first_where (same x) (range_lists es)) default) (sym state)

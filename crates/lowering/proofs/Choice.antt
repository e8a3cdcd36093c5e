-- On every integer a run of a switch's image tries the guards and reaches the body that the source rule says.
use Prim.Native.Nat.{ℕ, zero, suc, ◌+◌}
use mathlib.Core.Path.{◌≡◌, refl, sym, ap, ◌∙◌, subst, fun_ext}
use mathlib.Core.Bool.{Bool, true, false}
use mathlib.Core.Option.{none}
use mathlib.Core.List.Memᴰ
use mathlib.Core.List.{List, [], ◌∷◌, map, Memᴰ}
use native.Mathlib.Omega.{arith}
use native.Mathlib.Nat.{zero-add}
use lib.ListN.{length}
use Rattle.switch_split.specs.Range.{containing}
use Rattle.switch_split.specs.Split as Split
use Rattle.switch_split.specs.Split.{holds, first_match}
use Rattle.switch_split.proofs.JoinLaws
use Rattle.switch_split.proofs.SplitLaws.{Every}
use Rattle.switch_split.proofs.SplitRight.{split-right}
use Rattle.bytecode.specs.declared.Op.TheVariants.{Unit}
use Rattle.bytecode.specs.Op.{op_words}
use Rattle.lowering.specs.Limits.{max_levels}
use Rattle.lowering.specs.Code.{Code, ins, no_pos}
use Rattle.lowering.specs.Out.{Rec}
use Rattle.lowering.specs.SwitchSheet.{default_block, subject, cases_of, case_blocks, ranges_of}
use Rattle.lowering.specs.Arms.{Entry, Arm, arms_extent}
use Rattle.lowering.specs.Bodies.{bodies_extent}
use Rattle.lowering.specs.SwitchLaid.{SwitchLaid, layout}
use Rattle.lowering.specs.SwitchCode.{over_subject, default_at, end_at, fallback_at, arms_code, switch_code}
use Rattle.lowering.specs.SwitchTables.{entry_of, target}
use Rattle.lowering.specs.Switch.{switch_of, switch}
use Rattle.lowering.specs.Program.{Program}
use Rattle.lowering.specs.Image.{words}
use Rattle.lowering.specs.Marks.{Marked, marked, arm_marks, default_marks, marks, mark_at}
use Rattle.lowering.specs.Marks as Marks
use Rattle.lowering.specs.Words.{instructions}
use Rattle.lowering.specs.Guided.{Fed, guided_start, Event, missing, is_answered, event_of, events}
use borrow.Author.Tests.{eq-eqb}
use Rattle.sheet.specs.Node.{kind}
use Rattle.lowering.specs.Kinds.{switch_kind}
use Rattle.lowering.specs.Outcome.{lower, lower_with}
use Rattle.lowering.specs.Expression.{expression}
use Rattle.lowering.specs.Demand3.{marks_of, ChoosesRight}
use Rattle.lowering.specs.SourceRule.{is_case_of, case_list, list_for, default_events, go_through, source_rule}
use Rattle.lowering.proofs.Typed.{Nothing, one}
use Rattle.lowering.proofs.Meets.{Meets}
use Rattle.lowering.proofs.Whole.{context_of, WellTyped}
use Rattle.lowering.proofs.Stands.{Stands}
use Rattle.lowering.proofs.SwitchPlaces.{subject-stands, switch-stands, cases-stand, ending-stands, switch-length}
use Rattle.lowering.proofs.Lowered.{ArmsAt}
use Rattle.lowering.proofs.SwitchEntries.{blocks_of, distinct-keeps, finds}
use Rattle.lowering.proofs.SwitchParts.{HasBody, FallTo, dispatch-stands, range-arms-stand, body-stands, missing-stands}
use Rattle.lowering.proofs.SwitchNames.{ArmNames, named-wanted}
use Rattle.lowering.proofs.SwitchTargets.{case_target, range_target}
use Rattle.lowering.proofs.SwitchBlocks.{Blocks}
use Rattle.lowering.proofs.SwitchSound.{lowered-sound, ending-sound}
use Rattle.lowering.proofs.SwitchTyped.{Ready, ready-typed, switch-ready}
use Rattle.lowering.proofs.Decode.{instructions-are}
use Rattle.lowering.proofs.Tables.{TablesFit}
use Rattle.lowering.proofs.LowerFits.{switch_fits}
use Rattle.lowering.proofs.Tells.{Tells, tells-end}
use Rattle.lowering.proofs.TellsBranch.{tells-switch}
use Rattle.lowering.proofs.Through.{through, go-append, go-end, entry_events, found-through}
use Rattle.lowering.proofs.MarksAt.{below-marks, Bears, bears-part, arms-between}
use Rattle.lowering.proofs.SwitchMarks.{behind-dispatch, MarksPlaced, marks-placed}
use Rattle.lowering.proofs.ChosenRow.{pick, pick_yes, pick_no, case-target, Wide, range-target, split-wide}
use Rattle.lowering.proofs.Fragments.{stands-runs, stands-kind, stands-a, goes-forward, fed, cross-part, enter-part}
use Rattle.lowering.proofs.ChainTells.{Reaches, arms-tell}
use Rattle.lowering.proofs.BodyTells.{has-reaches}

-- ---- the list of the first Case that is the Int x

module _ (s : List ℕ) (x c : ℕ) (cs : List ℕ) where
  list-yes : is_case_of s x c ≡ true → case_list s x (c ∷ cs) ≡ case_blocks s c
  unfolding case_list
  list-yes h = rw (h, case_list)

  list-no : is_case_of s x c ≡ false → case_list s x (c ∷ cs) ≡ case_list s x cs
  unfolding case_list
  list-no h = rw (h, case_list)

-- where the entry that is picked tells P of its list, and the fallback P of none
module _ (P : ℕ → List ℕ → Type 0) (fb : ℕ) (none-picked : P fb []) where
  picked-case : (s : List ℕ) (x : ℕ) (goal : ℕ → ℕ) (cs : List ℕ) → ((c : ℕ) → Memᴰ c cs → P (goal c) (case_blocks s c))
      → P (pick (is_case_of s x) goal fb cs) (case_list s x cs)
  unfolding case_list
  picked-case s x goal [] h = none-picked
  picked-case s x goal (c ∷ cs) h = by (is_case_of s x c) refl (picked-case s x goal cs (λ d m. h d (Memᴰ.tail m)))
    where
      by : (t : Bool) → is_case_of s x c ≡ t → P (pick (is_case_of s x) goal fb cs) (case_list s x cs)
          → P (pick (is_case_of s x) goal fb (c ∷ cs)) (case_list s x (c ∷ cs))
      by true q k = rw (pick_yes (is_case_of s x) goal fb c cs q, list-yes s x c cs q) (h c (Memᴰ.head refl))
      by false q k = rw (pick_no (is_case_of s x) goal fb c cs q, list-no s x c cs q) k

  picked-range : (x : ℕ) (goal : Split.Entry → ℕ) (es : List Split.Entry) → ((e : Split.Entry) → Memᴰ e es → P (goal e) e.blocks)
      → P (pick (λ e. holds e x) goal fb es) (first_match es x)
  unfolding first_match
  picked-range x goal [] h = none-picked
  picked-range x goal (e ∷ es) h = by (holds e x) refl (picked-range x goal es (λ d m. h d (Memᴰ.tail m)))
    where
      by : (t : Bool) → holds e x ≡ t → P (pick (λ y. holds y x) goal fb es) (first_match es x)
          → P (pick (λ y. holds y x) goal fb (e ∷ es)) (first_match (e ∷ es) x)
      by true q k = rw (pick_yes (λ y. holds y x) goal fb e es q, JoinLaws.first-yes e es x q) (h e (Memᴰ.head refl))
      by false q k = rw (pick_no (λ y. holds y x) goal fb e es q, JoinLaws.first-no e es x q) k

-- ---- the parts of a switch, from the end to the start

module _ (s : List ℕ) (rec : Rec) (M : Meets rec) (def : ℕ) (l : SwitchLaid) (Y : Ready s rec def (context_of (switch_of s def l)) l) (x : ℕ)
    (answers : ℕ → Bool) (free : ℕ → ℕ) where
  abbrev r : Program
  r = switch_of s def l

  abbrev ms : List Marked
  ms = marks def l

  abbrev run : Fed
  run = fed r ms x answers free

  T : TablesFit r
  T = switch_fits s def l

  W : WellTyped r
  W = ready-typed s rec M def l Y

  placed : MarksPlaced def l
  placed = marks-placed s rec M (context_of r) l Y.out def

  in_code : {b : ℕ} {c : Code} → Stands (switch_code def l) b c → Stands r.code b c
  unfolding switch_of
  in_code h = h

  the_end : end_at def l + 2 ≡ instructions (words r)
  unfolding switch_of
  the_end = sym (instructions-are r ∙ switch-length def l Y.out.places)

  -- the last two instructions add nothing
  ending-tells : (u : ℕ) → Tells run (end_at def l) u []
  ending-tells u =
      cross-part r T W ms x answers free (in_code (ending-stands def l Y.out.places))
      (ending-sound {X = context_of r} {O = Nothing} (end_at def l)) u []
      (subst (λ (p : ℕ). Tells run p u []) (sym the_end)
      (tells-end run u (placed.behind (instructions (words r)) (omega (arith, the_end)))))
      (end_at def l) (omega arith) (omega arith) (λ p h k. placed.behind p h)

  body-reaches : (k : ℕ) → HasBody k l.bodies → Reaches r T W ms x answers free l.bodies k
  unfolding switch_of
  body-reaches =
      has-reaches r T W ms x answers free s rec M (end_at def l) ending-tells l.bodies l.bodies_place Y.out.bodies-lowered
      placed.in-bodies
      (body-stands s rec r.pools.chains l Y.out def)

  arm-reaches : (arms : List Arm) → ArmNames (λ (k : ℕ). HasBody k l.bodies) arms
      → ArmNames (Reaches r T W ms x answers free l.bodies) arms
  arm-reaches arms n =
      named-wanted (λ (k : ℕ). HasBody k l.bodies) (Reaches r T W ms x answers free l.bodies) arms n (λ k v h. body-reaches k h)

  -- the default
  missing-tells : def ≡ 0 → (u : ℕ) → Tells run (default_at 0 l) u (missing ∷ [])
  unfolding event_of is_answered default_marks default_at end_at
  missing-tells q u =
      let f = l.bodies_place + bodies_extent l.bodies in
      let st = subst (λ (n : ℕ). Stands (switch_code n l) f (ins Unit over_subject no_pos ∷ [])) (sym q) (missing-stands l Y.out.places) in
      let so = one {X = context_of r} {O = Nothing} {b = f} {d = 1} {e = 2} (ins Unit over_subject no_pos) refl (λ A N o a e n. omega arith) in
      let ends = subst (λ (n : ℕ). Tells run (end_at n l) u []) q (ending-tells u) in
      enter-part r T W ms x answers free (in_code st) so u [] ends (marked f Marks.missing) refl refl (omega arith)
      (subst (λ (n : ℕ). Bears ms f (f + 1) (default_marks n l)) q placed.in-default)

  default-tells : (u : ℕ) → Tells run (default_at def l) u (default_events def)
  unfolding default_at default_events
  default-tells u = by def refl
    where
      by : (n : ℕ) → def ≡ n → Tells run (default_at def l) u (default_events def)
      by zero q = subst (λ (n : ℕ). Tells run (default_at n l) u (default_events n)) (sym q) (missing-tells q u)
      by (suc k) q = subst (λ (n : ℕ). Tells run (default_at n l) u (default_events n)) (sym q) (body-reaches k (Y.default_body k q) u)

  -- a table whose fallback tells `after` tells what each of its lists says
  table-tells : (after : ℕ → List Event) (fb b : ℕ) (arms : List Arm) → ((u : ℕ) → Tells run fb u (after u))
      → ArmsAt s rec r.pools.chains b arms → FallTo fb b arms → Stands r.code b (arms_code l.bodies fb arms)
      → Bears ms b (b + arms_extent arms) (arm_marks arms)
      → ArmNames (λ (k : ℕ). HasBody k l.bodies) arms
      → (u : ℕ) (ks : List ℕ) → Memᴰ ks (blocks_of arms)
      → Tells run (target l.bodies fb (entry_of ks arms)) u (through s answers after u ks)
  table-tells after fb b arms falls-back at falls st bears names u ks m =
      let f = finds ks arms m in
      subst (λ (evs : List Event). Tells run (target l.bodies fb (entry_of ks arms)) u evs)
      (found-through s answers after rec r.pools.chains b arms at ks m u)
      (subst (λ (e : Entry). Tells run (target l.bodies fb e) u (entry_events answers after u e)) (sym f.entry-is)
      (arms-tell r T W ms x answers free s rec M l.bodies after fb falls-back arms b at falls st bears (arm-reaches arms names) f.arm
      f.among u))

  -- ---- the ranges

  abbrev otherwise : ℕ → List Event
  otherwise u = default_events def

  abbrev after_cases : ℕ → List Event
  after_cases u = through s answers otherwise u (first_match l.splits x)

  module _ (e₀ : Split.Entry) (es : List Split.Entry) (q : l.splits ≡ e₀ ∷ es) where
    range-entry : (u : ℕ) (e : Split.Entry) → Memᴰ e l.splits
        → Tells run (range_target def l e) u (through s answers otherwise u e.blocks)
    range-entry u e m =
        let d = l.dispatch + 1 in
        let h = behind-dispatch l Y.out.places e₀ es q in
        let listed = subst (Memᴰ e.blocks) (sym Y.out.range-lists)
        (distinct-keeps (map (λ (y : Split.Entry). y.blocks) l.splits) e.blocks (Memᴰ.map (λ (y : Split.Entry). y.blocks) m)) in
        table-tells otherwise (default_at def l) d l.range_arms default-tells Y.out.range-arms (Y.out.ranges-fall (default_at def l))
        (in_code (range-arms-stand s rec r.pools.chains l Y.out def e₀ es q))
        (bears-part ms l.dispatch l.bodies_place d (d + arms_extent l.range_arms) (arm_marks l.range_arms) (omega arith)
        (omega arith) placed.in-ranges)
        Y.range-bodies u e.blocks listed

    dispatch-bare : mark_at ms l.dispatch ≡ none
    dispatch-bare =
        let d = l.dispatch + 1 in
        let h = behind-dispatch l Y.out.places e₀ es q in
        placed.in-ranges l.dispatch (omega arith) (omega arith)
        ∙ below-marks d (d + arms_extent l.range_arms) (arm_marks l.range_arms) l.dispatch
        (arms-between s rec r.pools.chains d l.range_arms Y.out.range-arms) (omega arith)

    -- the second Switch
    dispatch-tells : (u : ℕ) → Tells run l.dispatch u (after_cases u)
    unfolding op_words
    dispatch-tells u =
        let st = in_code (dispatch-stands s rec r.pools.chains l Y.out def e₀ es q) in
        let wide = subst (Every Wide) (sym Y.out.splits-are) (split-wide s) in
        tells-switch run (goes-forward r T W) l.dispatch (stands-runs r st) 1
        (pick (λ e. holds e x) (range_target def l) (default_at def l) l.splits) u (after_cases u)
        dispatch-bare (stands-kind r st) (stands-a r st) (range-target s def l e₀ es q wide x)
        (picked-range (λ p ks. Tells run p u (through s answers otherwise u ks)) (default_at def l) (default-tells u) x (range_target def l)
        l.splits (range-entry u))

  -- where a case goes that no guard takes
  fallback-tells : (u : ℕ) → Tells run (fallback_at def l.splits l) u (after_cases u)
  unfolding fallback_at first_match
  fallback-tells u = by l.splits refl
    where
      by : (es : List Split.Entry) → l.splits ≡ es → Tells run (fallback_at def l.splits l) u (after_cases u)
      by [] q =
          subst (λ (es : List Split.Entry). Tells run (fallback_at def es l) u (through s answers otherwise u (first_match es x))) (sym q)
          (default-tells u)
      by (e ∷ es) q =
          subst (λ (y : List Split.Entry). Tells run (fallback_at def y l) u (after_cases u)) (sym q) (dispatch-tells e es q u)

  -- ---- the cases

  case-entry : (u c : ℕ) → Memᴰ c (cases_of s) → Tells run (case_target s def l c) u (through s answers after_cases u (case_blocks s c))
  case-entry u c m =
      let b = length l.subject_code + 1 in
      let h = Y.out.places.dispatch_is in
      let listed = subst (Memᴰ (case_blocks s c)) (sym Y.out.case-lists)
      (distinct-keeps (map (case_blocks s) (cases_of s)) (case_blocks s c) (Memᴰ.map (case_blocks s) m)) in
      table-tells after_cases (fallback_at def l.splits l) b l.case_arms fallback-tells Y.out.case-arms (Y.out.cases-fall def)
      (in_code (cases-stand def l Y.out.places))
      (bears-part ms b l.dispatch b (b + arms_extent l.case_arms) (arm_marks l.case_arms) (omega arith) (omega arith)
      placed.in-cases)
      Y.case-bodies u (case_blocks s c) listed

  -- the first Switch
  switch-tells : (u : ℕ) → Tells run (length l.subject_code) u (through s answers after_cases u (case_list s x (cases_of s)))
  unfolding op_words
  switch-tells u =
      let p = length l.subject_code in
      let fb = fallback_at def l.splits l in
      let st = in_code (switch-stands def l Y.out.places) in
      tells-switch run (goes-forward r T W) p (stands-runs r st) 0 (pick (is_case_of s x) (case_target s def l) fb (cases_of s)) u
      (through s answers after_cases u (case_list s x (cases_of s)))
      (placed.before p (omega arith)) (stands-kind r st) (stands-a r st) (case-target s def l x)
      (picked-case (λ q ks. Tells run q u (through s answers after_cases u ks)) fb (fallback-tells u) s x (case_target s def l) (cases_of s)
      (case-entry u))

  -- the subject adds nothing
  start-tells : (u : ℕ) → Tells run 0 u (through s answers after_cases u (case_list s x (cases_of s)))
  start-tells u =
      cross-part r T W ms x answers free (in_code (subject-stands def l Y.out.places))
      (lowered-sound rec M (context_of r) subject 0 0 l.subject_code Y.out.subject-lowered) u
      (through s answers after_cases u (case_list s x (cases_of s)))
      (subst (λ (p : ℕ). Tells run p u (through s answers after_cases u (case_list s x (cases_of s))))
      (sym (zero-add (length l.subject_code))) (switch-tells u))
      0 (omega arith) (omega arith) (λ p h k. placed.before p (omega arith))

  whole_tells : events run ≡ through s answers after_cases 0 (case_list s x (cases_of s))
  unfolding events
  whole_tells = start-tells 0 (instructions (words r)) guided_start refl refl (omega arith)

  -- ---- the source rule

  after-right : def ≡ default_block s → (u : ℕ) → after_cases u ≡ go_through s answers u (containing (ranges_of s) x)
  after-right q u =
      ap (through s answers otherwise u) (ap (λ (es : List Split.Entry). first_match es x) Y.out.splits-are ∙ split-right (ranges_of s) x)
      ∙ ap (λ (n : ℕ). through s answers (λ m. default_events n) u (containing (ranges_of s) x)) q
      ∙ sym (go-end s answers u (containing (ranges_of s) x))

  chooses : def ≡ default_block s → events run ≡ source_rule s x answers
  unfolding source_rule list_for
  chooses q =
      whole_tells
      ∙ ap (λ (after : ℕ → List Event). through s answers after 0 (case_list s x (cases_of s))) (fun_ext (after-right q))
      ∙ sym (go-append s answers 0 (case_list s x (cases_of s)) (containing (ranges_of s) x))

-- the theorem
switch-chooses : (s : List ℕ) (rec : Rec) → Meets rec → Blocks s → (x : ℕ) (answers : ℕ → Bool) (free : ℕ → ℕ)
    → events (record {
      image = words (switch s rec);
      marks = marks (default_block s) (layout s rec);
      integer = x;
      answers = answers;
      free = free;
    }) ≡ source_rule s x answers
unfolding switch
switch-chooses s rec M B x answers free = chooses s rec M (default_block s) (layout s rec) (switch-ready s rec M B) x answers free refl

-- the same as demand 3 says it, of the image of a switch sheet
pub chooses-right : (s : List ℕ) → Meets (expression max_levels s) → Blocks s → kind s 0 ≡ switch_kind → ChoosesRight s (words (lower s))
unfolding lower marks_of
chooses-right s M B k =
    rw (eq-eqb (kind s 0) switch_kind k, lower, lower_with) (λ x answers free. switch-chooses s (expression max_levels s) M B x answers free)

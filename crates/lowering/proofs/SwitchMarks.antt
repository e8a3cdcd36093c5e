-- Which marks the places of a switch bear: the chains those of their guards, the bodies their own, a missing default its own, and no other
-- place has one.
use Prim.Native.Nat.{ℕ, zero, suc, ◌+◌, ◌≤◌}
use mathlib.Core.Path.{◌≡◌, refl, sym, ap, ◌∙◌, subst}
use mathlib.Core.Option.{none}
use mathlib.Core.List.Memᴰ
use mathlib.Core.List.{List, [], ◌∷◌, ◌++◌, map, Memᴰ}
use native.Mathlib.Omega.{arith}
use lib.ListN.{length}
use Rattle.switch_split.specs.Split as Split
use Rattle.lowering.specs.Out.{Rec}
use Rattle.lowering.specs.SwitchSheet.{body_of}
use Rattle.lowering.specs.Arms.{Arm, arms_extent, distinct_from, distinct}
use Rattle.lowering.specs.Bodies.{Body, bodies_extent, fall_extent}
use Rattle.lowering.specs.SwitchLaid.{SwitchLaid, ranges_extent}
use Rattle.lowering.specs.SwitchCode.{default_at, end_at}
use Rattle.lowering.specs.Marks.{Marked, arm_marks, body_marks, default_marks, marks, mark_at}
use Rattle.lowering.proofs.Effect.{Context}
use Rattle.lowering.proofs.Meets.{Meets}
use Rattle.lowering.proofs.SwitchPlaces.{Laid}
use Rattle.lowering.proofs.Lowered.{BodiesAt}
use Rattle.lowering.proofs.SwitchEntries.{blocks_of}
use Rattle.lowering.proofs.SwitchParts.{LaidOut}
use Rattle.lowering.proofs.MarksAt.{Between, between-wider, between-append, below-marks, above-marks, Bears, bears-left, bears-right}
use Rattle.lowering.proofs.MarksAt.{arms-between, bodies-between}
use Rattle.lowering.proofs.ChainTells.{lowered-filled}

-- all bodies but the last are followed by a jump, and the last is not empty
fall-between : (s : List ℕ) (rec : Rec) → Meets rec → (X : Context) (b : ℕ) (xs : List Body) → BodiesAt s rec X.chains b xs
    → Between b (b + fall_extent xs) (body_marks xs)
unfolding fall_extent body_marks
fall-between s rec M X b [] h = tt
fall-between s rec M X b (x ∷ []) h =
    let at = h.0.place_is in
    let filled = lowered-filled rec M X (body_of s x.block) b 1 x.code h.0.lowered in
    (omega arith, omega arith, tt)
fall-between s rec M X b (x ∷ y ∷ xs) h =
    let at = h.0.place_is in
    let c = b + length x.code + 1 in (
      omega arith,
      omega arith,
      between-wider c (c + fall_extent (y ∷ xs)) b (b + fall_extent (x ∷ y ∷ xs)) (body_marks (y ∷ xs)) (omega arith) (omega arith)
          (fall-between s rec M X c (y ∷ xs) h.1),
    )

-- where there are split ranges, the bodies follow the second Switch and its chains
pub behind-dispatch : (l : SwitchLaid) → Laid l → (e : Split.Entry) (es : List Split.Entry) → l.splits ≡ e ∷ es
    → l.bodies_place ≡ l.dispatch + 1 + arms_extent l.range_arms
unfolding ranges_extent
behind-dispatch l h e es q =
    let k = h.bodies-are in
    let n : ranges_extent l.splits l.range_arms ≡ suc (arms_extent l.range_arms) =
    ap (λ (y : List Split.Entry). ranges_extent y l.range_arms) q in
    omega arith

pub record MarksPlaced (def : ℕ) (l : SwitchLaid) : Type 0 where
  pub before : (p : ℕ) → p ≤ length l.subject_code → mark_at (marks def l) p ≡ none
  pub in-cases : Bears (marks def l) (length l.subject_code + 1) l.dispatch (arm_marks l.case_arms)
  pub in-ranges : Bears (marks def l) l.dispatch l.bodies_place (arm_marks l.range_arms)
  pub in-bodies : Bears (marks def l) l.bodies_place (l.bodies_place + bodies_extent l.bodies) (body_marks l.bodies)
  pub in-default : Bears (marks def l) (l.bodies_place + bodies_extent l.bodies) (l.bodies_place + bodies_extent l.bodies + 1)
      (default_marks def l)
  pub behind : (p : ℕ) → end_at def l ≤ p → mark_at (marks def l) p ≡ none

no-arms : (arms : List Arm) → blocks_of arms ≡ [] → arms ≡ []
no-arms [] h = refl
no-arms (a ∷ arms) h = absurd (Memᴰ.not-nil (subst (Memᴰ a.blocks) h (Memᴰ.head refl)))

module _ (s : List ℕ) (rec : Rec) (M : Meets rec) (X : Context) (l : SwitchLaid) (L : LaidOut s rec X.chains l) where
  cases-between : Between (length l.subject_code + 1) l.dispatch (arm_marks l.case_arms)
  cases-between =
      subst (λ (e : ℕ). Between (length l.subject_code + 1) e (arm_marks l.case_arms)) (sym L.places.dispatch_is)
      (arms-between s rec X.chains (length l.subject_code + 1) l.case_arms L.case-arms)

  ranges-between : Between l.dispatch l.bodies_place (arm_marks l.range_arms)
  unfolding distinct distinct_from arm_marks
  ranges-between = by l.splits refl
    where
      by : (es : List Split.Entry) → l.splits ≡ es → Between l.dispatch l.bodies_place (arm_marks l.range_arms)
      by [] q =
          let empty = no-arms l.range_arms
          (L.range-lists ∙ ap (λ (x : List Split.Entry). distinct (map (λ (e : Split.Entry). e.blocks) x)) q) in
          subst (λ (arms : List Arm). Between l.dispatch l.bodies_place (arm_marks arms)) (sym empty) tt
      by (e ∷ es) q =
          let h = behind-dispatch l L.places e es q in
          between-wider (l.dispatch + 1) (l.dispatch + 1 + arms_extent l.range_arms) l.dispatch l.bodies_place
          (arm_marks l.range_arms) (omega arith) (omega arith)
          (arms-between s rec X.chains (l.dispatch + 1) l.range_arms L.range-arms)

  default-between : (def : ℕ)
      → Between (l.bodies_place + bodies_extent l.bodies) (l.bodies_place + bodies_extent l.bodies + 1) (default_marks def l)
  unfolding default_marks default_at
  default-between zero = (omega arith, omega arith, tt)
  default-between (suc k) = tt

  abbrev start : ℕ
  start = length l.subject_code + 1

  start-le : start ≤ l.dispatch
  start-le = let h = L.places.dispatch_is in omega arith

  dispatch-le : l.dispatch ≤ l.bodies_place
  dispatch-le = let h = L.places.bodies-are in omega arith

  abbrev of_cases : List Marked
  of_cases = arm_marks l.case_arms

  abbrev of_ranges : List Marked
  of_ranges = arm_marks l.range_arms

  abbrev of_bodies : List Marked
  of_bodies = body_marks l.bodies

  of-arms : Between start l.bodies_place (of_cases ++ of_ranges)
  of-arms =
      between-append start l.bodies_place of_cases of_ranges
      (between-wider start l.dispatch start l.bodies_place of_cases (omega arith) dispatch-le cases-between)
      (between-wider l.dispatch l.bodies_place start l.bodies_place of_ranges start-le (omega arith) ranges-between)

  of_code : (f : ℕ) → l.bodies_place ≤ f → Between l.bodies_place f of_bodies → Between start f (of_cases ++ of_ranges ++ of_bodies)
  of_code f ef hB =
      let h₁ = start-le in
      let h₂ = dispatch-le in
      between-append start f (of_cases ++ of_ranges) of_bodies
      (between-wider start l.bodies_place start f (of_cases ++ of_ranges) (omega arith) ef of-arms)
      (between-wider l.bodies_place f start f of_bodies (omega arith) (omega arith) hB)

  -- four lists, one behind the other: those of the bodies stand before f, that of the default at f
  module _ (f : ℕ) (D : List Marked) (ef : l.bodies_place ≤ f) (hB : Between l.bodies_place f of_bodies) (hD : Between f (f + 1) D) where
    abbrev these : List Marked
    these = of_cases ++ of_ranges ++ of_bodies ++ D

    -- up to place e the default has no mark
    but-default : (b e : ℕ) → e ≤ f → Bears these b e (of_cases ++ of_ranges ++ of_bodies)
    but-default b e ee =
        bears-left these b e (f + 1) (of_cases ++ of_ranges ++ of_bodies) D (between-wider f (f + 1) e (f + 1) D ee (omega arith) hD)
        (λ p h k. refl)

    arm-part : (b e : ℕ) → e ≤ l.bodies_place → Bears these b e (of_cases ++ of_ranges)
    arm-part b e ee =
        bears-left these b e f (of_cases ++ of_ranges) of_bodies (between-wider l.bodies_place f e f of_bodies ee (omega arith) hB)
        (but-default b e (omega arith))

    case-part : Bears these start l.dispatch of_cases
    case-part =
        bears-left these start l.dispatch l.bodies_place of_cases of_ranges ranges-between (arm-part start l.dispatch dispatch-le)

    range-part : Bears these l.dispatch l.bodies_place of_ranges
    range-part =
        bears-right these l.dispatch l.bodies_place start of_cases of_ranges cases-between
        (arm-part l.dispatch l.bodies_place (omega arith))

    body-part : Bears these l.bodies_place f of_bodies
    body-part =
        bears-right these l.bodies_place f start (of_cases ++ of_ranges) of_bodies of-arms (but-default l.bodies_place f (omega arith))

    default-part : Bears these f (f + 1) D
    default-part = bears-right these f (f + 1) start (of_cases ++ of_ranges ++ of_bodies) D (of_code f ef hB) (λ p h k. refl)

  bodies-behind : Between l.bodies_place (l.bodies_place + bodies_extent l.bodies) (body_marks l.bodies)
  bodies-behind = bodies-between s rec X.chains l.bodies_place l.bodies L.bodies-lowered

  -- no mark stands at the end or behind it
  marks-end : (def : ℕ) → Between start (end_at def l) (marks def l)
  unfolding marks default_marks end_at
  marks-end zero =
      let h₁ = start-le in
      let h₂ = dispatch-le in
      let f = l.bodies_place + bodies_extent l.bodies in
      between-append start (f + 1) (of_cases ++ of_ranges ++ of_bodies) (default_marks 0 l)
      (between-wider start f start (f + 1) (of_cases ++ of_ranges ++ of_bodies) (omega arith) (omega arith)
      (of_code f (omega arith) bodies-behind))
      (between-wider f (f + 1) start (f + 1) (default_marks 0 l) (omega arith) (omega arith) (default-between 0))
  marks-end (suc k) =
      let f = l.bodies_place + fall_extent l.bodies in
      between-append start f (of_cases ++ of_ranges ++ of_bodies) []
      (of_code f (omega arith) (fall-between s rec M X l.bodies_place l.bodies L.bodies-lowered)) tt

  pub marks-placed : (def : ℕ) → MarksPlaced def l
  unfolding marks
  marks-placed def =
      let f = l.bodies_place + bodies_extent l.bodies in
      let ef : l.bodies_place ≤ f = omega arith in
      record {
        before = λ p h. below-marks start (end_at def l) (marks def l) p (marks-end def) (omega arith);
        in-cases = case-part f (default_marks def l) ef bodies-behind (default-between def);
        in-ranges = range-part f (default_marks def l) ef bodies-behind (default-between def);
        in-bodies = body-part f (default_marks def l) ef bodies-behind (default-between def);
        in-default = default-part f (default_marks def l) ef bodies-behind (default-between def);
        behind = λ p h. above-marks start (end_at def l) (marks def l) p (marks-end def) h;
      }

-- Marks that agree everywhere are the depths of all runs, however they were found.
use Prim.Native.Nat.{ℕ, zero, suc, ◌≤◌, ◌<◌, min, max}
use mathlib.Core.Path.{◌≡◌, refl, ap, ◌∙◌, subst}
use mathlib.Core.Bool.{Bool, true, false}
use mathlib.Core.List.{List}
use native.Mathlib.Omega.{arith}
use borrow.Author.Tests.{ltb-true, ltb-false, leb-true, leb-false}
use lib.Dec.{ltb, leb}
use Rattle.lowering.proofs.RunsRight.{goes-on, stays}
use Rattle.bytecode.specs.Effect.{table}
use Rattle.lowering.specs.Words.{instructions, greatest_depth, a_at, switch_word}
use Rattle.lowering.specs.Run.{State, step, step_on, run, next, needs, table_target}
use Rattle.lowering.specs.Demand3.{Running, RunsRight, DepthReached}
use Rattle.image_rule.specs.Rules.{tables}
use Rattle.image_rule.specs.WellMade.{RunsAgree}
use Rattle.image_rule.specs.Marks.{mark, table_node, flow_at, after, edges, edge, most, place_by, table_by, marks_right}
use Rattle.image_rule.proofs.Tells.{Tells, tells-and, tells_all, tells_as, tells-always, tells-le, tells-eq}
use Rattle.image_rule.proofs.EdgeLaws.{edge-all, row-all, edge-next}
use Rattle.image_rule.proofs.Told.{Told, Aims}

-- the place p with depth d: it finds what it takes, and its edges have the mark of the depth after it
pub record PlaceRight (w l : List ℕ) (p d : ℕ) : Type 0 where
  pub finds : needs w p ≤ d
  pub leads : (way : ℕ) → way < edges (flow_at w p) → mark l (edge (flow_at w p) w p way) ≡ suc (after w p d)

-- each row of table i, and its default, has the mark of depth d
abbrev pub TableRight : List ℕ → List ℕ → ℕ → ℕ → Type 0
TableRight w l i d = (r : ℕ) → r < suc (switch_word w i 2) → mark l (table_target w i r) ≡ suc d

-- what the test of the marks tells
pub record Right (w l : List ℕ) : Type 0 where
  pub places : (p : ℕ) → p < instructions w → (d : ℕ) → mark l p ≡ suc d → PlaceRight w l p d
  pub tabled : (i : ℕ) → i < tables w → (d : ℕ) → mark l (table_node w i) ≡ suc d → TableRight w l i d
  pub ends : mark l (instructions w) ≡ 2
  pub greatest : most l (instructions w) ≡ suc (greatest_depth w)

-- the test of one place, by its mark m
tells-place : (w l : List ℕ) (p m : ℕ) → Tells (place_by m w l p) ((d : ℕ) → m ≡ suc d → PlaceRight w l p d)
unfolding place_by
tells-place w l p zero = tells-always (λ d e. absurd (omega arith))
tells-place w l p (suc d) =
    let F = flow_at w p in
    tells_as
    (tells-and
    (tells-le (needs w p) d)
    (tells_all (edges F) (λ way. tells-eq (mark l (edge F w p way)) (suc (after w p d)))))
    (λ h e q. subst (PlaceRight w l p) (omega arith) (record { finds = h.0; leads = h.1 }))
    (λ h. let r = h d refl in (r.finds, r.leads))

-- the test of one table, by its mark m
tells-table : (w l : List ℕ) (i m : ℕ) → Tells (table_by m w l i) ((d : ℕ) → m ≡ suc d → TableRight w l i d)
unfolding table_by
tells-table w l i zero = tells-always (λ d e. absurd (omega arith))
tells-table w l i (suc d) =
    tells_as (tells_all (suc (switch_word w i 2)) (λ r. tells-eq (mark l (table_target w i r)) (suc d)))
    (λ h e q. subst (TableRight w l i) (omega arith) h)
    (λ h. h d refl)

-- the test of all marks
pub tells-right : (w l : List ℕ) → Tells (marks_right w l) (Right w l)
unfolding marks_right
tells-right w l =
    tells_as
    (tells-and
    (tells-and
    (tells-and
    (tells_all (instructions w) (λ p. tells-place w l p (mark l p)))
    (tells_all (tables w) (λ i. tells-table w l i (mark l (table_node w i)))))
    (tells-eq (mark l (instructions w)) 2))
    (tells-eq (most l (instructions w)) (suc (greatest_depth w))))
    (λ h. record { places = h.0.0.0; tabled = h.0.0.1; ends = h.0.1; greatest = h.1 })
    (λ r. (((r.places, r.tabled), r.ends), r.greatest))

-- no mark is greater than the greatest
pub most-above : (l : List ℕ) (n t : ℕ) → t ≤ n → mark l t ≤ most l n
unfolding most
most-above l zero t h = let e : t ≡ 0 = omega arith in omega (arith, ap (mark l) e)
most-above l (suc n) t h = by (most-above l n t) (leb t n) refl
  where
    by : (t ≤ n → mark l t ≤ most l n) → (b : Bool) → leb t n ≡ b → mark l t ≤ max (most l n) (mark l (suc n))
    by below true e = omega (arith, below (leb-true t n e))
    by below false e = let q : t ≡ suc n = omega (arith, leb-false t n e) in omega (arith, ap (mark l) q)

-- some place has the greatest mark
pub most-there : (l : List ℕ) (n : ℕ) → (t : ℕ) × (t ≤ n) × (mark l t ≡ most l n)
unfolding most
most-there l zero = (0, omega arith, refl)
most-there l (suc n) = by (leb (most l n) (mark l (suc n))) refl (most-there l n)
  where
    by :
        (b : Bool)
        → leb (most l n) (mark l (suc n)) ≡ b
        → (t : ℕ) × (t ≤ n) × (mark l t ≡ most l n)
        → (t : ℕ) × (t ≤ suc n) × (mark l t ≡ max (most l n) (mark l (suc n)))
    by true e x = (suc n, omega arith, omega (arith, leb-true (most l n) (mark l (suc n)) e))
    by false e x = (x.0, omega (arith, x.1), omega (arith, leb-false (most l n) (mark l (suc n)) e, x.2))

-- each Switch names a table
abbrev pub TablesNamed : List ℕ → Type 0
TablesNamed w = (p : ℕ) → p < instructions w → flow_at w p ≡ table → a_at w p < tables w

-- the state of a run after n steps
record Kept (w l : List ℕ) (n : ℕ) (st : State) : Type 0 where
  inside : st.place ≤ instructions w
  depth : mark l st.place ≡ suc st.depth
  forth : min n (instructions w) ≤ st.place

module _ (w l : List ℕ) (A : Aims w) (N : TablesNamed w) (starts : mark l 0 ≡ 1)
    (P : (p : ℕ) → p < instructions w → (d : ℕ) → mark l p ≡ suc d → PlaceRight w l p d)
    (T : (i : ℕ) → i < tables w → (d : ℕ) → mark l (table_node w i) ≡ suc d → TableRight w l i d) where
  -- one step takes a place with its mark to the next with its mark
  pub right-next : (p d : ℕ) → p < instructions w → mark l p ≡ suc d → (way : ℕ) → mark l (next w way p) ≡ suc (after w p d)
  right-next p d h e =
      edge-next (λ t. mark l t ≡ suc (after w p d)) (λ t. mark l t ≡ suc (after w p d)) w p
      (edge-all (λ t. mark l t ≡ suc (after w p d)) (flow_at w p) w p (P p h d e).leads)
      (λ t g. g)
      (λ f g. row-all (λ t. mark l t ≡ suc (after w p d)) w (a_at w p) (T (a_at w p) (N p h f) (after w p d) g))

  -- a step keeps it
  kept_on : (n way : ℕ) (st : State) → Kept w l n st → Kept w l (suc n) (step_on w way st)
  unfolding step
  kept_on n way st k = by (ltb st.place (instructions w)) refl
    where
      by : (t : Bool) → ltb st.place (instructions w) ≡ t → Kept w l (suc n) (step_on w way st)
      by true e =
          let h = ltb-true st.place (instructions w) e in
          let a = A st.place h way in
          rw (goes-on w way st h)
          (record { inside = a.1; depth = right-next st.place st.depth h k.depth way; forth = omega (arith, k.forth, a.0) })
      by false e =
          let h = ltb-false st.place (instructions w) e in
          rw (stays w way st e) (record { inside = k.inside; depth = k.depth; forth = omega arith })

  -- every run is there after any number of steps
  kept : (ways : ℕ → ℕ) (n : ℕ) → Kept w l n (run w ways n)
  unfolding run
  kept ways zero = record { inside = omega arith; depth = starts; forth = omega arith }
  kept ways (suc n) = kept_on n (ways n) (run w ways n) (kept ways n)

  -- the mark of the place is the depth of the run
  pub mark-depth : (ways : ℕ → ℕ) (n : ℕ) → mark l (run w ways n).place ≡ suc (run w ways n).depth
  mark-depth ways n = (kept ways n).depth

  -- no run leaves the code
  pub place_inside : (ways : ℕ → ℕ) (n : ℕ) → (run w ways n).place ≤ instructions w
  place_inside ways n = (kept ways n).inside

  -- runs that meet have one depth
  pub right-agree : RunsAgree w
  right-agree ways ways' n m e = omega (arith, mark-depth ways n, mark-depth ways' m, ap (mark l) e)

  -- each step goes forward
  forward : (ways : ℕ → ℕ) (n : ℕ) → Running w ways n → (run w ways n).place < (run w ways (suc n)).place
  unfolding run step
  forward ways n h =
      let st = run w ways n in
      rw (goes-on w (ways n) st h) (A st.place h (ways n)).0

  -- every run goes right
  pub right-runs : mark l (instructions w) ≡ 2 → most l (instructions w) ≡ suc (greatest_depth w) → (ways : ℕ → ℕ) → RunsRight w ways
  right-runs end greatest ways = record {
    forward = forward ways;
    inside = place_inside ways;
    finds = λ n h. (P (run w ways n).place h (run w ways n).depth (mark-depth ways n)).finds;
    ends = ends;
    bounded = λ n. omega (arith, mark-depth ways n, most-above l (instructions w) (run w ways n).place (place_inside ways n));
  }
    where
      ends : run w ways (instructions w) ≡ record { place = instructions w; depth = 1 }
      ends =
          let st = run w ways (instructions w) in
          let k = kept ways (instructions w) in
          let p : st.place ≡ instructions w = omega arith in
          let d : st.depth ≡ 1 = omega (arith, k.depth, ap (mark l) p) in
          λ i. record { place = p i; depth = d i }

-- with marks that runs tell, the greatest depth is reached
pub right-depth : (w l : List ℕ) → Told w l → most l (instructions w) ≡ suc (greatest_depth w) → DepthReached w
right-depth w l T greatest =
    let g = most-there l (instructions w) in
    let x = T.places g.0 (greatest_depth w) g.1 (g.2 ∙ greatest) in
    record { ways = x.ways; steps = x.count; reached = ap (λ (st : State). st.depth) x.there }

-- Where a mark has no room in a word, the image is not well made: the depth at a place is at most the place, so the mark could only
-- be that of the end.
use Prim.Native.Nat.{ℕ, zero, suc, ◌+◌, ◌-◌, ◌≤◌}
use mathlib.Core.Path.{◌≡◌, refl, ap, subst}
use mathlib.Core.Bool.{Bool, true, false}
use mathlib.Core.List.{List}
use native.Mathlib.Omega.{arith}
use borrow.Author.Tests.{ltb-true}
use lib.Dec.{ltb}
use Rattle.lowering.proofs.RunsRight.{goes-on, stays}
use Rattle.lowering.specs.Words.{instructions, kind_at}
use Rattle.lowering.specs.Run.{State, step, step_on, run, next, pushes}
use Rattle.image_rule.specs.Marks.{mark, marks_there, marked, marks_right}
use Rattle.image_rule.proofs.Real.{Real}
use Rattle.image_rule.proofs.Told.{Aims, by-keeps, marked_start, marked-told}
use Rattle.image_rule.proofs.Right.{Right, TablesNamed, tells-right, right-next}
use Rattle.bytecode.proofs.TableLaws.{pushes-one}
use Rattle.image_depths.specs.Passing.{DeepAt}

-- no instruction pushes more than one
pushes-small : (w : List ℕ) (p : ℕ) → pushes w p ≤ 1
unfolding pushes
pushes-small w p = pushes-one (kind_at w p)

-- a step raises the depth by no more than the place
small-step : (w : List ℕ) → Aims w → (way : ℕ) (st : State) → st.depth ≤ st.place → (step_on w way st).depth ≤ (step_on w way st).place
unfolding step
small-step w A way st h = by (ltb st.place (instructions w)) refl
  where
    by : (b : Bool) → ltb st.place (instructions w) ≡ b → (step_on w way st).depth ≤ (step_on w way st).place
    by true e =
        let i = ltb-true st.place (instructions w) e in
        rw (goes-on w way st i) (omega (arith, h, (A st.place i way).0, pushes-small w st.place))
    by false e = rw (stays w way st e) h

-- so does a run
small-run : (w : List ℕ) → Aims w → (ways : ℕ → ℕ) (n : ℕ) → (run w ways n).depth ≤ (run w ways n).place
unfolding run
small-run w A ways zero = omega arith
small-run w A ways (suc n) = small-step w A (ways n) (run w ways n) (small-run w A ways n)

-- the depth at a place is at most the place
real-small : (w : List ℕ) → Aims w → (t d : ℕ) → Real w t d → d ≤ t
real-small w A t d x = subst (λ (st : State). st.depth ≤ st.place) x.there (small-run w A x.ways x.count)

-- later places lose no mark
marked-keeps : (w : List ℕ) (size p k j d : ℕ) → mark (marked w size p) j ≡ suc d → mark (marked w size (p + k)) j ≡ suc d
unfolding marked
marked-keeps w size p zero j d h = let e : p ≡ p + zero = omega arith in subst (λ (n : ℕ). mark (marked w size n) j ≡ suc d) e h
marked-keeps w size p (suc k) j d h =
    let e : suc (p + k) ≡ p + suc k = omega arith in
    subst (λ (n : ℕ). mark (marked w size n) j ≡ suc d) e
    (by-keeps (mark (marked w size (p + k)) (p + k)) w (p + k) (marked w size (p + k)) j d (marked-keeps w size p k j d h))

-- a mark too large for a word: the marks do not agree
pub deep-false : (w : List ℕ) → Aims w → TablesNamed w → instructions w ≤ 4294967295 → DeepAt w
    → marks_right w (marked w (marks_there w) (instructions w)) ≡ false
deep-false w A N b D = by (marks_right w l) refl
  where
    l : List ℕ
    l = marked w (marks_there w) (instructions w)

    absurdly : Right w (marked w (marks_there w) (instructions w)) → ⊥
    absurdly R =
        let p = D.place in
        let d = D.deep.depth in
        let x = (marked-told w A (marks_there w) p (omega arith) (omega (arith, D.inside))).places p d (omega (arith, D.inside))
        D.deep.there in
        let small = real-small w A p d x in
        let whole : p + (instructions w - p) ≡ instructions w = omega (arith, D.inside) in
        let there : mark l p ≡ suc d = subst (λ (n : ℕ). mark (marked w (marks_there w) n) p ≡ suc d) whole
        (marked-keeps w (marks_there w) p (instructions w - p) p d D.deep.there) in
        let a = A p D.inside 0 in
        let m = right-next w l A N (marked_start w (marks_there w) (instructions w) (omega arith)) R.places R.tabled p d
        D.inside there 0 in
        let few = pushes-small w p in
        let end : next w 0 p ≡ instructions w = omega (arith, a.0, a.1, small, D.deep.large, few, D.inside, b) in
        omega (arith, ap (mark l) end, m, R.ends, D.deep.large)

    by : (t : Bool) → marks_right w (marked w (marks_there w) (instructions w)) ≡ t
        → marks_right w (marked w (marks_there w) (instructions w)) ≡ false
    by true e = absurd (absurdly ((tells-right w (marked w (marks_there w) (instructions w))).yields e))
    by false e = e

-- Every run of a well typed program goes forward, finds what each instruction needs, and ends with one value. One invariant shows it:
-- after n steps the depth is the one that the code says for the place, and the place is at least n or the run has ended.
use Prim.Native.Nat.{ℕ, zero, suc, ◌+◌, ◌≤◌, ◌<◌, min}
use mathlib.Core.Path.{◌≡◌, refl, sym, ap, ◌∙◌, subst}
use mathlib.Core.Bool.{Bool, true, false}
use mathlib.Core.List.{List, [], ◌∷◌}
use native.Mathlib.Omega.{arith}
use native.Mathlib.Nat.{add-zero, add-suc, suc-add, zero-add}
use borrow.Author.Tests.{ltb-true, ltb-false, lt-ltb}
use lib.Dec.{ltb}
use lib.ListN.{length, get_or}
use Rattle.lowering.proofs.WholeLaws.{depth-end}
use Rattle.lowering.specs.Code.{Code, greatest}
use Rattle.lowering.specs.Program.{Program}
use Rattle.lowering.specs.Image.{words}
use Rattle.lowering.specs.Words.{instructions}
use Rattle.lowering.specs.Run as Run
use Rattle.lowering.specs.Run.{State, start, step, step_on, run, next}
use Rattle.lowering.specs.Demand3.{Running, RunsRight}
use Rattle.lowering.proofs.Effect.{Context, after}
use Rattle.lowering.proofs.Typed.{Goes, TypedAt, Typed, Starts}
use Rattle.lowering.proofs.Whole.{context_of, depth_at, WellTyped}
use Rattle.lowering.proofs.Tables.{TablesFit}
use Rattle.lowering.proofs.Decode.{no_ins, instructions-are, greatest-is}
use Rattle.lowering.proofs.EffectWords.{op_at, pops-are, pushes-are, needs-are, next-all}

-- what typed code says of the instruction at a place
pub typed_at : (X : Context) (A : ℕ → ℕ) (N b : ℕ) (c : Code) → Typed X A N b c → (p : ℕ) → p < length c
    → TypedAt X A N (b + p) (get_or c p no_ins)
typed_at X A N b [] t p h = omega arith
typed_at X A N b (i ∷ c) t zero h = subst (λ (n : ℕ). TypedAt X A N n i) (sym (add-zero b)) t.0
typed_at X A N b (i ∷ c) t (suc p) h =
    subst (λ (n : ℕ). TypedAt X A N n (get_or c p no_ins)) (suc-add b p ∙ sym (add-suc b p)) (typed_at X A N (suc b) c t.1 p (omega arith))

depth-inside : (c : Code) (p : ℕ) → p < length c → depth_at c p ≡ (get_or c p no_ins).depth
depth-inside [] p h = omega arith
depth-inside (i ∷ c) zero h = refl
depth-inside (i ∷ c) (suc p) h = depth-inside c p (omega arith)

depth-bounded : (c : Code) (p : ℕ) → depth_at c p ≤ greatest c
unfolding greatest
depth-bounded [] p = omega arith
depth-bounded (i ∷ c) zero = omega arith
depth-bounded (i ∷ c) (suc p) = omega (arith, depth-bounded c p)

depth-start : (c : Code) → Starts 0 1 c → depth_at c 0 ≡ 0
depth-start [] h = sym h
depth-start (i ∷ c) h = h

-- a step of a run, before and after its end
pub goes-on : (w : List ℕ) (way : ℕ) (st : State) → st.place < instructions w → step_on w way st ≡ step w way st
unfolding step_on
goes-on w way st h = rw (lt-ltb st.place (instructions w) h, step_on)

pub stays : (w : List ℕ) (way : ℕ) (st : State) → ltb st.place (instructions w) ≡ false → step_on w way st ≡ st
unfolding step_on
stays w way st h = rw (h, step_on)

-- the invariant
pub record Kept (r : Program) (n : ℕ) (st : State) : Type 0 where
  pub inside : st.place ≤ length r.code
  pub depth : st.depth ≡ depth_at r.code st.place
  pub forth : min n (length r.code) ≤ st.place

module _ (r : Program) (F : TablesFit r) (T : WellTyped r) where
  pub typed-there : (p : ℕ) → p < length r.code → TypedAt (context_of r) (depth_at r.code) (length r.code) p (get_or r.code p no_ins)
  typed-there p h =
      subst (λ (n : ℕ). TypedAt (context_of r) (depth_at r.code) (length r.code) n (get_or r.code p no_ins)) (zero-add p)
      (typed_at (context_of r) (depth_at r.code) (length r.code) 0 r.code T.typed p h)

  -- where the run goes from a place inside the code
  pub goes-there : (p : ℕ) → p < length r.code → (way : ℕ)
      → Goes (depth_at r.code) (length r.code) p (after (context_of r) (op_at r p) (get_or r.code p no_ins).depth)
      (next (words r) way p)
  goes-there p h way =
      let t = typed-there p h in
      next-all r F p h t.1
      (Goes (depth_at r.code) (length r.code) p (after (context_of r) (op_at r p) (get_or r.code p no_ins).depth)) t.2 way

  kept-start : Kept r 0 start
  kept-start = record { inside = omega arith; depth = sym (depth-start r.code T.starts); forth = omega arith }

  kept_step : (n way : ℕ) (st : State) → Kept r n st → st.place < length r.code → Kept r (suc n) (step (words r) way st)
  unfolding step
  kept_step n way st k h =
      let g = goes-there st.place h way in
      let t = typed-there st.place h in
      let e = pops-are r st.place h t.1 in
      let f = pushes-are r st.place h t.1 in
      let d : st.depth ≡ (get_or r.code st.place no_ins).depth = k.depth ∙ depth-inside r.code st.place h in
      record {
        inside = g.1;
        depth = omega arith;
        forth = omega arith;
      }

  kept_on : (n way : ℕ) (st : State) → Kept r n st → Kept r (suc n) (step_on (words r) way st)
  kept_on n way st k = by (ltb st.place (instructions (words r))) refl
    where
      by : (t : Bool) → ltb st.place (instructions (words r)) ≡ t → Kept r (suc n) (step_on (words r) way st)
      by true e =
          let h = ltb-true st.place (instructions (words r)) e in
          rw (goes-on (words r) way st h) (kept_step n way st k (subst (λ (m : ℕ). st.place < m) (instructions-are r) h))
      by false e =
          let h = ltb-false st.place (instructions (words r)) e in
          let l = instructions-are r in
          rw (stays (words r) way st e) (record { inside = k.inside; depth = k.depth; forth = omega arith })

  pub kept : (ways : ℕ → ℕ) (n : ℕ) → Kept r n (run (words r) ways n)
  unfolding run
  kept ways zero = kept-start
  kept ways (suc n) = kept_on n (ways n) (run (words r) ways n) (kept ways n)

  -- the depth at a place is the same in all runs
  pub runs-agree : (ways ways' : ℕ → ℕ) (n m : ℕ) → (run (words r) ways n).place ≡ (run (words r) ways' m).place
      → (run (words r) ways n).depth ≡ (run (words r) ways' m).depth
  runs-agree ways ways' n m e = (kept ways n).depth ∙ ap (depth_at r.code) e ∙ sym (kept ways' m).depth

  forward : (ways : ℕ → ℕ) (n : ℕ) → Running (words r) ways n → (run (words r) ways n).place < (run (words r) ways (suc n)).place
  unfolding run step
  forward ways n h =
      let st = run (words r) ways n in
      let g = goes-there st.place (subst (λ (m : ℕ). st.place < m) (instructions-are r) h) (ways n) in
      rw (goes-on (words r) (ways n) st h) g.0

  finds : (ways : ℕ → ℕ) (n : ℕ) → Running (words r) ways n
      → Run.needs (words r) (run (words r) ways n).place ≤ (run (words r) ways n).depth
  finds ways n h =
      let st = run (words r) ways n in
      let h' : st.place < length r.code = subst (λ (m : ℕ). st.place < m) (instructions-are r) h in
      let t = typed-there st.place h' in
      omega (arith, t.0, needs-are r st.place h' t.1, (kept ways n).depth, depth-inside r.code st.place h')

  ends : (ways : ℕ → ℕ) → run (words r) ways (instructions (words r)) ≡ record { place = instructions (words r); depth = 1 }
  ends ways =
      let st = run (words r) ways (instructions (words r)) in
      let k = kept ways (instructions (words r)) in
      let l = instructions-are r in
      let p : st.place ≡ instructions (words r) = omega arith in
      let d : st.depth ≡ 1 = k.depth ∙ ap (depth_at r.code) (p ∙ l) ∙ depth-end r.code in
      λ i. record { place = p i; depth = d i }

  pub runs-right : (ways : ℕ → ℕ) → RunsRight (words r) ways
  runs-right ways = record {
    forward = forward ways;
    inside = λ n. omega (arith, (kept ways n).inside, instructions-are r);
    finds = finds ways;
    ends = ends ways;
    bounded = λ n. omega (arith, (kept ways n).depth, depth-bounded r.code (run (words r) ways n).place, greatest-is r);
  }

-- Some run reaches the greatest depth: every place is reached by some run, and the greatest depth is that of a place.
use Prim.Native.Nat.{ℕ, zero, suc, ◌+◌, ◌≤◌, ◌<◌, max}
use mathlib.Core.Path.{◌≡◌, refl, sym, ap, ◌∙◌, subst}
use mathlib.Core.Bool.{Bool, true, false}
use mathlib.Core.List.{List, [], ◌∷◌}
use native.Mathlib.Omega.{arith}
use native.Mathlib.Nat.{add-zero, add-suc, suc-add, zero-add}
use borrow.Author.Tests.{leb-true, leb-false, ltb-true, ltb-false, eq-eqb, ne_eqb}
use lib.Dec.{eqb, leb, ltb}
use lib.ListN.{length, get_or}
use Rattle.lowering.specs.Code.{Code, greatest}
use Rattle.lowering.specs.Program.{Program}
use Rattle.lowering.specs.Image.{words}
use Rattle.lowering.specs.Words.{instructions}
use Rattle.lowering.specs.Run.{State, step, step_on, run, next}
use Rattle.lowering.specs.Demand3.{DepthReached}
use Rattle.lowering.specs.All.{All}
use Rattle.lowering.proofs.Effect.{Context, nexts}
use Rattle.lowering.proofs.Linked.{Closed, Reached}
use Rattle.lowering.proofs.Whole.{context_of, depth_at, WellTyped, AllReached}
use Rattle.lowering.proofs.Tables.{TablesFit}
use Rattle.lowering.proofs.Decode.{no_ins, instructions-are, greatest-is}
use Rattle.lowering.proofs.EffectWords.{op_at, all-next}
use Rattle.lowering.proofs.RunsRight.{goes-on, typed-there, kept, runs-right}

-- the same ways, but the n-th is `way`
unfoldable pub going_at : ℕ → ℕ → (ℕ → ℕ) → ℕ → ℕ
going_at n way ways m = elim (eqb m n) [ true ↦ way | false ↦ ways m ]

going-there : (n way : ℕ) (ways : ℕ → ℕ) → going_at n way ways n ≡ way
unfolding going_at
going-there n way ways = rw (eq-eqb n n refl, going_at)

going_before : (n way : ℕ) (ways : ℕ → ℕ) (m : ℕ) → m < n → going_at n way ways m ≡ ways m
unfolding going_at
going_before n way ways m h = rw (ne_eqb m n (λ e. omega arith), going_at)

-- a run of n steps depends on the first n ways alone
pub same-run : (w : List ℕ) (ways ways' : ℕ → ℕ) (n : ℕ) → ((m : ℕ) → m < n → ways m ≡ ways' m) → run w ways n ≡ run w ways' n
unfolding run
same-run w ways ways' zero h = refl
same-run w ways ways' (suc n) h =
    ap (λ (way : ℕ). step_on w way (run w ways n)) (h n (omega arith))
    ∙ ap (step_on w (ways' n)) (same-run w ways ways' n (λ m g. h m (omega arith)))

-- some run stands at the place after some steps
pub record Stands (w : List ℕ) (p : ℕ) : Type 0 where
  pub ways : ℕ → ℕ
  pub steps : ℕ
  pub there : (run w ways steps).place ≡ p

stands-start : (w : List ℕ) → Stands w 0
unfolding run
stands-start w = record { ways = λ n. 0; steps = 0; there = refl }

-- from a place where a run stands, it can go any way
stands-next : (w : List ℕ) (p way : ℕ) → p < instructions w → Stands w p → Stands w (next w way p)
unfolding run step
stands-next w p way h t =
    let n = t.steps in
    let ways' = going_at n way t.ways in
    let same = same-run w ways' t.ways n (going_before n way t.ways) in
    let st = run w t.ways n in
    let h' : st.place < instructions w = subst (λ (q : ℕ). q < instructions w) (sym t.there) h in
    record {
      ways = ways';
      steps = suc n;
      there =
          ap (λ (x : State). (step_on w (ways' n) x).place) same
          ∙ ap (λ (k : ℕ). (step_on w k st).place) (going-there n way t.ways)
          ∙ ap (λ (x : State). x.place) (goes-on w way st h')
          ∙ ap (next w way) t.there;
    }

-- closed code and reached code, place by place
closed-from : (X : Context) (R : ℕ → Type 0) (b : ℕ) (c : Code)
    → ((p : ℕ) → p < length c → R (b + p) → All R (nexts X (get_or c p no_ins).op (b + p))) → Closed X R b c
closed-from X R b [] f = tt
closed-from X R b (i ∷ c) f = (
  subst (λ (n : ℕ). R n → All R (nexts X i.op n)) (add-zero b) (f 0 (omega arith)),
  closed-from X R (suc b) c
      (λ p h. subst (λ (n : ℕ). R n → All R (nexts X (get_or c p no_ins).op n)) (add-suc b p ∙ sym (suc-add b p)) (f (suc p) (omega arith))),
)

reached-at : (R : ℕ → Type 0) (b : ℕ) (c : Code) → Reached R b c → (p : ℕ) → p < length c → R (b + p)
reached-at R b [] h p g = absurd (omega arith)
reached-at R b (i ∷ c) h zero g = subst R (sym (add-zero b)) h.0
reached-at R b (i ∷ c) h (suc p) g = subst R (suc-add b p ∙ sym (add-suc b p)) (reached-at R (suc b) c h.1 p (omega arith))

-- the greatest depth is that of some place, or of the end
greatest-there : (c : Code) → (p : ℕ) × (p ≤ length c) × (depth_at c p ≡ greatest c)
unfolding greatest
greatest-there [] = (0, omega arith, refl)
greatest-there (i ∷ c) = by (leb (greatest c) i.depth) refl (greatest-there c)
  where
    by : (t : Bool) → leb (greatest c) i.depth ≡ t → (p : ℕ) × (p ≤ length c) × (depth_at c p ≡ greatest c)
        → (p : ℕ) × (p ≤ suc (length c)) × (depth_at (i ∷ c) p ≡ max i.depth (greatest c))
    by true e x = (0, omega arith, omega (arith, leb-true (greatest c) i.depth e))
    by false e x = (suc x.0, omega (arith, x.1), omega (arith, leb-false (greatest c) i.depth e, x.2))

module _ (r : Program) (F : TablesFit r) (T : WellTyped r) (A : AllReached r) where
  closed : Closed (context_of r) (Stands (words r)) 0 r.code
  closed =
      closed-from (context_of r) (Stands (words r)) 0 r.code
      (λ p h. subst (λ (n : ℕ). Stands (words r) n → All (Stands (words r)) (nexts (context_of r) (op_at r p) n)) (sym (zero-add p))
      (here p h))
    where
      here : (p : ℕ) → p < length r.code → Stands (words r) p → All (Stands (words r)) (nexts (context_of r) (op_at r p) p)
      here p h t =
          all-next r F p h (typed-there r F T p h).1 (Stands (words r))
          (λ way. stands-next (words r) p way (omega (arith, instructions-are r)) t)

  -- each place is reached by some run
  stands_at : (p : ℕ) → p < length r.code → Stands (words r) p
  stands_at p h =
      subst (Stands (words r)) (zero-add p)
      (reached-at (Stands (words r)) 0 r.code (A.reached (Stands (words r)) closed (stands-start (words r))) p h)

  -- the end is reached by each
  stands-end : Stands (words r) (length r.code)
  stands-end = record {
    ways = λ n. 0;
    steps = instructions (words r);
    there = ap (λ (x : State). x.place) (runs-right r F T (λ n. 0)).ends ∙ instructions-are r;
  }

  stands-within : (p : ℕ) → p ≤ length r.code → Stands (words r) p
  stands-within p h = by (ltb p (length r.code)) refl
    where
      by : (t : Bool) → ltb p (length r.code) ≡ t → Stands (words r) p
      by true e = stands_at p (ltb-true p (length r.code) e)
      by false e =
          let e' : length r.code ≡ p = omega (arith, ltb-false p (length r.code) e) in
          subst (Stands (words r)) e' stands-end

  pub depth-reached : DepthReached (words r)
  depth-reached =
      let g = greatest-there r.code in
      let t = stands-within g.0 g.1 in
      record {
        ways = t.ways;
        steps = t.steps;
        reached = (kept r F T t.ways t.steps).depth ∙ ap (depth_at r.code) t.there ∙ g.2 ∙ sym (greatest-is r);
      }

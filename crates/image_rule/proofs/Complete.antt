-- Where all runs agree, find what they need, and go forward, the marks of the pass agree everywhere.
use Prim.Native.Nat.{ℕ, zero, suc, ◌+◌, ◌≤◌, ◌<◌}
use mathlib.Core.Path.{◌≡◌, refl, sym, ap, ◌∙◌, subst}
use mathlib.Core.Bool.{Bool, true, false}
use mathlib.Core.List.{List}
use native.Mathlib.Omega.{arith}
use borrow.Author.Tests.{ltb-true, ltb-false, eqb-false}
use lib.Dec.{eqb, ltb}
use lib.ListN.{length, length-set, length-replicate}
use Rattle.zeros.specs.Zeros.{zeros}
use Rattle.bytecode.specs.Effect.{Flow, on, jump, branch, table}
use Rattle.lowering.specs.Words.{instructions, greatest_depth, a_at, switch_word}
use Rattle.lowering.specs.Run.{State, run, goes_to, needs, table_target}
use Rattle.lowering.specs.Demand3.{RunsRight, DepthReached}
use Rattle.image_rule.specs.Rules.{tables}
use Rattle.image_rule.specs.WellMade.{RunsAgree}
use Rattle.image_rule.specs.Marks.{mark, table_node, flow_at, after, edges, edge, come, comes, enter, opened, hand_on, pass_by, marked}
use Rattle.image_rule.proofs.Real.{Real, real-next}
use Rattle.image_rule.proofs.ComeLaws.{Came, kept, new, came, come-else, come-keeps, come-there, come-length}
use Rattle.image_rule.proofs.EdgeLaws.{next-by}
use Rattle.image_rule.proofs.Told.{Told, Aims, told-place, told-table, start-else, start-told, marked_start}
use Rattle.image_rule.proofs.Right.{PlaceRight, TableRight, Right, TablesNamed, most-above, most-there, mark-depth, place_inside}

-- a place whose marks agree still has marks that agree after one more mark
place-keeps : (w l : List ℕ) (m t q e : ℕ) → PlaceRight w l q e → PlaceRight w (come m l t) q e
place-keeps w l m t q e x = record {
  finds = x.finds;
  leads = λ way h. come-keeps m l t (edge (flow_at w q) w q way) (after w q e) (x.leads way h);
}

-- the same for a table
table-keeps : (w l : List ℕ) (m t i e : ℕ) → TableRight w l i e → TableRight w (come m l t) i e
table-keeps w l m t i e x r h = come-keeps m l t (table_target w i r) e (x r h)

-- the marks after the places below p
record Fine (w l : List ℕ) (p : ℕ) : Type 0 where
  told : Told w l
  long : instructions w + 1 + tables w ≤ length l
  before : (q : ℕ) → q < p → (e : ℕ) → mark l q ≡ suc e → PlaceRight w l q e
  tabled : (i : ℕ) → i < tables w → (e : ℕ) → mark l (table_node w i) ≡ suc e → TableRight w l i e

module _ (w : List ℕ) (A : Aims w) (N : TablesNamed w) (G : RunsAgree w) (R : (ways : ℕ → ℕ) → RunsRight w ways) where
  -- all runs that come to a place come with one depth
  real-agree : (t d e : ℕ) → Real w t d → Real w t e → d ≡ e
  real-agree t d e x y =
      sym (ap (λ (st : State). st.depth) x.there)
      ∙ G x.ways y.ways x.count y.count
      (ap (λ (st : State). st.place) x.there ∙ sym (ap (λ (st : State). st.place) y.there))
      ∙ ap (λ (st : State). st.depth) y.there

  -- a run that comes to a place finds there what the instruction takes
  real-finds : (p d : ℕ) → p < instructions w → Real w p d → needs w p ≤ d
  real-finds p d h x =
      subst (λ (st : State). needs w st.place ≤ st.depth) x.there
      ((R x.ways).finds x.count (subst (λ (st : State). st.place < instructions w) (sym x.there) h))

  -- coming forward to a place that a run comes to keeps all
  fine-place : (l : List ℕ) (p t e : ℕ) → p ≤ t → t ≤ instructions w → Real w t e → Fine w l p → Fine w (come (suc e) l t) p
  fine-place l p t e b h x F = record {
    told = told-place w l t e h x F.told;
    long = omega (arith, F.long, come-length (suc e) l t);
    before = λ q c d g.
        place-keeps w l (suc e) t q d (F.before q c d (sym (come-else (suc e) l t q (λ z. omega arith)) ∙ g));
    tabled = λ i c d g.
        table-keeps w l (suc e) t i d (F.tabled i c d (sym (come-else (suc e) l t (table_node w i) (λ z. omega arith)) ∙ g));
  }

  -- and the mark there is the depth of that run
  place-there : (l : List ℕ) (p t e : ℕ) → t ≤ instructions w → Real w t e → Fine w l p → mark (come (suc e) l t) t ≡ suc e
  place-there l p t e h x F =
      come-there l t e (omega (arith, F.long)) (λ d g. real-agree t d e (F.told.places t d h g) x)

  -- a table's mark, once its rows have theirs
  fine-table :
      (l : List ℕ) (p i e : ℕ)
      → p ≤ instructions w
      → i < tables w
      → ((r : ℕ) → Real w (table_target w i r) e)
      → (mark l (table_node w i) ≡ 0 → TableRight w l i e)
      → Fine w l p
      → Fine w (come (suc e) l (table_node w i)) p
  fine-table l p i e h c x y F = record {
    told = told-table w l i e x F.told;
    long = omega (arith, F.long, come-length (suc e) l (table_node w i));
    before = λ q b d g.
        place-keeps w l (suc e) (table_node w i) q d (F.before q b d (sym (come-else (suc e) l (table_node w i) q (λ z. omega arith)) ∙ g));
    tabled = λ j b d g. table-keeps w l (suc e) (table_node w i) j d (by j b d g (came (suc e) l (table_node w i) (table_node w j)));
  }
    where
      by :
          (j : ℕ)
          → j < tables w
          → (d : ℕ) → mark (come (suc e) l (table_node w i)) (table_node w j) ≡ suc d
          → Came (suc e) l (table_node w i) (table_node w j)
          → TableRight w l j d
      by j b d g (kept q) = F.tabled j b d (sym q ∙ g)
      by j b d g (new q z f) =
          let same : i ≡ j = omega arith in
          let deep : e ≡ d = omega arith in
          subst (λ (k : ℕ). TableRight w l k d) same (subst (TableRight w l i) deep (y (ap (mark l) (sym q) ∙ z)))

  -- the mark of a table is the depth of the runs that come to its rows
  table-there :
      (l : List ℕ) (p i e : ℕ)
      → i < tables w
      → ((r : ℕ) → Real w (table_target w i r) e)
      → Fine w l p
      → mark (come (suc e) l (table_node w i)) (table_node w i) ≡ suc e
  table-there l p i e c x F =
      come-there l (table_node w i) e (omega (arith, F.long))
      (λ d g. real-agree (table_target w i 0) d e (F.told.tables i d g 0) (x 0))

  -- coming to several places
  record Came-to (l : List ℕ) (p d e k : ℕ) (f : ℕ → ℕ) : Type 0 where
    fine : Fine w l p
    here : mark l p ≡ suc d
    there : (r : ℕ) → r < k → mark l (f r) ≡ suc e

  -- each of the k places has its mark, and nothing is lost
  came-to :
      (l : List ℕ) (p d e k : ℕ) (f : ℕ → ℕ)
      → ((r : ℕ) → (p < f r) × (f r ≤ instructions w) × Real w (f r) e)
      → Fine w l p
      → mark l p ≡ suc d
      → Came-to (comes (suc e) f k l) p d e k f
  unfolding comes
  came-to l p d e zero f x F h = record { fine = F; here = h; there = λ r b. absurd (omega arith) }
  came-to l p d e (suc k) f x F h = more (came-to l p d e k f x F h)
    where
      more : Came-to (comes (suc e) f k l) p d e k f → Came-to (come (suc e) (comes (suc e) f k l) (f k)) p d e (suc k) f
      more c =
          let y = comes (suc e) f k l in
          let a = x k in
          record {
            fine = fine-place y p (f k) e (omega (arith, a.0)) a.1 a.2 c.fine;
            here = come-keeps (suc e) y (f k) p d c.here;
            there = λ r b. by r b (ltb r k) refl;
          }
        where
          by : (r : ℕ) → r < suc k → (t : Bool) → ltb r k ≡ t → mark (come (suc e) (comes (suc e) f k l) (f k)) (f r) ≡ suc e
          by r b true q = come-keeps (suc e) (comes (suc e) f k l) (f k) (f r) e (c.there r (ltb-true r k q))
          by r b false q =
              let same : k ≡ r = omega (arith, ltb-false r k q) in
              subst (λ (s : ℕ). mark (come (suc e) (comes (suc e) f k l) (f k)) (f s) ≡ suc e) same
              (place-there (comes (suc e) f k l) p (f k) e (x k).1 (x k).2 c.fine)

  module _ (p d : ℕ) (h : p < instructions w) (x : Real w p d) where
    -- the targets of a place lie behind it, inside, and runs come there
    targets :
        (F : Flow)
        → flow_at w p ≡ F
        → (way : ℕ)
        → (p < goes_to F w way p) × (goes_to F w way p ≤ instructions w) × Real w (goes_to F w way p) (after w p d)
    targets F e way =
        subst (λ (t : ℕ). (p < t) × (t ≤ instructions w) × Real w t (after w p d)) (next-by w p F e way)
        ((A p h way).0, (A p h way).1, real-next w p d way h x)

    -- handing on by the flow comes to each of its edges
    came-hand :
        (F : Flow)
        → flow_at w p ≡ F
        → (l : List ℕ) → Fine w l p
        → mark l p ≡ suc d
        → Came-to (hand_on F w p (suc (after w p d)) l) p d (after w p d) (edges F) (edge F w p)
    unfolding hand_on edge edges opened comes goes_to enter
    came-hand on e l K m = came-to l p d (after w p d) 1 (edge on w p) (targets on e) K m
    came-hand jump e l K m = came-to l p d (after w p d) 1 (edge jump w p) (targets jump e) K m
    came-hand branch e l K m = came-to l p d (after w p d) 2 (edge branch w p) (targets branch e) K m
    came-hand table e l K m = by (eqb (mark l (table_node w i)) 0) refl
      where
        i : ℕ
        i = a_at w p

        rows : (r : ℕ) → Real w (table_target w (a_at w p) r) (after w p d)
        rows r = (targets table e r).2

        last :
            (y : List ℕ)
            → Fine w y p
            → mark y p ≡ suc d
            → (mark y (table_node w (a_at w p)) ≡ 0 → TableRight w y (a_at w p) (after w p d))
            → Came-to (come (suc (after w p d)) y (table_node w (a_at w p))) p d (after w p d) 1 (edge table w p)
        last y F g full = record {
          fine = fine-table y p (a_at w p) (after w p d) (omega arith) (N p h e) rows full F;
          here = come-keeps (suc (after w p d)) y (table_node w (a_at w p)) p d g;
          there = λ r b. table-there y p (a_at w p) (after w p d) (N p h e) rows F;
        }

        by :
            (b : Bool)
            → eqb (mark l (table_node w (a_at w p))) 0 ≡ b
            → Came-to (come (suc (after w p d)) (enter w (a_at w p) (suc (after w p d)) l) (table_node w (a_at w p)))
            p d (after w p d) 1 (edge table w p)
        by true z =
            let n = suc (switch_word w (a_at w p) 2) in
            let c = came-to l p d (after w p d) n (table_target w (a_at w p)) (targets table e) K m in
            let y = comes (suc (after w p d)) (table_target w (a_at w p)) n l in
            rw (z, enter) (last y c.fine c.here (λ q. c.there))
        by false z = rw (z, enter) (last l K m (λ q. absurd (eqb-false (mark l (table_node w (a_at w p))) 0 z q)))

  -- the step of the pass at p, by the mark there
  fine-by : (p : ℕ) → p < instructions w → (l : List ℕ) → Fine w l p → (m : ℕ) → mark l p ≡ m → Fine w (pass_by m w p l) (suc p)
  unfolding pass_by
  fine-by p h l F zero e = record { told = F.told; long = F.long; before = λ q b d g. by q b d g (ltb q p) refl; tabled = F.tabled }
    where
      by : (q : ℕ) → q < suc p → (d : ℕ) → mark l q ≡ suc d → (t : Bool) → ltb q p ≡ t → PlaceRight w l q d
      by q b d g true z = F.before q (ltb-true q p z) d g
      by q b d g false z =
          let same : q ≡ p = omega (arith, ltb-false q p z) in
          absurd (omega (arith, ap (mark l) same, e, g))
  fine-by p h l F (suc d) e = done (came-hand p d h (F.told.places p d (omega arith) e) (flow_at w p) refl l F e)
    where
      l' : List ℕ
      l' = hand_on (flow_at w p) w p (suc (after w p d)) l

      done :
          Came-to (hand_on (flow_at w p) w p (suc (after w p d)) l) p d (after w p d) (edges (flow_at w p)) (edge (flow_at w p) w p)
          → Fine w (hand_on (flow_at w p) w p (suc (after w p d)) l) (suc p)
      done c = record {
        told = c.fine.told;
        long = c.fine.long;
        before = λ q b k g. by q b k g (ltb q p) refl;
        tabled = c.fine.tabled;
      }
        where
          by : (q : ℕ) → q < suc p → (k : ℕ) → mark l' q ≡ suc k → (t : Bool) → ltb q p ≡ t → PlaceRight w l' q k
          by q b k g true z = c.fine.before q (ltb-true q p z) k g
          by q b k g false z =
              let same : p ≡ q = omega (arith, ltb-false q p z) in
              let deep : d ≡ k = omega (arith, ap (mark l') same, c.here, g) in
              subst (λ (j : ℕ). PlaceRight w l' j k) same
              (subst (PlaceRight w l' p) deep
              (record { finds = real-finds p d h (F.told.places p d (omega arith) e); leads = c.there }))

  -- the marks after the places below p
  fine-marked : (size p : ℕ) → instructions w + 1 + tables w ≤ size → p ≤ instructions w → Fine w (marked w size p) p
  unfolding marked
  fine-marked size zero z h = record {
    told = start-told w size (omega arith);
    long = omega (arith, length-set (zeros size) 0 1, length-replicate {A = ℕ} size 0);
    before = λ q b. absurd (omega arith);
    tabled = λ i b d g. absurd (omega (arith, start-else w size (table_node w i) (λ e. omega arith)));
  }
  fine-marked size (suc p) z h = fine-by p h (marked w size p) (fine-marked size p z (omega arith)) (mark (marked w size p) p) refl

  -- the marks of the pass over the whole code
  pub marks-right : DepthReached w → (size : ℕ) → instructions w + 1 + tables w ≤ size → Right w (marked w size (instructions w))
  marks-right D size z = record {
    places = F.before;
    tabled = F.tabled;
    ends =
        ap (λ (st : State). mark l st.place) (sym end)
        ∙ there (λ n. 0) (instructions w)
        ∙ ap (λ (st : State). suc st.depth) end;
    greatest =
        let top = most-there l (instructions w) in
        let inside = place_inside w l A N starts F.before F.tabled D.ways D.steps in
        let low = most-above l (instructions w) (run w D.ways D.steps).place inside in
        omega (arith, low, there D.ways D.steps, D.reached, top.2, bound (mark l top.0) refl);
  }
    where
      l : List ℕ
      l = marked w size (instructions w)

      F : Fine w (marked w size (instructions w)) (instructions w)
      F = fine-marked size (instructions w) z (omega arith)

      starts : mark (marked w size (instructions w)) 0 ≡ 1
      starts = marked_start w size (instructions w) (omega arith)

      there : (ways : ℕ → ℕ) (n : ℕ) → mark (marked w size (instructions w)) (run w ways n).place ≡ suc (run w ways n).depth
      there = mark-depth w (marked w size (instructions w)) A N starts F.before F.tabled

      end : run w (λ n. 0) (instructions w) ≡ record { place = instructions w; depth = 1 }
      end = (R (λ n. 0)).ends

      bound :
          (m : ℕ)
          → mark (marked w size (instructions w)) (most-there (marked w size (instructions w)) (instructions w)).0 ≡ m
          → m ≤ suc (greatest_depth w)
      bound zero e = omega arith
      bound (suc d) e =
          let top = most-there (marked w size (instructions w)) (instructions w) in
          let x = F.told.places top.0 d top.1 e in
          omega (arith, (R x.ways).bounded x.count, ap (λ (st : State). st.depth) x.there)

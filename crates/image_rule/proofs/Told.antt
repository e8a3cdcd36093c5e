-- Each mark is told by a run: where the mark of a place is d + 1, some run comes there with depth d; where the mark of a table is d + 1,
-- some run comes with depth d to each of its targets.
use Prim.Native.Nat.{ℕ, zero, suc, ◌≤◌, ◌<◌}
use mathlib.Core.Path.{◌≡◌, refl, sym, ◌∙◌, subst}
use mathlib.Core.Bool.{Bool, true, false}
use mathlib.Core.List.{List}
use native.Mathlib.Omega.{arith}
use lib.Dec.{eqb}
use lib.ListN.{replicate, length-replicate}
use lib.Seq.{get_or-set_same, get_or-set_other}
use Rattle.bytecode.specs.Effect.{Flow, on, jump, branch, table}
use Rattle.lowering.specs.Words.{instructions, a_at, switch_word}
use Rattle.lowering.specs.Run.{next, goes_to, table_target}
use Rattle.image_rule.specs.Marks.{mark, table_node, flow_at, after, edges, edge, come, comes, enter, opened, hand_on, pass_by, marked}
use Rattle.image_rule.proofs.Real.{Real, real-start, real-next}
use Rattle.image_rule.proofs.ComeLaws.{Came, kept, new, came, come-keeps, comes-keep}
use Rattle.image_rule.proofs.EdgeLaws.{next-by, next-table}

-- l has marks that runs tell
pub record Told (w l : List ℕ) : Type 0 where
  pub places : (t d : ℕ) → t ≤ instructions w → mark l t ≡ suc d → Real w t d
  pub tables : (i d : ℕ) → mark l (table_node w i) ≡ suc d → (r : ℕ) → Real w (table_target w i r) d

-- targets go forward, and at most to the end
abbrev pub Aims : List ℕ → Type 0
Aims w = (p : ℕ) → p < instructions w → (way : ℕ) → (p < next w way p) × (next w way p ≤ instructions w)

same-suc : (a b : ℕ) → suc a ≡ suc b → a ≡ b
same-suc a b e = omega arith

-- a mark for a place that a run comes to is told
pub told-place : (w l : List ℕ) (t d : ℕ) → t ≤ instructions w → Real w t d → Told w l → Told w (come (suc d) l t)
told-place w l t d h x T = record {
  places = λ u e b g. place u e b g (came (suc d) l t u);
  tables = λ i e g. at_table i e g (came (suc d) l t (table_node w i));
}
  where
    place : (u e : ℕ) → u ≤ instructions w → mark (come (suc d) l t) u ≡ suc e → Came (suc d) l t u → Real w u e
    place u e b g (kept q) = T.places u e b (sym q ∙ g)
    place u e b g (new q z f) = subst (λ (v : ℕ). Real w v e) (sym q) (subst (Real w t) (same-suc d e (sym f ∙ g)) x)

    at_table :
        (i e : ℕ)
        → mark (come (suc d) l t) (table_node w i) ≡ suc e
        → Came (suc d) l t (table_node w i)
        → (r : ℕ) → Real w (table_target w i r) e
    at_table i e g (kept q) = T.tables i e (sym q ∙ g)
    at_table i e g (new q z f) = absurd (omega arith)

-- a mark for a table is told where runs come to all of its targets
pub told-table : (w l : List ℕ) (i d : ℕ) → ((r : ℕ) → Real w (table_target w i r) d) → Told w l → Told w (come (suc d) l (table_node w i))
told-table w l i d x T = record {
  places = λ u e b g. place u e b g (came (suc d) l (table_node w i) u);
  tables = λ j e g. at_table j e g (came (suc d) l (table_node w i) (table_node w j));
}
  where
    place : (u e : ℕ) → u ≤ instructions w → mark (come (suc d) l (table_node w i)) u ≡ suc e → Came (suc d) l (table_node w i) u → Real w u e
    place u e b g (kept q) = T.places u e b (sym q ∙ g)
    place u e b g (new q z f) = absurd (omega arith)

    at_table :
        (j e : ℕ)
        → mark (come (suc d) l (table_node w i)) (table_node w j) ≡ suc e
        → Came (suc d) l (table_node w i) (table_node w j)
        → (r : ℕ) → Real w (table_target w j r) e
    at_table j e g (kept q) r = T.tables j e (sym q ∙ g) r
    at_table j e g (new q z f) r =
        let same : i ≡ j = omega arith in
        subst (λ (k : ℕ). Real w (table_target w k r) e) same (subst (Real w (table_target w i r)) (same-suc d e (sym f ∙ g)) (x r))

-- no mark in a list of zeros
zeros : (n j : ℕ) → mark (replicate n 0) j ≡ 0
zeros zero j = refl
zeros (suc n) zero = refl
zeros (suc n) (suc j) = zeros n j

-- at the start only place 0 has a mark
start-there : (w : List ℕ) (size : ℕ) → 0 < size → mark (marked w size 0) 0 ≡ 1
unfolding marked
start-there w size h = get_or-set_same (replicate size 0) 0 1 0 (subst (λ (n : ℕ). 0 < n) (sym (length-replicate size 0)) h)

pub start-else : (w : List ℕ) (size j : ℕ) → (j ≡ 0 → ⊥) → mark (marked w size 0) j ≡ 0
unfolding marked
start-else w size j h = get_or-set_other (replicate size 0) 0 j 1 0 h ∙ zeros size j

-- that mark is told by the start of a run
pub start-told : (w : List ℕ) (size : ℕ) → 0 < size → Told w (marked w size 0)
start-told w size h = record {
  places = λ t d b g. by t d g;
  tables = λ i d g. absurd (omega (arith, start-else w size (table_node w i) (λ e. omega arith)));
}
  where
    by : (t d : ℕ) → mark (marked w size 0) t ≡ suc d → Real w t d
    by zero d g = subst (Real w 0) (same-suc 0 d (sym (start-there w size h) ∙ g)) (real-start w)
    by (suc t) d g = absurd (omega (arith, start-else w size (suc t) (λ e. omega arith)))

-- no mark is lost
enter-keeps : (w : List ℕ) (i m : ℕ) (l : List ℕ) (j d : ℕ) → mark l j ≡ suc d → mark (enter w i m l) j ≡ suc d
unfolding enter
enter-keeps w i m l j d h = by (eqb (mark l (table_node w i)) 0) refl
  where
    by : (b : Bool) → eqb (mark l (table_node w i)) 0 ≡ b → mark (enter w i m l) j ≡ suc d
    by true g =
        rw (g, enter)
        (comes-keep (λ x. mark x j ≡ suc d) m (table_target w i) (suc (switch_word w i 2))
        (λ r b x k. come-keeps m x (table_target w i r) j d k) l h)
    by false g = rw (g, enter) h

opened-keeps : (F : Flow) (w : List ℕ) (p m : ℕ) (l : List ℕ) (j d : ℕ) → mark l j ≡ suc d → mark (opened F w p m l) j ≡ suc d
unfolding opened
opened-keeps on w p m l j d h = h
opened-keeps jump w p m l j d h = h
opened-keeps branch w p m l j d h = h
opened-keeps table w p m l j d h = enter-keeps w (a_at w p) m l j d h

-- the step of the pass loses no mark
pub by-keeps : (n : ℕ) (w : List ℕ) (p : ℕ) (l : List ℕ) (j d : ℕ) → mark l j ≡ suc d → mark (pass_by n w p l) j ≡ suc d
unfolding pass_by hand_on
by-keeps zero w p l j d h = h
by-keeps (suc n) w p l j d h =
    let m = suc (after w p n) in
    let F = flow_at w p in
    comes-keep (λ x. mark x j ≡ suc d) m (edge F w p) (edges F)
    (λ r b x k. come-keeps m x (edge F w p r) j d k) (opened F w p m l)
    (opened-keeps F w p m l j d h)

-- place 0 keeps its mark to the end
pub marked_start : (w : List ℕ) (size p : ℕ) → 0 < size → mark (marked w size p) 0 ≡ 1
unfolding marked
marked_start w size zero h = start-there w size h
marked_start w size (suc p) h = by-keeps (mark (marked w size p) p) w p (marked w size p) 0 0 (marked_start w size p h)

module _ (w : List ℕ) (A : Aims w) where
  -- from a place that a run comes to
  module _ (p d : ℕ) (h : p < instructions w) (x : Real w p d) where
    -- a mark where a run goes next
    on-next : (l : List ℕ) (way : ℕ) → Told w l → Told w (come (suc (after w p d)) l (next w way p))
    on-next l way T = told-place w l (next w way p) (after w p d) (A p h way).1 (real-next w p d way h x) T

    -- runs come to all targets of the table that p names
    rows-real : flow_at w p ≡ table → (r : ℕ) → Real w (table_target w (a_at w p) r) (after w p d)
    rows-real e r = subst (λ (t : ℕ). Real w t (after w p d)) (next-table w p e r) (real-next w p d r h x)

    -- the marks of its rows are told
    told-enter : flow_at w p ≡ table → (l : List ℕ) → Told w l → Told w (enter w (a_at w p) (suc (after w p d)) l)
    unfolding enter
    told-enter e l T = by (eqb (mark l (table_node w (a_at w p))) 0) refl
      where
        by : (b : Bool) → eqb (mark l (table_node w (a_at w p))) 0 ≡ b → Told w (enter w (a_at w p) (suc (after w p d)) l)
        by true g =
            rw (g, enter)
            (comes-keep (Told w) (suc (after w p d)) (table_target w (a_at w p)) (suc (switch_word w (a_at w p) 2))
            (λ r b y T'. subst (λ (t : ℕ). Told w (come (suc (after w p d)) y t)) (next-table w p e r) (on-next y r T')) l T)
        by false g = rw (g, enter) T

    -- what the place hands on is told, whatever its flow
    told-hand : (F : Flow) → flow_at w p ≡ F → (l : List ℕ) → Told w l → Told w (hand_on F w p (suc (after w p d)) l)
    unfolding hand_on edge edges opened comes goes_to
    told-hand on e l T = subst (λ (t : ℕ). Told w (come (suc (after w p d)) l t)) (next-by w p on e 0) (on-next l 0 T)
    told-hand jump e l T = subst (λ (t : ℕ). Told w (come (suc (after w p d)) l t)) (next-by w p jump e 0) (on-next l 0 T)
    told-hand branch e l T =
        comes-keep (Told w) (suc (after w p d)) (edge branch w p) 2
        (λ r b y T'. subst (λ (t : ℕ). Told w (come (suc (after w p d)) y t)) (next-by w p branch e r) (on-next y r T')) l T
    told-hand table e l T = told-table w (enter w (a_at w p) (suc (after w p d)) l) (a_at w p) (after w p d) (rows-real e) (told-enter e l T)

  -- the step of the pass at p, by the mark there
  told-by : (p : ℕ) → p < instructions w → (l : List ℕ) → Told w l → (m : ℕ) → mark l p ≡ m → Told w (pass_by m w p l)
  unfolding pass_by
  told-by p h l T zero e = T
  told-by p h l T (suc d) e = told-hand p d h (T.places p d (omega arith) e) (flow_at w p) refl l T

  -- all marks of the pass are told
  pub marked-told : (size p : ℕ) → 0 < size → p ≤ instructions w → Told w (marked w size p)
  unfolding marked
  marked-told size zero z h = start-told w size z
  marked-told size (suc p) z h =
      told-by p h (marked w size p) (marked-told size p z (omega arith)) (mark (marked w size p) p) refl

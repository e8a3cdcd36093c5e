-- Where marks go is where runs go.
use Prim.Native.Nat.{ℕ, zero, suc, ◌≤◌, ◌<◌}
use mathlib.Core.Path.{◌≡◌, refl, sym, ap, ◌∙◌, subst}
use mathlib.Core.Bool.{Bool, true, false}
use mathlib.Core.List.{List}
use native.Mathlib.Omega.{arith}
use borrow.Author.Tests.{ltb-true, ltb-false, le-ltb}
use lib.Dec.{ltb}
use Rattle.bytecode.specs.Effect.{Flow, on, jump, branch, table}
use Rattle.lowering.specs.Words.{a_at, switch_word}
use Rattle.lowering.specs.Run.{next, goes_to, branch_target, table_target}
use Rattle.image_rule.specs.Marks.{flow_at, table_node, edges, edge}

-- where a run goes from p, by the flow there
pub next-by : (w : List ℕ) (p : ℕ) (F : Flow) → flow_at w p ≡ F → (way : ℕ) → next w way p ≡ goes_to F w way p
unfolding next
next-by w p F e way = ap (λ (G : Flow). goes_to G w way p) e

-- by a table: to the target of the row
pub next-table : (w : List ℕ) (p : ℕ) → flow_at w p ≡ table → (way : ℕ) → next w way p ≡ table_target w (a_at w p) way
unfolding goes_to
next-table w p e way = next-by w p table e way

-- every way is one of those that differ
pub edge-all :
    (P : ℕ → Type 0) (F : Flow) (w : List ℕ) (p : ℕ)
    → ((way : ℕ) → way < edges F → P (edge F w p way))
    → (way : ℕ) → P (edge F w p way)
unfolding edge edges branch_target
edge-all P on w p h way = h 0 (omega arith)
edge-all P jump w p h way = h 0 (omega arith)
edge-all P branch w p h zero = h 0 (omega arith)
edge-all P branch w p h (suc way) = h 1 (omega arith)
edge-all P table w p h way = h 0 (omega arith)

-- behind its rows a table has its default
row-past : (w : List ℕ) (i r : ℕ) → switch_word w i 2 ≤ r → table_target w i r ≡ switch_word w i 3
unfolding table_target
row-past w i r h = rw (le-ltb r (switch_word w i 2) h, table_target)

-- every row is one of the table's, or its default
pub row-all :
    (P : ℕ → Type 0) (w : List ℕ) (i : ℕ)
    → ((r : ℕ) → r < suc (switch_word w i 2) → P (table_target w i r))
    → (r : ℕ) → P (table_target w i r)
row-all P w i h r = by (ltb r (switch_word w i 2)) refl
  where
    by : (b : Bool) → ltb r (switch_word w i 2) ≡ b → P (table_target w i r)
    by true e = h r (omega (arith, ltb-true r (switch_word w i 2) e))
    by false e =
        let past = ltb-false r (switch_word w i 2) e in
        let n = switch_word w i 2 in
        subst P (row-past w i n (omega arith) ∙ sym (row-past w i r past)) (h n (omega arith))

-- but for a Switch, a mark goes where the run goes; for it, through the table
pub edge-next : (P Q : ℕ → Type 0) (w : List ℕ) (p : ℕ)
    → ((way : ℕ) → P (edge (flow_at w p) w p way))
    → ((t : ℕ) → P t → Q t)
    → (flow_at w p ≡ table → P (table_node w (a_at w p)) → (r : ℕ) → Q (table_target w (a_at w p) r))
    → (way : ℕ) → Q (next w way p)
unfolding goes_to edge
edge-next P Q w p h there through way = by (flow_at w p) refl
  where
    by : (F : Flow) → flow_at w p ≡ F → Q (next w way p)
    by on e = subst Q (sym (next-by w p on e way)) (there _ (subst (λ (G : Flow). P (edge G w p way)) e (h way)))
    by jump e = subst Q (sym (next-by w p jump e way)) (there _ (subst (λ (G : Flow). P (edge G w p way)) e (h way)))
    by branch e = subst Q (sym (next-by w p branch e way)) (there _ (subst (λ (G : Flow). P (edge G w p way)) e (h way)))
    by table e = subst Q (sym (next-table w p e way)) (through e (subst (λ (G : Flow). P (edge G w p way)) e (h way)) way)

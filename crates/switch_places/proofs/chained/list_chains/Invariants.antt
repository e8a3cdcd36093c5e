-- `switch_places::chained::list_chains` meets its contract. The invariant is `LaidTo`: the chains of the heads passed have their places.
use Prim.Native.Nat.{ℕ}
use mathlib.Core.List.{List}
use Rattle.expr_count.specs.Count.{Rec}
use Rattle.switch_places.proofs.LaidLaws.{LaidTo}
use Rattle.switch_places.proofs.chained.list_chains.Given as goal

abbrev pub invariant-loop-q : goal.invariant-loop-q
invariant-loop-q g l =
    (s : List ℕ) (t : Rec) (ls : List (List ℕ)) (lo hi : ℕ)
    → LaidTo s t ls (g.L.Lists.known l.lists) (g.L.Lists.list_of l.lists) l.heads lo hi l.initial.sum l.initial.table.cells l.table.cells l.sum l.q

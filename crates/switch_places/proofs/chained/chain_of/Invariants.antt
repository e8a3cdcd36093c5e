-- `switch_places::chained::chain_of` meets its contract. The invariant is `Chaining`: what is passed and what is left make the chain.
use Prim.Native.Nat.{ℕ}
use mathlib.Core.List.{List}
use lib.ListN.{drop}
use Rattle.switch_places.specs.GuardChain.{sum_in, tries_in, Reads}
use Rattle.expr_count.specs.Count.{Rec}
use Rattle.switch_places.proofs.ChainLaws.{Chaining}
use Rattle.switch_places.proofs.chained.chain_of.Given as goal

abbrev pub invariant-loop-b : goal.invariant-loop-b
invariant-loop-b v =
    (s : List ℕ) (t : Rec) (l : List ℕ) → Reads s t v.initial.table.cells v.list l
    → Chaining s t l v.initial.table.cells v.table.cells (sum_in v.sum) (tries_in v.sum) (drop v.b-index l)

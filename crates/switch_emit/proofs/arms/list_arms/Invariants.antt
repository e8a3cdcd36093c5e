-- `switch_emit::arms::list_arms` meets its contract. The invariant: what is left of the chains.
use Prim.Native.Nat.{ℕ}
use mathlib.Core.Path.{◌≡◌}
use mathlib.Core.Bool.{Bool}
use mathlib.Core.List.{List}
use Rattle.scratch.specs.declared.Layout.{Layout}
use Rattle.lowering.specs.SwitchSheet.{block_count}
use Rattle.switch_tables.specs.Table.{Guards}
use Rattle.switch_emit.proofs.ArmDoes.{ArmsLeft}
use Rattle.switch_emit.specs.Ready.{Ready}
use Rattle.switch_emit.specs.Heads.{Heads, LastDrops}
use Rattle.switch_emit.proofs.arms.list_arms.Given as goal

abbrev pub invariant-loop-i : goal.invariant-loop-i
invariant-loop-i g v =
    ((l : Layout) (ls : List (List ℕ)) (falls : Bool) → Ready v.sheet → Guards v.sheet v.flat (block_count v.sheet)
    → g.L.Lists.known v.lists v.flat
    → Heads v.sheet v.flat (g.L.Lists.list_of v.lists v.flat) v.heads.at v.heads.cells ls
    → LastDrops v.sheet falls v.dropped ls
    → ArmsLeft v.sheet l v.initial.store.scratch.now v.initial.store.state v.flat v.to falls ls v.store.scratch.now v.store.state v.i)
    × (v.store.scratch.ghost_name ≡ v.initial.store.scratch.ghost_name)

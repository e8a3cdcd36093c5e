-- `switch_emit::arms::arm` meets its contract. The invariant: what is left of the chain.
use Rattle.std.proofs.Common.{◌≡◌, ℕ, Bool}
use Rattle.scratch.specs.declared.Layout.{Layout}
use Rattle.lowering.specs.SwitchSheet.{block_count}
use Rattle.switch_tables.specs.Table.{Guards}
use Rattle.switch_emit.proofs.ArmDoes.{ArmLeft}
use Rattle.switch_emit.specs.Parts.{goes}
use Rattle.switch_emit.specs.Ready.{Ready, Named}
use Rattle.switch_emit.proofs.arms.arm.Given as goal

abbrev pub invariant-loop-b : goal.invariant-loop-b
invariant-loop-b v =
    ((l : Layout) (drop : Bool) (place : ℕ) → v.tail ≡ goes drop place → Ready v.sheet → Guards v.sheet v.flat (block_count v.sheet)
    → Named v.sheet v.list
    → ArmLeft v.sheet l v.initial.store.scratch.now v.initial.store.state v.flat place drop v.list v.store.scratch.now v.store.state v.any
    v.b-index)
    × (v.store.scratch.ghost_name ≡ v.initial.store.scratch.ghost_name)

-- `switch_emit::bodies::bodies` meets its contract. The invariant: what is left of the bodies.
use Rattle.std.proofs.Common.{◌≡◌}
use Rattle.scratch.specs.declared.Layout.{Layout}
use Rattle.switch_tables.specs.Planned.{Tables}
use Rattle.switch_emit.proofs.BodyDoes.{BodiesLeft}
use Rattle.switch_emit.specs.Ready.{Ready}
use Rattle.switch_emit.proofs.bodies.bodies.Given as goal

abbrev pub invariant-loop-k : goal.invariant-loop-k
invariant-loop-k v =
    ((l : Layout) → Ready v.sheet → Tables v.sheet v.flat
    → BodiesLeft v.sheet l v.initial.store.scratch.now v.initial.store.state v.flat v.falls v.n v.store.scratch.now v.store.state v.k)
    × (v.store.scratch.ghost_name ≡ v.initial.store.scratch.ghost_name)

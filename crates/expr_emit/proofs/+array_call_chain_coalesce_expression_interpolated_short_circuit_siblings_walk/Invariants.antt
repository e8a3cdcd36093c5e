-- Each function does to the scratch what its definition does. The measure: four times the levels, plus the
-- function's rank among its callers.
use Rattle.std.proofs.Common.{◌≡◌, ◌+◌, ◌*◌}
use Rattle.expr_rules.specs.Links.{nodes_left}
use Rattle.expr_rules.proofs.LinksLaws.{Left}
use Rattle.expr_emit.proofs.WalkDoes.{Walking}
use Rattle.expr_emit.specs.Siblings.{rows}
use Rattle.expr_model.specs.Made.{lowered}
use Rattle.scratch_store.specs.Stores.{Done}
use Rattle.expr_emit.specs.Linked.{Linked}
use Rattle.lowering.specs.Nodes.{Right, Row}
use Rattle.sheet.specs.Rest.{rest}
use Rattle.sheet.proofs.WalkedLaws.{Walked}
use Rattle.scratch.specs.declared.Layout.{Layout}
use Rattle.expr_emit.proofs.+array_call_chain_coalesce_expression_interpolated_short_circuit_siblings_walk.Given as goal

abbrev pub decreases-array : goal.decreases-array
decreases-array l = 4 * l.levels + 2

abbrev pub decreases-call : goal.decreases-call
decreases-call l = 4 * l.levels + 2

abbrev pub decreases-chain : goal.decreases-chain
decreases-chain l = 4 * l.levels + 3

abbrev pub decreases-coalesce : goal.decreases-coalesce
decreases-coalesce l = 4 * l.levels + 2

abbrev pub decreases-expression : goal.decreases-expression
decreases-expression l = 4 * l.levels

abbrev pub decreases-interpolated : goal.decreases-interpolated
decreases-interpolated l = 4 * l.levels + 2

abbrev pub decreases-short_circuit : goal.decreases-short_circuit
decreases-short_circuit l = 4 * l.levels + 2

abbrev pub decreases-siblings : goal.decreases-siblings
decreases-siblings l = 4 * l.levels + 1

abbrev pub decreases-walk : goal.decreases-walk
decreases-walk l = 4 * l.levels + 2

abbrev pub invariant-siblings-loop-i : goal.invariant-siblings-loop-i
invariant-siblings-loop-i v =
    let i = v.i-iterator.count in
    Walked v.sheet v.fn.of.from v.fn.of.n i (rest v.i-iterator.iter)
    × ((l : Layout) → Right v.sheet → Row v.sheet v.fn.of.n v.fn.of.from
    → Done v.sheet l v.initial.store v.store (rows v.sheet (lowered v.levels v.sheet) v.by i v.fn.of.from))
    × (v.store.scratch.ghost_name ≡ v.initial.store.scratch.ghost_name)

abbrev pub invariant-walk-loop-p : goal.invariant-walk-loop-p
invariant-walk-loop-p v =
    Left v.sheet v.p-iterator
    × ((l : Layout) → Right v.sheet → Linked v.sheet v.j
    → Walking v.sheet l v.levels v.j v.initial.store.scratch.now v.initial.store.state v.store.scratch.now v.store.state
    (nodes_left v.p-iterator))
    × (v.store.scratch.ghost_name ≡ v.initial.store.scratch.ghost_name)

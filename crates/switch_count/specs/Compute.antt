-- The total opened for computation: whoever says `unfolding node_tally` or `unfolding switch_numbers` has everything below it unfolded.
use Rattle.std.specs.Prelude.{ℕ, List}
use Rattle.lowering.specs.Compute.{checked_number, expression_out, switch_program}
use Rattle.switch_split.specs.Split as Split
use Rattle.expr_count.specs.declared.tallies.Tally.{Tally}
use Rattle.expr_count.specs.Tally as CountingTally
use Rattle.expr_count.specs.Locals as CountingLocals
use Rattle.expr_count.specs.Plan as CountingPlan
use Rattle.expr_count.specs.Link as CountingLink
use Rattle.expr_count.specs.Count as CountingCount
use Rattle.switch_count.specs.Arms
use Rattle.switch_count.specs.Bodies
use Rattle.switch_count.specs.Total

-- a node
unfoldable pub node_tally : ℕ → List ℕ → ℕ → Tally
unfolding checked_number expression_out CountingTally.instructions CountingTally.nothing CountingTally.evaluation CountingTally.plus
    CountingTally.taken_back CountingTally.capped CountingLocals.is_local CountingLocals.variable_by CountingLocals.first_by
    CountingLocals.receiver_by CountingPlan.array CountingPlan.interpolated CountingPlan.short_circuit CountingPlan.make_fn_ptr
    CountingPlan.all_args CountingPlan.other_args CountingPlan.rotates CountingPlan.moves CountingPlan.call_by CountingPlan.fn_call_by CountingPlan.fn_call
    CountingPlan.plan_by CountingPlan.plan CountingLink.link_by CountingLink.link CountingLink.grade CountingLink.least CountingLink.temporary
    CountingCount.siblings CountingCount.coalesce CountingCount.walk_on CountingCount.walk CountingCount.chain_by CountingCount.chain
    CountingCount.follow CountingCount.tally_by
node_tally levels s j = CountingCount.tally levels s j

-- a switch, where t is the tally of a node
unfoldable pub switch_numbers : List ℕ → CountingCount.Rec → List Split.Entry → Tally
unfolding checked_number switch_program CountingTally.instructions CountingTally.nothing CountingTally.evaluation CountingTally.plus
    CountingTally.taken_back CountingTally.capped Arms.tries_tally Arms.end_of Arms.has_try Arms.wants Arms.any_wants Arms.end_tally Arms.arm_tally
    Arms.arms_tally Arms.idle_tally Arms.last_tally Arms.falls_tally Bodies.bodies_from Bodies.bodies_tally Bodies.fall_tally Bodies.default_tally
    Total.case_lists Total.split_lists Total.cases_tally Total.ranges_tally Total.bodies_of Total.switch_tally Total.switch_total Total.total
switch_numbers s t es = Total.switch_tally s t es

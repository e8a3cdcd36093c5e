-- The definition opened for computation: whoever says `unfolding answer` has everything below it unfolded. `unfolding` lists do not
-- follow by themselves, so each definition of the lowering is named here.
use Rattle.std.specs.Prelude.{ℕ, List}
use Rattle.bytecode.specs.Chain as BytecodeChain
use Rattle.bytecode.specs.Op as BytecodeOp
use Rattle.bytecode.specs.Switch as BytecodeSwitch
use Rattle.switch_split.specs.Excess as CasesExcess
use Rattle.switch_split.specs.Points as CasesPoints
use Rattle.switch_split.specs.Range as CasesRange
use Rattle.switch_split.specs.Split as CasesSplit
use Rattle.lowering.specs.Arms
use Rattle.lowering.specs.Array
use Rattle.lowering.specs.Bodies
use Rattle.lowering.specs.Call
use Rattle.lowering.specs.Chain
use Rattle.lowering.specs.Coalesce
use Rattle.lowering.specs.Code
use Rattle.lowering.specs.Expression
use Rattle.lowering.specs.Flatten
use Rattle.lowering.specs.Image
use Rattle.lowering.specs.Interpolated
use Rattle.lowering.specs.Leaf
use Rattle.lowering.specs.MakeSheet
use Rattle.lowering.specs.Operands
use Rattle.lowering.specs.Out
use Rattle.lowering.specs.Outcome
use Rattle.lowering.specs.Pools
use Rattle.lowering.specs.Program
use Rattle.lowering.specs.ShortCircuit
use Rattle.lowering.specs.Slots
use Rattle.lowering.specs.Steps
use Rattle.lowering.specs.Switch
use Rattle.lowering.specs.SwitchCode
use Rattle.lowering.specs.SwitchLaid as SwitchLayout
use Rattle.lowering.specs.SwitchSheet
use Rattle.lowering.specs.SwitchTables
use Rattle.check_shape.specs.Kinds as ShapeKinds
use Rattle.sheet.specs.Node as SheetNode
use Rattle.sheet.specs.Start as SheetStart
use Rattle.sheet.specs.Namespace as SheetNamespace
use Rattle.text.specs.Keyword as TextKeyword
use Rattle.checks.specs.Checked.{verdict_number, checked}
use Rattle.checks.specs.Compute as ChecksCompute
use Rattle.lowering.specs.Out.{Rec}
use Rattle.lowering.specs.Program.{Program}

-- the check of 1 to 8
unfoldable pub checked_number : List ℕ → ℕ
unfolding ChecksCompute.opened_by TextKeyword.is_eval TextKeyword.is_fn TextKeyword.is_call SheetNode.field SheetNode.position
    SheetNamespace.namespace_by SheetNamespace.namespace SheetNamespace.qualified_variable SheetNamespace.role SheetStart.own_start
    SheetStart.start_within SheetStart.start_of ShapeKinds.bound
checked_number s = verdict_number (checked s)

-- expressions
unfoldable pub expression_out : ℕ → List ℕ → Rec
unfolding Pools.no_pools Pools.first_where Pools.added Pools.emits Pools.defeat Pools.same_const Pools.const_at Pools.push_const
    Pools.prefix Pools.name_bytes Pools.same_name Pools.name_at Pools.push_name Pools.token_at Pools.push_token Pools.push_residual
    Pools.steps_of Pools.steps_words Pools.same_chain Pools.chain_at Pools.new_chain Pools.push_chain Out.and_then Out.emit_at
    Out.residual_expr Slots.resolve_below Slots.resolve Leaf.boolean Leaf.unit Leaf.constant Leaf.load_named Leaf.load_qualified
    Leaf.load_plain Leaf.variable Leaf.this Operands.operands Array.elements Array.array Interpolated.segments Interpolated.interpolated
    ShortCircuit.fragments ShortCircuit.extent ShortCircuit.decided ShortCircuit.jump_on ShortCircuit.decision ShortCircuit.short_circuit
    Coalesce.skipped Coalesce.coalesce Call.syntactic Call.is_lowerable_call Call.is_fn_ptr Call.is_fn_ptr_call Call.general_rule
    Call.plain_rule Call.call_rule Call.make_fn_ptr Call.call_fn_ptr Call.variable_first Call.first_of Call.receiver Call.other_args
    Call.call_ref Call.call_local Call.call_this Call.rotate Call.call_named Call.stores_token Call.call_as Call.call_token Call.call_values
    Call.lower_call_by Call.ref_at Call.loaded_args Call.qualified_local Call.qualified_this Call.qualified_named Call.qualified_values
    Call.lower_qualified_by Call.lower_qualified Call.lower_call Call.fn_call_by Call.fn_call Flatten.rest_of Flatten.goes_on
    Flatten.operand_of Flatten.links Flatten.dot_rule Flatten.step_rule Flatten.has_step Flatten.flattens Steps.index_step
    Steps.property_step Steps.is_lowerable_method Steps.method_after Steps.method_step Steps.step_by Steps.onto Steps.steps
    Chain.variable_root Chain.root_of Chain.root_pools Chain.on_stack Chain.root_code Chain.chain_of Chain.chain Expression.rules
    Expression.rule Expression.by_rule Expression.expression
expression_out levels s j b d p = Expression.expression levels s j b d p

-- switches
unfoldable pub switch_program : List ℕ → Rec → Program
unfolding CasesExcess.shifted CasesExcess.excess CasesExcess.low_word CasesExcess.high_word CasesExcess.excess_of CasesRange.inside
    CasesRange.blocks_where CasesPoints.points CasesPoints.insert CasesPoints.sort_onto CasesPoints.sort CasesPoints.dedup_after
    CasesPoints.dedup CasesPoints.cuts CasesSplit.first_match CasesSplit.atoms_from CasesSplit.atoms CasesSplit.covers CasesSplit.piece
    CasesSplit.opened CasesSplit.join CasesSplit.pieces CasesSplit.split SwitchSheet.nodes_from SwitchSheet.guard_of SwitchSheet.body_of
    SwitchSheet.cases_of SwitchSheet.range_nodes SwitchSheet.case_blocks SwitchSheet.range_of SwitchSheet.ranges_of Arms.guard_kind
    Arms.try_at Arms.tries_of Arms.entry_from Arms.tries_extent Arms.end_extent Arms.entry_extent Arms.end_emits Arms.arms_extent
    Arms.arm_chains Arms.member_of Arms.distinct_from Arms.distinct Arms.drop_end Arms.drop_entry Arms.drop_idle_jump Bodies.try_wants
    Bodies.end_wants Bodies.entry_wants Bodies.wanted Bodies.lay_bodies Bodies.bodies_extent Bodies.fall_extent Bodies.body_at
    SwitchLayout.lay_cases SwitchLayout.case_arms_of SwitchLayout.lay_ranges SwitchLayout.ranges_extent SwitchLayout.layout
    SwitchCode.default_at SwitchCode.end_at SwitchCode.fallback_at SwitchCode.tries_code SwitchCode.end_code SwitchCode.entry_code
    SwitchCode.arms_code SwitchCode.ranges_code SwitchCode.bodies_code SwitchCode.bodies_fall SwitchCode.default_code SwitchCode.last_emits
    SwitchCode.switch_code SwitchTables.entry_of SwitchTables.target SwitchTables.case_pools SwitchTables.case_rows SwitchTables.range_rows
    SwitchTables.range_table SwitchTables.case_table Switch.switch_of Switch.switch
switch_program s rec = Switch.switch s rec

-- the image
unfoldable pub image_words : Program → List ℕ
unfolding BytecodeOp.receiver_kind BytecodeOp.receiver_word BytecodeOp.op_words BytecodeChain.root_words BytecodeChain.step_words
    BytecodeChain.chain_words BytecodeSwitch.switch_words BytecodeSwitch.case_words BytecodeSwitch.range_words Code.greatest Code.code_words
    Code.positions Image.section Image.const_words Image.name_words Image.max_stack Image.sizes Image.words
image_words r = Image.words r

unfoldable pub answer : List ℕ → ℕ → ℕ → Outcome.Outcome
unfolding checked_number expression_out switch_program image_words Program.plain MakeSheet.bytes_of MakeSheet.joined MakeSheet.starts_from
    MakeSheet.pad MakeSheet.sheet Outcome.lower Outcome.scratch_needed Outcome.lowered Outcome.outcome_after Outcome.outcome
answer s image_length scratch_length = Outcome.outcome s image_length scratch_length

-- Demand 3 computed on a row with an image: all its runs, and, for a Switch, runs on sample integers with sample answers against the
-- source rule. The samples are the least integer, the Int cases, and the ends of the ranges with what lies next to them.
use Rattle.std.specs.Prelude.{ℕ, ◌+◌, ◌-◌, ◌/◌, ◌%◌, ◌^◌, Bool, true, false, ◌&&◌, List, [], ◌∷◌, ◌++◌, eqb}
use Rattle.words.specs.Count.{all_below}
use Rattle.sheet.specs.Node.{kind, child}
use Rattle.switch_split.specs.Range.{Range}
use Rattle.lowering.specs.Kinds.{int_kind, switch_kind}
use Rattle.lowering.specs.SwitchSheet.{cases_of, int_at, ranges_of}
use Rattle.lowering.specs.Marks.{Marked}
use Rattle.lowering.specs.Marks as Marks
use Rattle.lowering.specs.Outcome.{Outcome, refused, image}
use Rattle.lowering.specs.Compute.{answer}
use Rattle.lowering.specs.Words as Words
use Rattle.lowering.specs.Run as Run
use Rattle.lowering.specs.Guided.{Event, tried, reached, missing, events}
use Rattle.lowering.specs.Guided as Guided
use Rattle.lowering.specs.SourceRule.{source_rule}
use Rattle.lowering.specs.SourceRule as SourceRule
use Rattle.lowering.specs.Demand3.{marks_of}
use Rattle.lowering.specs.Sweep.{all_runs_right}
use Rattle.lowering.specs.Sweep as Sweep
use Rattle.bytecode.specs.Effect as Effect
use Rattle.test_agreement.specs.Agree.{Row, digits, all_agree}

unfoldable pub same_event : Event → Event → Bool
same_event (tried j) (tried k) = eqb j k
same_event (tried j) (reached k) = false
same_event (tried j) missing = false
same_event (reached j) (tried k) = false
same_event (reached j) (reached k) = eqb j k
same_event (reached j) missing = false
same_event missing (tried k) = false
same_event missing (reached k) = false
same_event missing missing = true

unfoldable pub same_events : List Event → List Event → Bool
same_events [] [] = true
same_events [] (y ∷ ys) = false
same_events (x ∷ xs) [] = false
same_events (x ∷ xs) (y ∷ ys) = elim (same_event x y) [ true ↦ same_events xs ys | false ↦ false ]

unfoldable pub case_samples : List ℕ → List ℕ → List ℕ
case_samples s [] = []
case_samples s (c ∷ cs) =
    elim (eqb (kind s (child c)) int_kind) [ true ↦ int_at s (child c) ∷ case_samples s cs | false ↦ case_samples s cs ]

unfoldable pub range_samples : List Range → List ℕ
range_samples [] = []
range_samples (r ∷ rs) = (r.from - 1) ∷ r.from ∷ r.to ∷ (r.to + 1) ∷ range_samples rs

unfoldable pub samples : List ℕ → List ℕ
samples s = 0 ∷ case_samples s (cases_of s) ++ range_samples (ranges_of s)

-- bit n of m
unfoldable pub bit : ℕ → ℕ → Bool
bit m n = eqb (m / 2 ^ n % 2) 1

unfoldable pub chooses_at : List ℕ → List ℕ → List Marked → ℕ → ℕ → ℕ → Bool
chooses_at s w ms way x m =
    same_events
    (events (record { image = w; marks = ms; integer = x; answers = bit m; free = λ n. way }))
    (source_rule s x (bit m))

-- at x, with four ways to answer two guards, free branches going on or to their targets
unfoldable pub chooses_for : List ℕ → List ℕ → List Marked → List ℕ → Bool
chooses_for s w ms [] = true
chooses_for s w ms (x ∷ xs) =
    elim (all_below 4 (chooses_at s w ms 0 x) && chooses_at s w ms 1 x 2) [ true ↦ chooses_for s w ms xs | false ↦ false ]

unfoldable pub chooses_right : List ℕ → List ℕ → Bool
chooses_right s w = elim (eqb (kind s 0) switch_kind) [ true ↦ chooses_for s w (marks_of s) (samples s) | false ↦ true ]

unfoldable pub demand_on : List ℕ → Outcome → Bool
demand_on s (refused r) = true
demand_on s (image w) = elim (all_runs_right w) [ true ↦ chooses_right s w | false ↦ false ]

unfoldable pub demands : Row → Bool
demands r =
    let s = digits 256 r.bytes r.sheet [] in
    elim (eqb r.number 0) [ true ↦ demand_on s (answer s r.image_length r.scratch_length) | false ↦ true ]

unfoldable pub all_demands : List Row → Bool
unfolding same_event same_events case_samples range_samples samples bit chooses_at chooses_for chooses_right demand_on demands Words.consts_at
    Words.chains_at Words.switches_at Words.cases_at Words.ranges_at Words.const_word Words.chain_word Words.switch_word Words.case_word
    Words.range_word Run.chain_takes Run.pops Run.pushes Run.needs Run.row_target Run.table_target Run.branch_target Run.goes_to Run.next Run.step
    Run.step_on Run.run Guided.is_int Guided.in_range Guided.row_fits Guided.first_row Guided.switch_way Guided.answer_way Guided.is_answered
    Guided.answered_at Guided.guided_way Guided.way_at Guided.guided_step Guided.event_of Guided.events_from Guided.events SourceRule.is_case_of
    SourceRule.case_list SourceRule.list_for SourceRule.default_events SourceRule.is_bool SourceRule.is_false SourceRule.go_through
    SourceRule.source_rule Sweep.ways_of Sweep.after Sweep.forward Sweep.elsewhere Sweep.alike Sweep.depth_at Sweep.sweep Sweep.all_runs_right
    Effect.effect Effect.ref_argc Effect.popped Effect.kept Marks.try_marks Marks.entry_marks Marks.arm_marks Marks.body_marks Marks.default_marks
    Marks.marks Marks.mark_at marks_of all_agree
all_demands [] = true
all_demands (r ∷ rs) = elim (demands r) [ true ↦ all_demands rs | false ↦ false ]

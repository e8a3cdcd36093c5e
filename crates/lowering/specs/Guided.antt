-- A run on an integer subject, which is fed the guards' answers. Each Switch goes by the integer, each jump that pops a guard's value by
-- the next answer; all other branches stay free. The integer is in excess form.
use Rattle.std.specs.Prelude.{ℕ, zero, suc, Bool, true, false, ◌&&◌, List, [], ◌∷◌, ◌++◌, eqb}
use Rattle.std.proofs.Math.Option.{Option, none, some}
use Rattle.switch_split.specs.Excess.{excess}
use Rattle.switch_split.specs.Range.{inside}
use Rattle.bytecode.specs.Effect.{effect, Flow, on, jump, branch, table}
use Rattle.lowering.specs.Kinds.{int_kind}
use Rattle.lowering.specs.Marks.{Marked, Mark, mark_at}
use Rattle.lowering.specs.Marks as Marks
use Rattle.lowering.specs.Words.{instructions, kind_at, a_at, const_word, switch_word, case_word, range_word}
use Rattle.lowering.specs.Run.{State, start, step_on}

-- constant i is the Int x
unfoldable pub is_int : List ℕ → ℕ → ℕ → Bool
is_int w x i = eqb (const_word w i 0) int_kind && eqb (excess (const_word w i 1) (const_word w i 2)) x

-- range r contains x
unfoldable pub in_range : List ℕ → ℕ → ℕ → Bool
in_range w x r =
    inside
    (excess (range_word w r 0) (range_word w r 1))
    (excess (range_word w r 2) (range_word w r 3))
    (eqb (range_word w r 4) 1)
    x

-- row r of all cases, or of all ranges, is one for x
unfoldable pub row_fits : List ℕ → ℕ → ℕ → ℕ → Bool
row_fits w x ranged r = elim (eqb ranged 0) [ true ↦ is_int w x (case_word w r 1) | false ↦ in_range w x r ]

-- the first of n rows from r on that is one for x, counted from 0; n where none is
unfoldable pub first_row : List ℕ → ℕ → ℕ → ℕ → ℕ → ℕ
first_row w x ranged zero r = 0
first_row w x ranged (suc n) r =
    elim (row_fits w x ranged r) [ true ↦ 0 | false ↦ suc (first_row w x ranged n (suc r)) ]

-- the way that Switch table i goes for x
unfoldable pub switch_way : List ℕ → ℕ → ℕ → ℕ
switch_way w x i = first_row w x (switch_word w i 0) (switch_word w i 2) (switch_word w i 1)

-- JumpIfTrue (9) goes to its target on true, JumpIfFalse on false
unfoldable pub answer_way : ℕ → Bool → ℕ
answer_way kind true = elim (eqb kind 9) [ true ↦ 1 | false ↦ 0 ]
answer_way kind false = elim (eqb kind 9) [ true ↦ 0 | false ↦ 1 ]

-- the place is at a jump that pops a guard's value
unfoldable pub is_answered : Option Mark → Bool
is_answered none = false
is_answered (some (Marks.guard k)) = false
is_answered (some Marks.branch) = true
is_answered (some (Marks.body k)) = false
is_answered (some Marks.missing) = false

-- what a run on an integer is fed: the image, the marks of the switch, the integer, the answers, the ways of the free branches
pub record Fed : Type 0 where
  pub image : List ℕ
  pub marks : List Marked
  pub integer : ℕ
  pub answers : ℕ → Bool
  pub free : ℕ → ℕ

-- place, depth, answers used, steps made
pub record Guided : Type 0 where
  pub state : State
  pub used : ℕ
  pub steps : ℕ

abbrev pub guided_start : Guided
guided_start = record { state = start; used = 0; steps = 0 }

unfoldable pub answered_at : Fed → ℕ → Bool
answered_at f p = is_answered (mark_at f.marks p)

unfoldable pub guided_way : Flow → Fed → Guided → ℕ
guided_way on f g = 0
guided_way jump f g = 0
guided_way branch f g =
    elim (answered_at f g.state.place) [
      | true ↦ answer_way (kind_at f.image g.state.place) (f.answers g.used)
      | false ↦ f.free g.steps
    ]
guided_way table f g = switch_way f.image f.integer (a_at f.image g.state.place)

unfoldable pub way_at : Fed → Guided → ℕ
way_at f g = guided_way (effect (kind_at f.image g.state.place)).flow f g

unfoldable pub guided_step : Fed → Guided → Guided
guided_step f g =
    record {
      state = step_on f.image (way_at f g) g.state;
      used = elim (answered_at f g.state.place) [ true ↦ suc g.used | false ↦ g.used ];
      steps = suc g.steps;
    }

-- what a run comes to: a guard is tried, a body is reached, or a missing default is
pub data Event : Type 0 where
  tried : ℕ → Event
  reached : ℕ → Event
  missing : Event

unfoldable pub event_of : Option Mark → List Event
event_of none = []
event_of (some (Marks.guard k)) = tried k ∷ []
event_of (some Marks.branch) = []
event_of (some (Marks.body k)) = reached k ∷ []
event_of (some Marks.missing) = missing ∷ []

-- the events of the next n places
unfoldable pub events_from : Fed → ℕ → Guided → List Event
events_from f zero g = []
events_from f (suc n) g = event_of (mark_at f.marks g.state.place) ++ events_from f n (guided_step f g)

-- the events of the whole run, which has at most as many steps as there are instructions
unfoldable pub events : Fed → List Event
events f = events_from f (instructions f.image) guided_start

-- the same run step by step: where it is after n steps, and the ways that it goes
unfoldable pub guided : Fed → ℕ → Guided
guided f zero = guided_start
guided f (suc n) = guided_step f (guided f n)

abbrev pub guided_ways : Fed → ℕ → ℕ
guided_ways f n = way_at f (guided f n)

-- the events of any run with marks: of n states from state m on
unfoldable pub events_of : List Marked → (ℕ → State) → ℕ → ℕ → List Event
events_of ms states zero m = []
events_of ms states (suc n) m = event_of (mark_at ms (states m).place) ++ events_of ms states n (suc m)

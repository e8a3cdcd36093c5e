-- Demand 3 as one statement about the image that the definition gives for a sheet.
use Rattle.std.specs.Prelude.{ℕ, suc, ◌≤◌, ◌<◌, ◌≡◌, Bool, List}
use Rattle.sheet.specs.Node.{kind}
use Rattle.lowering.specs.Limits.{max_levels}
use Rattle.lowering.specs.Kinds.{switch_kind}
use Rattle.lowering.specs.Expression.{expression}
use Rattle.lowering.specs.SwitchSheet.{default_block}
use Rattle.lowering.specs.SwitchLaid.{layout}
use Rattle.lowering.specs.Marks.{Marked, marks}
use Rattle.lowering.specs.Outcome.{image, outcome}
use Rattle.lowering.specs.Words.{instructions, greatest_depth}
use Rattle.lowering.specs.Run.{run, needs}
use Rattle.lowering.specs.Guided.{events}
use Rattle.lowering.specs.SourceRule.{source_rule}

-- after n steps the run has not ended
abbrev pub Running : List ℕ → (ℕ → ℕ) → ℕ → Type 0
Running w ways n = (run w ways n).place < instructions w

-- a run, whichever way each branch goes
pub record RunsRight (w : List ℕ) (ways : ℕ → ℕ) : Type 0 where
  -- goes forward, and not past the end
  pub forward : (n : ℕ) → Running w ways n → (run w ways n).place < (run w ways (suc n)).place
  pub inside : (n : ℕ) → (run w ways n).place ≤ instructions w
  -- finds what each instruction pops or needs
  pub finds : (n : ℕ) → Running w ways n → needs w (run w ways n).place ≤ (run w ways n).depth
  -- ends, with one value
  pub ends : run w ways (instructions w) ≡ record { place = instructions w; depth = 1 }
  -- never passes the greatest depth
  pub bounded : (n : ℕ) → (run w ways n).depth ≤ greatest_depth w

-- some run reaches the greatest depth
pub record DepthReached (w : List ℕ) : Type 0 where
  pub ways : ℕ → ℕ
  pub steps : ℕ
  pub reached : (run w ways steps).depth ≡ greatest_depth w

-- where the definition emits the guards, bodies and the missing default of a switch sheet
unfoldable pub marks_of : List ℕ → List Marked
marks_of s = marks (default_block s) (layout s (expression max_levels s))

-- on every integer the guards are tried and the body is reached that the source rule says
abbrev pub ChoosesRight : List ℕ → List ℕ → Type 0
ChoosesRight s w =
    (x : ℕ) (answers : ℕ → Bool) (free : ℕ → ℕ)
    → events (record { image = w; marks = marks_of s; integer = x; answers = answers; free = free }) ≡ source_rule s x answers

pub record Demand3 (s w : List ℕ) : Type 0 where
  pub runs : (ways : ℕ → ℕ) → RunsRight w ways
  pub depth : DepthReached w
  pub choice : kind s 0 ≡ switch_kind → ChoosesRight s w

-- what is to be proved, for every sheet and every pair of buffer lengths
abbrev pub Statement : Type 0
Statement = (s : List ℕ) (image_length scratch_length : ℕ) (w : List ℕ) → outcome s image_length scratch_length ≡ image w → Demand3 s w

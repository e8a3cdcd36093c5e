-- Siblings lowered one after another, each with something behind it.
use Rattle.std.specs.Prelude.{ℕ, zero, suc, List}
use Rattle.std.specs.Int.{from_bool}
use Rattle.sheet.specs.Node.{position}
use Rattle.sheet.specs.Walk.{skip}
use Rattle.bytecode.specs.declared.Op.TheVariants.{CheckSize, InterpolateAppend, SkipIfNotUnit, Pop}
use Rattle.lowering.specs.ShortCircuit.{jump_on}
use Rattle.expr_model.specs.Made.{Made, emit}
use Rattle.expr_model.specs.Construct.{Low}
use Rattle.expr_emit.specs.declared.after.After.{After}
use Rattle.expr_emit.specs.declared.after.After.TheVariants.{Nothing, CheckPlace, Append, Decide, Unless}

-- what stands behind sibling i, which has this position
unfoldable pub after_one : After → ℕ → ℕ → Made → Made
after_one Nothing i pos a = a
after_one CheckPlace i pos a = emit (CheckSize i) pos 0 a
after_one Append i pos a = emit InterpolateAppend pos 0 a
after_one (Decide stop to) i pos a = emit (jump_on (from_bool stop) to) pos 0 a
after_one (Unless to) i pos a = emit Pop pos 0 (emit (SkipIfNotUnit to) pos 0 a)

-- the first i siblings from node j on
unfoldable pub rows : List ℕ → Low → After → ℕ → ℕ → Made → Made
rows s low by zero j a = a
rows s low by (suc i) j a = after_one by i (position s (skip s i j)) (low (skip s i j) (rows s low by i j a))

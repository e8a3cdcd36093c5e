-- The end of And and Or.
use Rattle.std.specs.Prelude.{ℕ, ◌-◌}
use Rattle.bytecode.specs.declared.Op.TheVariants.{Bool, Jump}
use Rattle.lowering.specs.Code.{no_pos}
use Rattle.expr_model.specs.Made.{Made, emit, at_depth}

-- stop is 1 for Or, which stops at true, and 0 for And; d is the depth before the operands
unfoldable pub decision : ℕ → ℕ → ℕ → Made → Made
decision stop end d a =
    emit (Bool stop) no_pos 0 (at_depth d (emit (Jump end) no_pos 0 (emit (Bool (1 - stop)) no_pos 0 a)))

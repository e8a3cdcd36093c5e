-- Operands of a node: n siblings from a node on.
use Rattle.std.specs.Prelude.{ℕ, ◌-◌, List}
use Rattle.sheet.specs.Node.{count, child, next}
use Rattle.expr_count.specs.declared.operands.Operands.{Operands}

abbrev pub some_from : ℕ → ℕ → Operands
some_from n j = record { n = n; from = j }

-- all operands of node j
abbrev pub all : List ℕ → ℕ → Operands
all s j = some_from (count s j) (child j)

-- those behind the first one
abbrev pub others : List ℕ → ℕ → Operands
others s j = some_from (count s j - 1) (next s (child j))

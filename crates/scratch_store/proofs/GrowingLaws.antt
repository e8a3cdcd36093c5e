-- No single change takes back a count of what is emitted.
use Rattle.std.proofs.Common.{ℕ, List, arith}
use Rattle.bytecode.specs.declared.Op.{Op}
use Rattle.lowering.specs.Pools.{Name, emits, push_name}
use Rattle.expr_model.specs.Made.{emit, add_name, at_depth}
use Rattle.scratch_store.specs.Does.{Growing}

pub growing-emit : (op : Op) (pos n : ℕ) → Growing (emit op pos n)
unfolding emit emits
growing-emit op pos n = record { each = λ a. omega arith }

pub growing-name : (s : List ℕ) (n : Name) → Growing (add_name s n)
unfolding add_name push_name
growing-name s n = record { each = λ a. omega arith }

pub growing-depth : (d : ℕ) → Growing (at_depth d)
unfolding at_depth
growing-depth d = record { each = λ a. omega arith }

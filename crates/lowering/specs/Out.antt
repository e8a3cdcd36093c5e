-- The answer of the lowering of one node, and the shape of every such lowering.
use Rattle.std.specs.Prelude.{ℕ, [], ◌∷◌, ◌++◌, length}
use Rattle.bytecode.specs.declared.Op.{Op}
use Rattle.bytecode.specs.declared.Op.TheVariants.{EvalAst}
use Rattle.lowering.specs.Code.{Code, ins, no_pos}
use Rattle.lowering.specs.Pools.{Pools, emits, push_residual}

pub record Out : Type 0 where
  pub code : Code
  pub pools : Pools

abbrev pub out : Code → Pools → Out
out code pools = record { code = code; pools = pools }

-- the lowering of node j, with its first instruction at place b, depth d there, and pools p, in this order
abbrev pub Rec : Type 0
Rec = ℕ → ℕ → ℕ → Pools → Out

-- o, then the instructions c
unfoldable pub and_then : Out → Code → Out
and_then o c = out (o.code ++ c) (emits (length c) o.pools)

-- one instruction
unfoldable pub emit_at : Op → ℕ → ℕ → Pools → Out
emit_at op pos d p = out (ins op d pos ∷ []) (emits 1 p)

-- node j kept as it is
unfoldable pub residual_expr : ℕ → ℕ → Pools → Out
residual_expr j d p = emit_at (EvalAst (length p.residuals)) no_pos d (push_residual j p)

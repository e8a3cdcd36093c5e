-- The lowering step by step: what has been made so far, and what emitting an instruction or adding to a pool changes of it.
use Rattle.std.specs.Prelude.{ℕ, suc, ◌+◌, ◌-◌, List, [], ◌∷◌, ◌++◌, length, get_or}
use Rattle.bytecode.specs.declared.Op.{Op}
use Rattle.bytecode.specs.declared.Op.TheVariants.{EvalAst}
use Rattle.bytecode.specs.Op.{op_words}
use Rattle.bytecode.specs.Effect.{effect, popped}
use Rattle.lowering.specs.Code.{Code, ins, no_pos}
use Rattle.lowering.specs.Pools.{Const, Name, Pools, no_pools, emits, defeat, push_const, push_name, push_token, push_residual}
use Rattle.lowering.specs.Expression.{expression}

-- code, pools, and the depth at the next instruction
pub record Made : Type 0 where
  pub code : Code
  pub pools : Pools
  pub depth : ℕ

abbrev pub made : Code → Pools → ℕ → Made
made code pools depth = record { code = code; pools = pools; depth = depth }

unfoldable pub nothing : Made
nothing = made [] no_pools 0

-- the place of the next instruction
abbrev pub place : Made → ℕ
place a = length a.code

-- other pools, the same code and depth
abbrev pub with : (Pools → Pools) → Made → Made
with f a = made a.code (f a.pools) a.depth

-- the depth after an instruction at depth d; n is what a Chain pops
unfoldable pub after : Op → ℕ → ℕ → ℕ
after op n d =
    let w = op_words op in
    let e = effect (get_or w 0 0) in
    d - (e.pops + popped e.count (get_or w 1 0) (get_or w 2 0) n) + e.pushes

unfoldable pub emit : Op → ℕ → ℕ → Made → Made
emit op pos n a = made (a.code ++ (ins op a.depth pos ∷ [])) (emits 1 a.pools) (after op n a.depth)

unfoldable pub add_const : List ℕ → Const → Made → Made
add_const s c a = with (push_const s c) a

unfoldable pub add_name : List ℕ → Name → Made → Made
add_name s n a = with (push_name s n) a

unfoldable pub add_token : ℕ → Made → Made
add_token t a = with (push_token t) a

unfoldable pub add_residual : ℕ → Made → Made
add_residual j a = with (push_residual j) a

unfoldable pub defeated : Made → Made
defeated a = with defeat a

-- the depth where a jump comes in
unfoldable pub at_depth : ℕ → Made → Made
at_depth d a = made a.code a.pools d

-- code and depth as they were at a₀; pools and counts stay
unfoldable pub take_back : Made → Made → Made
take_back a₀ a = made a₀.code a.pools a₀.depth

-- node j kept as it is
unfoldable pub residual : ℕ → Made → Made
residual j a = emit (EvalAst (length a.pools.residuals)) no_pos 0 (add_residual j a)

-- node j lowered
unfoldable pub lowered : ℕ → List ℕ → ℕ → Made → Made
lowered levels s j a =
    let o = expression levels s j (length a.code) a.depth a.pools in
    made (a.code ++ o.code) o.pools (suc a.depth)

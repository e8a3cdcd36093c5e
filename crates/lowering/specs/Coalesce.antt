-- Coalesce: operands from left to right up to the first that is not unit. The last one decides where all others are unit.
use Rattle.std.specs.Prelude.{ℕ, suc, ◌+◌, ◌-◌, List, [], ◌∷◌, ◌++◌, length}
use Rattle.sheet.specs.Node.{count, child}
use Rattle.sheet.specs.Walk.{skip}
use Rattle.bytecode.specs.declared.Op.TheVariants.{SkipIfNotUnit, Pop}
use Rattle.lowering.specs.Code.{Code, ins}
use Rattle.lowering.specs.Pools.{Pools}
use Rattle.lowering.specs.Out.{Out, out, Rec}
use Rattle.lowering.specs.ShortCircuit.{Fragment, fragments, extent}

-- each operand but the last: its value stays if it is not unit, else it is dropped
unfoldable pub skipped : ℕ → ℕ → List Fragment → Code
skipped t d [] = []
skipped t d (f ∷ fs) = f.code ++ (ins (SkipIfNotUnit t) (suc d) f.pos ∷ ins Pop (suc d) f.pos ∷ skipped t d fs)

unfoldable pub coalesce : List ℕ → Rec → ℕ → ℕ → ℕ → Pools → Out
coalesce s rec j b d p =
    let r = fragments s rec 2 (count s j - 1) (child j) b d p in
    let e = b + extent 2 r.parts in
    let o = rec (skip s (count s j - 1) (child j)) e d r.pools in
    out (skipped (e + length o.code) d r.parts ++ o.code) o.pools

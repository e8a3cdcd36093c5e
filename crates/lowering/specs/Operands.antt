-- Siblings lowered one after another, each leaving its value: arguments of a call.
use Rattle.std.specs.Prelude.{ℕ, zero, suc, ◌+◌, List, [], ◌++◌, length}
use Rattle.sheet.specs.Node.{next}
use Rattle.lowering.specs.Pools.{Pools}
use Rattle.lowering.specs.Out.{Out, out, Rec}

-- n siblings from node j on
unfoldable pub operands : List ℕ → Rec → ℕ → ℕ → ℕ → ℕ → Pools → Out
operands s rec zero j b d p = out [] p
operands s rec (suc n) j b d p =
    let o = rec j b d p in
    let r = operands s rec n (next s j) (b + length o.code) (suc d) o.pools in
    out (o.code ++ r.code) r.pools

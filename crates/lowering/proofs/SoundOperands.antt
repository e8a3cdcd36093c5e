-- Siblings one after another: n of them take depth d to d + n.
use Prim.Native.Nat.{ℕ, zero, suc, ◌+◌}
use mathlib.Core.Path.{sym, ◌∙◌}
use mathlib.Core.List.{List}
use lib.ListN.{length}
use native.Mathlib.Nat.{add-zero, suc-add, add-suc}
use Rattle.sheet.specs.Node.{next}
use Rattle.lowering.specs.Pools.{Pools}
use Rattle.lowering.specs.Out.{Rec}
use Rattle.lowering.specs.Operands.{operands}
use Rattle.lowering.proofs.Meets.{Meets}
use Rattle.lowering.proofs.Lowers.{Done, lowers-none, lowers-seq, lowers-to, meets_at}

module _ (s : List ℕ) (rec : Rec) (M : Meets rec) where
  pub operands-done : (n j b d : ℕ) (p : Pools) → Done p b d (d + n) (operands s rec n j b d p)
  unfolding operands
  operands-done zero j b d p = lowers-to (sym (add-zero d)) lowers-none
  operands-done (suc n) j b d p =
      let o = rec j b d p in
      let rest = operands-done n (next s j) (b + length o.code) (suc d) o.pools in
      lowers-to (suc-add d n ∙ sym (add-suc d n)) (lowers-seq (meets_at M j b d p) rest)

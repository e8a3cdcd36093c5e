-- Siblings, in each of the ways in which the lowering takes them, add what the sum of their tallies says.
use Prim.Native.Nat.{ℕ, zero, suc, ◌+◌}
use mathlib.Core.Path.{sym}
use mathlib.Core.List.{List}
use lib.ListN.{length, length-append}
use Rattle.sheet.specs.Node.{next, position}
use Rattle.bytecode.specs.declared.Op.TheVariants.{CheckSize, InterpolateAppend}
use Rattle.lowering.specs.Code.{ins}
use Rattle.lowering.specs.Pools.{Pools, emits}
use Rattle.lowering.specs.Out.{Rec}
use Rattle.lowering.specs.Operands.{operands}
use Rattle.lowering.specs.Array.{elements}
use Rattle.lowering.specs.Interpolated.{segments}
use Rattle.lowering.specs.ShortCircuit.{fragments, extent}
use Rattle.expr_count.specs.Tally.{instructions, nothing, plus}
use Rattle.expr_count.proofs.TallyLaws.{plus-nothing}
use Rattle.expr_count.specs.Count.{siblings}
use Rattle.expr_count.specs.Count as Count
use Rattle.expr_count.proofs.Adds.{Adds, OutAdds, Counts, adds_none, adds-emits, adds-seq, adds-length, adds-tally, length-around}

module _ (s : List ℕ) (rec : Rec) (t : Count.Rec) (C : Counts rec t) where
  -- no gap
  alone-adds : (j b d : ℕ) (p : Pools) → OutAdds p (plus (t j) (instructions 0)) (rec j b d p)
  unfolding nothing
  alone-adds j b d p = adds-tally (sym (plus-nothing (t j))) (C.each j b d p)

  pub operands-add : (n j b d : ℕ) (p : Pools) → OutAdds p (siblings s t 0 n j) (operands s rec n j b d p)
  unfolding siblings operands
  operands-add zero j b d p = adds_none p
  operands-add (suc n) j b d p =
      let o = rec j b d p in
      let r = operands s rec n (next s j) (b + length o.code) (suc d) o.pools in
      adds-length (length-append o.code r.code)
      (adds-seq (alone-adds j b d p) (operands-add n (next s j) (b + length o.code) (suc d) o.pools))

  -- one node as the only sibling
  pub single-adds : (j b d : ℕ) (p : Pools) → OutAdds p (siblings s t 0 1 j) (rec j b d p)
  unfolding siblings
  single-adds j b d p = adds-tally (sym (plus-nothing (plus (t j) (instructions 0)))) (alone-adds j b d p)

  pub elements-add : (n i j b d : ℕ) (p : Pools) → OutAdds p (siblings s t 1 n j) (elements s rec n i j b d p)
  unfolding siblings elements
  elements-add zero i j b d p = adds_none p
  elements-add (suc n) i j b d p =
      let o = rec j b d p in
      let r = elements s rec n (suc i) (next s j) (b + length o.code + 1) (suc d) (emits 1 o.pools) in
      adds-length (length-around o.code (ins (CheckSize i) (suc d) (position s j)) r.code)
      (adds-seq (adds-seq (C.each j b d p) (adds-emits 1 o.pools))
      (elements-add n (suc i) (next s j) (b + length o.code + 1) (suc d) (emits 1 o.pools)))

  pub segments-add : (n j b d : ℕ) (p : Pools) → OutAdds p (siblings s t 1 n j) (segments s rec n j b d p)
  unfolding siblings segments
  segments-add zero j b d p = adds_none p
  segments-add (suc n) j b d p =
      let o = rec j b d p in
      let r = segments s rec n (next s j) (b + length o.code + 1) d (emits 1 o.pools) in
      adds-length (length-around o.code (ins InterpolateAppend (suc d) (position s j)) r.code)
      (adds-seq (adds-seq (C.each j b d p) (adds-emits 1 o.pools))
      (segments-add n (next s j) (b + length o.code + 1) d (emits 1 o.pools)))

  -- fragments, with the gaps that are to come
  pub fragments-add : (gap n j b d : ℕ) (p : Pools)
      → Adds p (siblings s t gap n j) (extent gap (fragments s rec gap n j b d p).parts) (fragments s rec gap n j b d p).pools
  unfolding siblings fragments extent
  fragments-add gap zero j b d p = adds_none p
  fragments-add gap (suc n) j b d p =
      let o = rec j b d p in
      adds-seq (adds-seq (C.each j b d p) (adds-emits gap o.pools))
      (fragments-add gap n (next s j) (b + length o.code + gap) d (emits gap o.pools))

-- docs/PORT.md names these laws of the answer of the pass, by the word of a slot.
use Rattle.std.proofs.Common.{◌≡◌, ℕ, suc, ◌-◌, sym, ap, arith, Some, None}
use Rattle.scratch_locals.specs.Pass.{found_by}

pub found_none : (a : ℕ) → a ≡ 0 → None ≡ found_by a
unfolding found_by
found_none a e = sym (ap found_by e)

pub found_some : (a : ℕ) → (a ≡ 0 → ⊥) → Some (a - 1) ≡ found_by a
unfolding found_by
found_some a ne = let z : a ≡ suc (a - 1) = omega arith in sym (ap found_by z)

-- `expr_count::tallies::spaced` meets its contract: the sum of 32-bit numbers and their product fits 64 bits.
use Prim.Native.Nat.{ℕ, ◌*◌, ◌≤◌}
use native.Mathlib.Nat.{mul-le-mul_right}
use native.Mathlib.Omega.{arith}
use Rattle.expr_count.specs.Tally.{instructions}
use borrow.Author.Rules.{rules}
use Rattle.expr_count.proofs.tallies.spaced.Goals as goal

most : (a b : ℕ) → a ≤ 4294967295 → b ≤ 4294967295 → a * b ≤ 18446744065119617025
most a b h k = omega (arith, mul-le-mul_right b h)

pub overflow_mul-from : goal.overflow_mul-from
overflow_mul-from c = omega (arith, most c.from-2.result c.from-3.result (omega arith) (omega arith))

pub overflow_add-from : goal.overflow_add-from
overflow_add-from c = omega (arith, most c.from-2.result c.from-3.result (omega arith) (omega arith))

pub returns : goal.returns
unfolding instructions
returns c = search rules

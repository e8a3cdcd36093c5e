-- `needs::over_limits` meets its contract: one law for each number.
use native.Mathlib.Omega.{arith}
use Rattle.needs.proofs.CountLaws.{reached, above, within, over-is}
use Rattle.needs.proofs.over_limits.Goals as goal

pub returns-then-t : goal.returns-then-t
returns-then-t c = over-is (reached c.if-t.true)

pub returns-then-t-gt-MAX_EMITTED : goal.returns-then-t-gt-MAX_EMITTED
returns-then-t-gt-MAX_EMITTED c = over-is (above c.if-t.false (omega arith))

pub returns : goal.returns
returns c = over-is (within c.if-t.false (omega arith))

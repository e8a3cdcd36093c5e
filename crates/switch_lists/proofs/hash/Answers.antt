-- `switch_lists::hash` meets its contract. The invariant is `Mixing`: what is left of the list gives the whole hash.
use native.Mathlib.Omega.{arith}
use Rattle.switch_lists.proofs.HashLaws.{mixing-start, mixing-on, mixing-end}
use Rattle.switch_lists.proofs.hash.Goals as goal

pub loop-x-init : goal.loop-x-init
loop-x-init c = mixing-start _

pub overflow_mul-h : goal.overflow_mul-h
overflow_mul-h c = omega (arith, c.loop-x.invariant.small)

pub loop-x-preserved : goal.loop-x-preserved
loop-x-preserved c = mixing-on _ _ _ _ c.loop-x.invariant (omega arith) c.from.ensures

pub returns : goal.returns
returns c = mixing-end _ _ _ c.loop-x.invariant (omega arith)

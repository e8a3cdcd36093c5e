-- `scratch_keys::namespace_of` meets its contract: only a node's own name has one.
use native.Mathlib.Omega.{arith}
use Rattle.scratch_keys.proofs.KeyLaws.{namespace-own, namespace-none}
use Rattle.scratch_keys.proofs.namespace_of.Goals as goal

pub returns-then-k-eq-OWN : goal.returns-then-k-eq-OWN
returns-then-k-eq-OWN c = namespace-own _ _ (omega arith) c.namespace.ensures

pub returns : goal.returns
returns c = namespace-none _ _ c.if-k-eq-OWN.false

-- `check_texts::Texts::total` meets its contract: the sum fits. The loop's invariant: it is below 2 ^ 32 for
-- each text passed. Assumes nothing.
use Prim.Native.Nat.{◌≤◌, ◌*◌, ◌^◌}
use Rattle.check_texts.proofs.Texts.total.Given as goal

abbrev pub invariant-loop-t : goal.invariant-loop-t
invariant-loop-t l = l.sum ≤ l.t * 2 ^ 32

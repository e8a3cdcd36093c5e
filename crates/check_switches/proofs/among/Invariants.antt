-- `check_switches::among` meets its contract. The loop's invariant: where nothing was found, no number passed is the key.
use Prim.Native.Nat.{ℕ, ◌<◌}
use mathlib.Core.Path.{◌≡◌}
use mathlib.Core.Bool.{false}
use lib.ListN.{get_or}
use Rattle.check_switches.proofs.among.Given as goal

abbrev pub invariant-loop-x : goal.invariant-loop-x
invariant-loop-x l = l.found ≡ false → (i : ℕ) → i < l.x-index → get_or l.k i 0 ≡ l.key → ⊥

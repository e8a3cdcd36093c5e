-- `check_switches::keys_apart` meets its contract. Invariant: the numbers of the cases passed are kept, and differ.
use Prim.Native.Nat.{◌≤◌}
use mathlib.Core.Path.{◌≡◌}
use lib.ListN.{length}
use Rattle.sheet.specs.Rest.{rest}
use Rattle.sheet.proofs.WalkedLaws.{Walked}
use Rattle.check_switches.proofs.KeyLaws.{Keys}
use Rattle.check_switches.proofs.keys_apart.Given as goal

abbrev pub invariant-loop-n : goal.invariant-loop-n
invariant-loop-n l =
    (l.m ≤ 64) × (length l.k ≡ 64) × Keys l.sheet l.at l.n-iterator.count l.k
    × Walked l.sheet l.at l.m l.n-iterator.count (rest l.n-iterator.iter)

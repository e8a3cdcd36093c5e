-- Noise in a buffer: one word more.
use Prim.Native.Nat.{ℕ, ◌+◌, ◌<◌}
use native.Mathlib.Omega.{arith}
use mathlib.Core.Path.{◌≡◌, refl, ◌∙◌}
use mathlib.Core.Bool.{Bool, true, false}
use mathlib.Core.List.{List}
use lib.Dec.{eqb}
use lib.ListN.{length, get_or, set}
use lib.Seq.{get_or-set_same, get_or-set_other}
use borrow.Author.Tests.{eqb-true, eqb-false}
use Rattle.replay_records.specs.Left.{noise, Noisy}

-- one word more is noise
pub noisy-more : (xs : List ℕ) (k v : ℕ) → k < length xs → Noisy k xs → v ≡ noise k → Noisy (k + 1) (set xs k v)
noisy-more xs k v h n e i l = by (eqb i k) refl
  where
    by : (t : Bool) → eqb i k ≡ t → get_or (set xs k v) i 0 ≡ noise i
    by true q = let same = eqb-true i k q in rw (same, get_or-set_same xs k v 0 h) e
    by false q = let other = eqb-false i k q in get_or-set_other xs k i v 0 other ∙ n i (omega (arith, other))

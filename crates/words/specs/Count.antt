-- A test of every number below a bound.
use Rattle.std.specs.Prelude.{ℕ, zero, suc, Bool, true, false}

-- the test f passes at each number below n
unfoldable pub all_below : ℕ → (ℕ → Bool) → Bool
all_below zero f = true
all_below (suc n) f = elim (all_below n f) [ true ↦ f n | false ↦ false ]

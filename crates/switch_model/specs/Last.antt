-- The last number below n that passes a test, plus 1; 0 where there is none.
use Rattle.std.specs.Prelude.{ℕ, zero, suc, Bool, true, false}

unfoldable pub last_of : (ℕ → Bool) → ℕ → ℕ
last_of test zero = 0
last_of test (suc n) = elim (test n) [ true ↦ suc n | false ↦ last_of test n ]

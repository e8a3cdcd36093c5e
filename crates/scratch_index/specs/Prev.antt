-- The entry before another in its bucket, by recursion on ranks: no list of a bucket is made.
use Rattle.std.specs.Prelude.{ℕ, zero, suc, true, false, ◌==◌}

-- the greatest entry below n with bucket b, plus 1, or 0
unfoldable pub prev : (ℕ → ℕ) → ℕ → ℕ → ℕ
prev bucket zero b = 0
prev bucket (suc n) b = elim (bucket n == b) [ true ↦ suc n | false ↦ prev bucket n b ]

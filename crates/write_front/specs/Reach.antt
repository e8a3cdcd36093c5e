-- Whether n elements from place at on reach beyond the end of a list of length m.
use Rattle.std.specs.Prelude.{ℕ, ◌+◌, ◌≤◌, ◌<◌, ◌≡◌, Bool, true, false}

pub record Reach (m at n : ℕ) (r : Bool) : Type 0 where
  pub beyond : r ≡ true → m < at + n
  pub within : r ≡ false → at + n ≤ m

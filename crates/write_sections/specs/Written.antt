-- A list that is written from its start on: what is written, and behind it what stood there.
use Rattle.std.specs.Prelude.{ℕ, ◌≤◌, ◌≡◌, List, ◌++◌, length, drop}

pub record Written (x₀ x done : List ℕ) : Type 0 where
  pub whole : x ≡ done ++ drop (length done) x₀
  pub fits : length done ≤ length x₀

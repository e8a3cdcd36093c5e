-- A list that lent room holds at its front, with its length beside it.
use Rattle.std.specs.Prelude.{ℕ, ◌≡◌, List, length, take}

-- the first n words are exactly xs
pub record Listed (room : List ℕ) (n : ℕ) (xs : List ℕ) : Type 0 where
  pub items : take n room ≡ xs
  pub count : n ≡ length xs

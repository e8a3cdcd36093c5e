-- A list that is written from place at on: x becomes y by ys, and r is the place behind them, where they fit.
use Rattle.std.specs.Prelude.{ℕ, ◌+◌, ◌≤◌, ◌≡◌, List, length}
use Rattle.write_sections.specs.Put.{put_part}

pub record Puts (x y : List ℕ) (at r : ℕ) (ys : List ℕ) : Type 0 where
  pub whole : at + length ys ≤ length x → y ≡ put_part x at (length ys) ys
  pub end : at + length ys ≤ length x → r ≡ at + length ys

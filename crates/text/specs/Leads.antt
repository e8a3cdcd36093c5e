-- What the code holds of the row of a first byte.
use Rattle.std.specs.Prelude.{ℕ, ◌≡◌}
use Rattle.text.specs.Utf8.{row_of}

-- the row's numbers, as the code holds them
pub record Leads (b n low high : ℕ) : Type 0 where
  pub tails : n ≡ (row_of b).tails
  pub least : low ≡ (row_of b).low
  pub greatest : high ≡ (row_of b).high

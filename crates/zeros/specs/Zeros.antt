-- As many zeros as wanted.
use Rattle.std.specs.Prelude.{ℕ, ◌≡◌, List, length, replicate}

abbrev pub zeros : ℕ → List ℕ
zeros n = replicate n 0

-- every word has become 0
pub record Zeroed (before after : List ℕ) : Type 0 where
  pub is : after ≡ zeros (length before)

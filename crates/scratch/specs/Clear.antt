-- Words that are set to 0.
use Rattle.std.specs.Prelude.{ℕ, zero, suc, ◌+◌, List, set}

-- n words from place at on
unfoldable pub cleared : ℕ → ℕ → List ℕ → List ℕ
cleared at zero xs = xs
cleared at (suc n) xs = set (cleared at n xs) (at + n) 0

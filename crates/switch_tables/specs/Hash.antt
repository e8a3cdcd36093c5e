-- A hash of a list of blocks. Of it nothing is used but that it is a function.
use Rattle.std.specs.Prelude.{ℕ, ◌+◌, ◌*◌, ◌/◌, ◌%◌, List, [], ◌∷◌, length}

unfoldable pub mixed : ℕ → List ℕ → ℕ
mixed h [] = h % 4294967296
mixed h (x ∷ xs) = mixed ((h + x + 1) % 4294967296 * 2654435769 / 65536) xs

unfoldable pub hash_of : List ℕ → ℕ
hash_of l = mixed (length l) l

-- Hashes: a fold over all bytes, or over some numbers, and one product more to spread it over all words.
use Rattle.std.specs.Prelude.{ℕ, ◌+◌, ◌*◌, ◌%◌, List, [], ◌∷◌}

-- one byte more
abbrev pub byte_step : ℕ → ℕ → ℕ
byte_step h b = (h * 16777619 + b + 1) % 4294967296

unfoldable pub fold_hash : ℕ → List ℕ → ℕ
fold_hash h [] = h
fold_hash h (b ∷ bs) = fold_hash (byte_step h b) bs

-- four bytes at a time: the same by the powers of the factor
abbrev pub four_steps : ℕ → ℕ → ℕ → ℕ → ℕ → ℕ
four_steps h a b c d =
    (h * 1345077009 + (a + 1) * 1055306571 + (b + 1) * 637696617 + (c + 1) * 16777619 + d + 1) % 4294967296

abbrev pub spread : ℕ → ℕ
spread h = (h * 2654435761) % 4294967296

unfoldable pub bytes_hash : List ℕ → ℕ
bytes_hash bs = spread (fold_hash 0 bs)

-- one number more
abbrev pub step : ℕ → ℕ → ℕ
step h v = (h * 16777619 + v) % 4294967296

-- of three numbers
unfoldable pub mix : ℕ → ℕ → ℕ → ℕ
mix k a b = step (step (step (step 0 a) b) k) 1

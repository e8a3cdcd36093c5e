-- Checksums and lengths of the edges.
use Rattle.std.specs.Prelude.{ℕ, ◌+◌, ◌*◌, ◌%◌, List}
use Rattle.std.specs.List.{fold}
use Rattle.sheet.specs.Limits.{header_words, node_words}

-- a checksum with one word more
abbrev pub mixed : ℕ → ℕ → ℕ
mixed sum w = (31 * sum + w) % 4294967291

-- with each word of a list in turn
abbrev pub mixed_all : ℕ → List ℕ → ℕ
mixed_all sum ws = fold mixed sum ws

abbrev pub checksum : List ℕ → ℕ
checksum ws = mixed_all 0 ws

-- the bytes of a sheet of n nodes and x texts of up to four bytes, without locals
abbrev pub sheet_bytes : ℕ → ℕ → ℕ
sheet_bytes n x = 4 * (header_words + (node_words + 1) * n + 3 * x)

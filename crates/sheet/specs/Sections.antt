-- Where the sections of a sheet stand. A sheet is a byte string; its sizes come first, and each section starts where the one before it
-- ends. Offsets are in words. All is said of what reads the words (names that end in `By`), and then of the sheet's own words.
use Rattle.std.specs.Prelude.{ℕ, ◌+◌, ◌*◌, ◌/◌, List}
use Rattle.words.specs.Word.{word}
use Rattle.sheet.specs.Limits.{header_words, node_words}

-- what reads word i
abbrev pub Words : Type 0
Words = ℕ → ℕ

-- the sizes: N nodes, X texts, B text bytes, L locals
abbrev pub node_count_by : Words → ℕ
node_count_by w = w 0

abbrev pub text_count_by : Words → ℕ
text_count_by w = w 1

abbrev pub byte_count_by : Words → ℕ
byte_count_by w = w 2

abbrev pub local_count_by : Words → ℕ
local_count_by w = w 3

-- the words that n bytes take, padded
abbrev pub padded : ℕ → ℕ
padded n = (n + 3) / 4

-- positions, starts and lengths of texts, text bytes, locals
abbrev pub positions_at_by : Words → ℕ
positions_at_by w = header_words + node_words * node_count_by w

abbrev pub starts_at_by : Words → ℕ
starts_at_by w = positions_at_by w + node_count_by w

abbrev pub lengths_at_by : Words → ℕ
lengths_at_by w = starts_at_by w + text_count_by w

abbrev pub bytes_at_by : Words → ℕ
bytes_at_by w = lengths_at_by w + text_count_by w

abbrev pub locals_at_by : Words → ℕ
locals_at_by w = bytes_at_by w + padded (byte_count_by w)

abbrev pub end_at_by : Words → ℕ
end_at_by w = locals_at_by w + local_count_by w

-- ---- of a sheet

abbrev pub node_count : List ℕ → ℕ
node_count s = node_count_by (word s)

abbrev pub text_count : List ℕ → ℕ
text_count s = text_count_by (word s)

abbrev pub byte_count : List ℕ → ℕ
byte_count s = byte_count_by (word s)

abbrev pub local_count : List ℕ → ℕ
local_count s = local_count_by (word s)

abbrev pub positions_at : List ℕ → ℕ
positions_at s = positions_at_by (word s)

abbrev pub starts_at : List ℕ → ℕ
starts_at s = starts_at_by (word s)

abbrev pub lengths_at : List ℕ → ℕ
lengths_at s = lengths_at_by (word s)

abbrev pub bytes_at : List ℕ → ℕ
bytes_at s = bytes_at_by (word s)

abbrev pub locals_at : List ℕ → ℕ
locals_at s = locals_at_by (word s)

abbrev pub end_at : List ℕ → ℕ
end_at s = end_at_by (word s)

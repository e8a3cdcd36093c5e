-- A sheet in a record, and what pads it to a word.
use Rattle.std.specs.Prelude.{ℕ, ◌≡◌, Option, List, ◌++◌, length}
use Rattle.std.specs.Int.{next_multiple_of}
use Rattle.std.specs.Io.KnownBytes.{Consumes}

-- the bytes of a sheet of n bytes with its padding
abbrev pub padded : ℕ → ℕ
padded n = next_multiple_of n 4

-- a sheet of n bytes was read, and as many bytes behind it as pad it to a word
pub record SheetRead (before after : Option (List ℕ)) (n : ℕ) (sheet : List ℕ) : Type 0 where
  pub size : length sheet ≡ n
  pub padding : List ℕ
  pub whole : length (sheet ++ padding) ≡ padded n
  pub reads : Consumes before after (sheet ++ padding)

-- Bytes that are all ASCII, and texts that all lie within the text bytes.
use Rattle.std.specs.Prelude.{ℕ, ◌+◌, ◌<◌, Bool, List, leb, get_or}
use Rattle.sheet.specs.Sections.{byte_count}
use Rattle.sheet.specs.Text.{text_start, text_length}

-- the bytes below i are ASCII
pub record PlainTo (s : List ℕ) (i : ℕ) : Type 0 where
  pub below : (k : ℕ) → k < i → get_or s k 0 < 128

-- text t lies within the B text bytes
unfoldable pub inside : List ℕ → ℕ → Bool
inside s t = leb (text_start s t + text_length s t) (byte_count s)

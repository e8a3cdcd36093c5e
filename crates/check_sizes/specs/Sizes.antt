-- Refusal 1: length, padding or a size wrong.
use Rattle.std.specs.Prelude.{ℕ, ◌+◌, ◌*◌, Bool, ◌&&◌, ◌||◌, List, leb, eqb, length}
use Rattle.words.specs.Word.{byte_of}
use Rattle.sheet.specs.Limits.{max_nodes, max_texts, max_bytes, max_locals}
use Rattle.sheet.specs.Sections.{node_count, text_count, byte_count, local_count, padded, bytes_at, end_at}

-- each size is within its limit
unfoldable pub limits_ok : List ℕ → Bool
limits_ok s =
    leb 1 (node_count s)
    && leb (node_count s) max_nodes
    && leb (text_count s) max_texts
    && leb (byte_count s) max_bytes
    && leb (local_count s) max_locals

-- the sheet has the bytes of its sections, and none after them
unfoldable pub length_ok : List ℕ → Bool
length_ok s = eqb (length s) (4 * end_at s)

-- the k-th byte after the text bytes is 0, unless their last word has ended
unfoldable pub pad_ok : List ℕ → ℕ → Bool
pad_ok s k = leb (4 * padded (byte_count s)) (byte_count s + k) || eqb (byte_of s (4 * bytes_at s + byte_count s + k)) 0

-- the text bytes are padded with zeros
unfoldable pub padding_ok : List ℕ → Bool
padding_ok s = pad_ok s 0 && pad_ok s 1 && pad_ok s 2

-- nothing of refusal 1
unfoldable pub sizes_ok : List ℕ → Bool
sizes_ok s = limits_ok s && length_ok s && padding_ok s

-- What is kept of a fold over long bytes b: its value at the end of each block of 1,024 bytes, one word for each block, from place at on.
-- With it the fold over any part costs less than two blocks and a power of the fold's factor.
use Rattle.std.specs.Prelude.{ℕ, zero, suc, ◌+◌, ◌-◌, ◌*◌, ◌/◌, ◌%◌, ◌≤◌, min, ◌≡◌, Bool, true, false, List, ltb, length, get_or, set, take}
use Rattle.std.specs.Prelude.{drop}
use Rattle.words.specs.Count.{all_below}
use Rattle.sheet.specs.Limits.{max_bytes}
use Rattle.sheet.specs.Sections.{text_count, byte_count, bytes_at}
use Rattle.sheet.specs.Text.{text_length}
use Rattle.scratch_folds.specs.Hash.{fold_hash}

-- bytes of a block
abbrev pub block : ℕ
block = 1024

-- the factor of the fold
abbrev pub factor : ℕ
factor = 16777619

-- a product as a word
abbrev pub times : ℕ → ℕ → ℕ
times a b = (a * b) % 4294967296

-- the power of a, as a word
unfoldable pub power_of : ℕ → ℕ → ℕ
power_of a zero = 1
power_of a (suc n) = times (power_of a n) a

-- the fold over what stands behind a front: p is that of the front, e that of both, and w the power by the length of what stands behind
unfoldable pub behind : ℕ → ℕ → ℕ → ℕ
behind e p w = (e + 4294967296 - times p w) % 4294967296

-- the fold over the first i bytes
abbrev pub fold_to : List ℕ → ℕ → ℕ
fold_to b i = fold_hash 0 (take i b)

-- the words xs have the folds up to the ends of all whole blocks of b
pub record Ends (b : List ℕ) (at : ℕ) (xs : List ℕ) : Type 0 where
  pub kept : (k : ℕ) → (k + 1) * block ≤ length b → get_or xs (at + k) 0 ≡ fold_to b ((k + 1) * block)

-- the words after those of the first n blocks are written
unfoldable pub filled : List ℕ → ℕ → ℕ → List ℕ → List ℕ
filled b at zero xs = xs
filled b at (suc n) xs = set (filled b at n xs) (at + n) (fold_to b (suc n * block))

-- r is the fold over the first i bytes, by what is kept
pub record FoldsTo (b : List ℕ) (at : ℕ) (xs : List ℕ) (i r : ℕ) : Type 0 where
  pub is : Ends b at xs → i ≤ length b → r ≡ fold_to b i

-- r is v, by what is kept
pub record ByEnds (b : List ℕ) (at : ℕ) (xs : List ℕ) (v r : ℕ) : Type 0 where
  pub is : Ends b at xs → r ≡ v

-- a text of this length is long: two ends and a power are less than its bytes
abbrev pub long : ℕ
long = 1152

abbrev pub is_short : List ℕ → ℕ → Bool
is_short s t = ltb (text_length s t) long

-- no text of the sheet is long: then nothing is kept
unfoldable pub all_short : List ℕ → Bool
all_short s = all_below (text_count s) (is_short s)

-- the bytes of which something is kept: all text bytes that the format allows, so 1,024 words are enough
unfoldable pub summed_bytes : List ℕ → List ℕ
summed_bytes s = take (min (byte_count s) max_bytes) (drop (4 * bytes_at s) s)

-- the words after those for sheet s are written
unfoldable pub summed_by : Bool → List ℕ → ℕ → List ℕ → List ℕ
summed_by true s at xs = xs
summed_by false s at xs = filled (summed_bytes s) at (length (summed_bytes s) / block) xs

abbrev pub summed : List ℕ → ℕ → List ℕ → List ℕ
summed s at xs = summed_by (all_short s) s at xs

-- the words xs have what is kept for the sheet
pub record Sums (s : List ℕ) (at : ℕ) (xs : List ℕ) : Type 0 where
  pub ends : all_short s ≡ false → Ends (summed_bytes s) at xs

-- r is v, by what is kept for the sheet
pub record BySums (s : List ℕ) (at : ℕ) (xs : List ℕ) (v r : ℕ) : Type 0 where
  pub is : Sums s at xs → r ≡ v

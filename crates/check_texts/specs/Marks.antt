-- What is kept of a stretch of the text bytes while the texts that start there are checked: a mark for each block, which stands for two
-- places between which there are whole characters. The first lies at the block's end or a little after it, and the second as far
-- behind it as may be.
use Rattle.std.specs.Prelude.{ℕ, ◌+◌, ◌*◌, ◌/◌, ◌%◌, ◌≤◌, ◌<◌, ◌≡◌, Bool, true, false, List, length, get_or, take, drop}
use Rattle.std.proofs.Math.Seq.{slice}
use Rattle.sheet.specs.Sections.{text_count, byte_count, bytes_at}
use Rattle.sheet.specs.Text.{text_start}
use Rattle.text.specs.Utf8.{utf8}
use Rattle.text.specs.Char.{char_length}
use Rattle.check_texts.specs.Texts.{text_ok, texts_ok}

-- the B text bytes of a sheet
unfoldable pub text_bytes : List ℕ → List ℕ
text_bytes s = take (byte_count s) (drop (4 * bytes_at s) s)

-- there are whole characters from i to r
pub record Characters (s : List ℕ) (i r : ℕ) : Type 0 where
  pub least : i ≤ r
  pub most : r ≤ length s
  pub good : utf8 (slice i r s) ≡ true

-- reading characters from i on up to r: r is at `stop` or past it, or where no character starts
pub record Reading (s : List ℕ) (i stop r : ℕ) : Type 0 where
  pub passed : Characters s i r
  pub stuck : r < stop → char_length (drop r s) ≡ 0

-- bytes of a block, and the number of blocks and of bytes of a stretch
abbrev pub block : ℕ
block = 64

abbrev pub blocks : ℕ
blocks = 256

abbrev pub stretch : ℕ
stretch = 16384

-- the two places that mark v of a block with end e stands for
abbrev pub mark_from : ℕ → ℕ → ℕ
mark_from e v = e + v % 4

abbrev pub mark_to : ℕ → ℕ
mark_to v = v / 4

-- v is the mark of a run from p to far, for the block with end e, or 0
pub record Mark (e p far v : ℕ) : Type 0 where
  pub starts : 0 < v → mark_from e v ≡ p
  pub ends : 0 < v → mark_to v ≡ far

-- mark v of the block with end e is true of b: there are whole characters between its places, if they are in order and b goes so far
pub record Holds (b : List ℕ) (e v : ℕ) : Type 0 where
  pub whole : mark_from e v ≤ mark_to v → mark_to v ≤ length b → utf8 (slice (mark_from e v) (mark_to v) b) ≡ true

-- a true mark for each block of the stretch that starts at `base`, from block `first` on
pub record Marks (b : List ℕ) (base first : ℕ) (vs : List ℕ) : Type 0 where
  pub size : length vs ≡ blocks
  pub true_at : (k : ℕ) → first ≤ k → Holds b (base + (k + 1) * block) (get_or vs k 0)

-- the answer for text t, where it is due if it starts from `base` on and before `limit`
pub record Due (s : List ℕ) (t base limit : ℕ) (r : Bool) : Type 0 where
  pub right : r ≡ true → base ≤ text_start s t → text_start s t < limit → text_ok s t ≡ true
  pub wrong : r ≡ false → text_ok s t ≡ false

-- the first n texts that are due are right
pub record Right (s : List ℕ) (base limit n : ℕ) : Type 0 where
  pub each : (t : ℕ) → t < n → base ≤ text_start s t → text_start s t < limit → text_ok s t ≡ true

-- the answer for all texts that are due
pub record AllDue (s : List ℕ) (base limit : ℕ) (r : Bool) : Type 0 where
  pub right : r ≡ true → Right s base limit (text_count s)
  pub wrong : r ≡ false → texts_ok s ≡ false

-- the texts that start from `limit` on are right
pub record Done (s : List ℕ) (limit : ℕ) : Type 0 where
  pub each : (t : ℕ) → t < text_count s → limit ≤ text_start s t → text_ok s t ≡ true

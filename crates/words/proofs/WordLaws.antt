-- Laws of the words of a byte string.
use Prim.Native.Nat.{ℕ, ◌+◌, ◌*◌, ◌≤◌, ◌<◌}
use mathlib.Core.Path.{◌≡◌, refl, ◌∙◌}
use mathlib.Core.List.{List, [], ◌∷◌}
use native.Mathlib.Omega.{arith}
use native.Mathlib.Nat.{add-zero}
use lib.ListN.{length, drop, length-drop, get_or-eq_default}
use lib.Seq.{get_or-drop}
use Rattle.std.specs.Int.{from_le_bytes, w32}
use Rattle.words.specs.Word.{byte_of, from_bytes, front, word}

-- a byte past the end is 0
pub byte_past : (s : List ℕ) (i : ℕ) → length s ≤ i → byte_of s i ≡ 0
byte_past s i h = get_or-eq_default s 0 h

front-whole : (l : List ℕ) → 4 ≤ length l → front l ≡ from_bytes (byte_of l 0) (byte_of l 1) (byte_of l 2) (byte_of l 3)
front-whole [] h = absurd (omega arith)
front-whole (a ∷ []) h = absurd (omega arith)
front-whole (a ∷ b ∷ []) h = absurd (omega arith)
front-whole (a ∷ b ∷ c ∷ []) h = absurd (omega arith)
front-whole (a ∷ b ∷ c ∷ d ∷ r) h = refl

front-short : (l : List ℕ) → length l < 4 → front l ≡ 0
front-short [] h = refl
front-short (a ∷ []) h = refl
front-short (a ∷ b ∷ []) h = refl
front-short (a ∷ b ∷ c ∷ []) h = refl
front-short (a ∷ b ∷ c ∷ d ∷ r) h = absurd (omega arith)

-- a word that is there whole, by the bytes at its place
pub word_bytes : (s : List ℕ) (i : ℕ) → 4 * i + 3 < length s
    → word s i ≡ from_bytes (byte_of s (4 * i)) (byte_of s (4 * i + 1)) (byte_of s (4 * i + 2)) (byte_of s (4 * i + 3))
unfolding word
word_bytes s i h =
    let l = length-drop (4 * i) s in
    front-whole (drop (4 * i) s) (omega arith) ∙ simp (get_or-drop, add-zero)

-- a word that is not there whole is 0
pub word-past : (s : List ℕ) (i : ℕ) → length s < 4 * i + 4 → word s i ≡ 0
unfolding word
word-past s i h = let l = length-drop (4 * i) s in front-short (drop (4 * i) s) (omega arith)

-- a word that is there whole, as std puts four bytes together
pub word-le : (s : List ℕ) (i : ℕ) → 4 * i + 3 < length s
    → from_le_bytes w32 (byte_of s (4 * i) ∷ byte_of s (4 * i + 1) ∷ byte_of s (4 * i + 2) ∷ byte_of s (4 * i + 3) ∷ []) ≡ word s i
word-le s i h = rw (word_bytes s i h) (omega arith)

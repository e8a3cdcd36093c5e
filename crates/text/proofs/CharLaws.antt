-- Laws of the character at an index of a string, in the shapes of a loop over its tail bytes.
use Prim.Native.Nat.{ℕ, suc, ◌+◌, ◌-◌, ◌≤◌, ◌<◌}
use mathlib.Core.Path.{◌≡◌, refl, sym, ◌∙◌}
use mathlib.Core.Bool.{Bool, true, false, ◌&&◌}
use mathlib.Core.List.{List, ◌∷◌}
use native.Mathlib.Numerals.{add-one}
use native.Mathlib.Omega.{arith}
use lib.Dec.{leb}
use lib.ListN.{length, get_or, drop, length-drop, drop_of_length-le}
use lib.Seq.{drop-cons}
use borrow.Author.Tests.{le-leb, lt-leb}
use Rattle.laws.proofs.Bool.{right-fails}
use Rattle.text.specs.Utf8.{within, row_of}
use Rattle.text.specs.Leads.{Leads}
use Rattle.text.specs.Char.{tails_ok, or_zero, char_length}
use Rattle.text.proofs.Utf8Laws.{tails-cons, tails-fit}

-- past the end there is no character
pub char-past : (s : List ℕ) (i : ℕ) → length s ≤ i → char_length (drop i s) ≡ 0
unfolding char_length
char-past s i h = rw (drop_of_length-le s h)

-- what is left of reading a character: `due` tail bytes from j on; its whole length is w
abbrev pub char_left : List ℕ → ℕ → ℕ → ℕ → ℕ → ℕ → ℕ
char_left s due low high j w = or_zero (tails_ok due low high (drop j s)) w

char-cons : (b : ℕ) (s : List ℕ) → char_length (b ∷ s) ≡ char_left s (row_of b).tails (row_of b).low (row_of b).high 0 ((row_of b).tails + 1)
unfolding char_length
char-cons b s = rw add-one

-- at a first byte all its tail bytes are left
char-at : (s : List ℕ) (i : ℕ) → i < length s →
    char_length (drop i s) ≡ char_left s (row_of (get_or s i 0)).tails (row_of (get_or s i 0)).low (row_of (get_or s i 0)).high (i + 1)
    ((row_of (get_or s i 0)).tails + 1)
char-at s i h = rw (drop-cons s i 0 h, add-one i) (char-cons (get_or s i 0) (drop (suc i) s))

pub char-start : (s : List ℕ) (i n low high : ℕ) → i < length s → Leads (get_or s i 0) n low high
    → char_left s (n - 0) low high (i + 1 + 0) (n + 1) ≡ char_length (drop i s)
char-start s i n low high h l =
    let e : n - 0 ≡ n = omega arith in
    let f : i + 1 + 0 ≡ i + 1 = omega arith in
    rw (e, f, l.tails, l.least, l.greatest, char-at s i h)

-- a string too short for the tail bytes that are due
pub char-short : (s : List ℕ) (i n low high : ℕ) → i < length s → Leads (get_or s i 0) n low high → length s - i ≤ n
    → char_length (drop i s) ≡ 0
char-short s i n low high h l short =
    sym (char-start s i n low high h l)
    ∙ by (tails_ok (n - 0) low high (drop (i + 1 + 0) s)) (tails-fit (n - 0) low high (drop (i + 1 + 0) s))
  where
    by : (t : Bool) → (t ≡ true → n - 0 ≤ length (drop (i + 1 + 0) s)) → or_zero t (n + 1) ≡ 0
    by true f = let g = rw length-drop at (f refl) in absurd (omega arith)
    by false f = refl

-- the next tail byte
left-byte : (s : List ℕ) (n k low high j : ℕ) → k < n → j < length s
    → tails_ok (n - k) low high (drop j s) ≡ (within low high (get_or s j 0) && tails_ok (n - (k + 1)) 0x80 0xBF (drop (j + 1) s))
left-byte s n k low high j h p =
    let e : n - k ≡ suc (n - (k + 1)) = omega arith in
    rw (e, drop-cons s j 0 p, add-one j) (tails-cons (n - (k + 1)) low high (get_or s j 0) (drop (suc j) s))

pub char-next : (s : List ℕ) (n k low high i w : ℕ) → k < n → i + k < length s → low ≤ get_or s (i + k) 0 → get_or s (i + k) 0 ≤ high
    → char_left s (n - k) low high (i + k) w ≡ char_left s (n - (k + 1)) 0x80 0xBF (i + (k + 1)) w
char-next s n k low high i w h p l g =
    let e : i + k + 1 ≡ i + (k + 1) = omega arith in
    rw (left-byte s n k low high (i + k) h p, le-leb low (get_or s (i + k) 0) l, le-leb (get_or s (i + k) 0) high g, e)

-- a tail byte that is too small, or too large
pub char-low : (s : List ℕ) (n k low high j w : ℕ) → k < n → j < length s → get_or s j 0 < low → char_left s (n - k) low high j w ≡ 0
char-low s n k low high j w h p l = rw (left-byte s n k low high j h p, lt-leb low (get_or s j 0) l)

pub char-high : (s : List ℕ) (n k low high j w : ℕ) → k < n → j < length s → high < get_or s j 0 → char_left s (n - k) low high j w ≡ 0
char-high s n k low high j w h p l =
    rw (left-byte s n k low high j h p, right-fails (leb low (get_or s j 0)) (leb (get_or s j 0) high) (lt-leb (get_or s j 0) high l))

-- no tail byte is left
pub char-done : (s : List ℕ) (n k low high j w : ℕ) → n ≤ k → char_left s (n - k) low high j w ≡ w
unfolding tails_ok
char-done s n k low high j w h = let e : n - k ≡ 0 = omega arith in rw e

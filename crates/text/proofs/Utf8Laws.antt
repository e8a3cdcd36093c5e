-- Laws of UTF-8: a string is read character by character, and a character that starts anew can be read by itself.
use Prim.Native.Nat.{ℕ, zero, suc, ◌≤◌, ◌<◌}
use mathlib.Core.Path.{◌≡◌, refl, ap, sym, ◌∙◌}
use mathlib.Core.Logic.{◌↔◌}
use mathlib.Core.Bool.{Bool, true, false, not, ◌&&◌, false≢true, true≢false, and_assoc, and-eq-true_iff}
use mathlib.Core.List.{List, [], ◌∷◌, ◌++◌}
use native.Mathlib.Omega.{arith}
use lib.Dec.{leb}
use lib.ListN.{length, drop}
use borrow.Author.Tests.{leb-true, le-leb, not-true}
use Rattle.laws.proofs.Bool.{and-lazy}
use Rattle.text.specs.Utf8.{within, Row, row, rows, row_in, row_of, utf8_rest, utf8}
use Rattle.text.specs.Char.{tails_ok, or_zero, char_length}

-- a tail byte
abbrev pub tail_byte : ℕ → Bool
tail_byte b = within 0x80 0xBF b

-- a string that is empty or starts with no tail byte
abbrev pub no_tail : List ℕ → Bool
no_tail [] = true
no_tail (b ∷ s) = not (tail_byte b)

-- the bounds of a first tail byte are bounds of tail bytes
pub record Tails (low high : ℕ) : Type 0 where
  pub least : 0x80 ≤ low
  pub greatest : high ≤ 0xBF

abbrev All : (Row → Type 0) → List Row → Type 0
All P [] = Unit {0}
All P (r ∷ rs) = P r × All P rs

row-all : (P : Row → Type 0) (rs : List Row) (b : ℕ) → All P rs → P (row b 1 0xBF 0x80) → P (row_in rs b)
unfolding row_in
row-all P [] b all last = last
row-all P (r ∷ rs) b all last = by (leb b r.last) (row-all P rs b all.1 last)
  where
    by : (t : Bool) → P (row_in rs b) → P (elim t [ true ↦ r | false ↦ row_in rs b ])
    by true rest = all.0
    by false rest = rest

row-tails : (b : ℕ) → Tails (row_of b).low (row_of b).high
unfolding row_of
row-tails b = row-all (λ r. Tails r.low r.high) rows b (omega arith) (omega arith)

-- a byte within the bounds of a first tail byte is a tail byte
within-tail : {low high : ℕ} → Tails low high → (b : ℕ) → within low high b ≡ true → tail_byte b ≡ true
within-tail {low} {high} t b h =
    let both = (and-eq-true_iff (leb low b) (leb b high)).0 h in
    let l : low ≤ b = leb-true low b both.0 in
    let g : b ≤ high = leb-true b high both.1 in
    let l' : 0x80 ≤ b = omega arith in
    let g' : b ≤ 0xBF = omega arith in
    (and-eq-true_iff (leb 0x80 b) (leb b 0xBF)).1 (le-leb 0x80 b l', le-leb b 0xBF g')

-- at the start of a character the bounds do not count
rest-none : (low high : ℕ) (s : List ℕ) → utf8_rest 0 low high s ≡ utf8 s
unfolding utf8 utf8_rest
rest-none low high [] = refl
rest-none low high (b ∷ s) = refl

-- one byte of those that are due
pub rest-cons : (n low high b : ℕ) (s : List ℕ) → utf8_rest (suc n) low high (b ∷ s) ≡ (within low high b && utf8_rest n 0x80 0xBF s)
unfolding utf8_rest
rest-cons n low high b s = and-lazy (within low high b) (utf8_rest n 0x80 0xBF s)

pub tails-cons : (n low high b : ℕ) (s : List ℕ) → tails_ok (suc n) low high (b ∷ s) ≡ (within low high b && tails_ok n 0x80 0xBF s)
unfolding tails_ok
tails-cons n low high b s = and-lazy (within low high b) (tails_ok n 0x80 0xBF s)

-- the tail bytes that are due, and then a string of whole characters
rest-tails : (n low high : ℕ) (s : List ℕ) → utf8_rest n low high s ≡ (tails_ok n low high s && utf8 (drop n s))
unfolding tails_ok utf8_rest
rest-tails zero low high s = rest-none low high s
rest-tails (suc n) low high [] = refl
rest-tails (suc n) low high (b ∷ s) =
    rest-cons n low high b s
    ∙ (ap (λ t. within low high b && t) (rest-tails n 0x80 0xBF s)
    ∙ (sym (and_assoc (within low high b) (tails_ok n 0x80 0xBF s) (utf8 (drop n s)))
    ∙ ap (λ t. t && utf8 (drop n s)) (sym (tails-cons n low high b s))))

-- a string that starts with no character is malformed
pub utf8-stuck : (l : List ℕ) → 0 < length l → char_length l ≡ 0 → utf8 l ≡ false
unfolding utf8 utf8_rest char_length
utf8-stuck [] p h = absurd (omega arith)
utf8-stuck (b ∷ s) p h =
    let r = row_of b in
    rest-tails r.tails r.low r.high s ∙ by r.tails (tails_ok r.tails r.low r.high s) h
  where
    by : (n : ℕ) (t : Bool) → or_zero t (suc n) ≡ 0 → (t && utf8 (drop n s)) ≡ false
    by n true h = absurd (omega arith)
    by n false h = refl

-- tail bytes that a string has lie within it
pub tails-fit : (n low high : ℕ) (s : List ℕ) → tails_ok n low high s ≡ true → n ≤ length s
unfolding tails_ok
tails-fit zero low high s h = omega arith
tails-fit (suc n) low high [] h = absurd (false≢true h)
tails-fit (suc n) low high (b ∷ s) h =
    let both = (and-eq-true_iff (within low high b) (tails_ok n 0x80 0xBF s)).0 (sym (tails-cons n low high b s) ∙ h) in
    let ih = tails-fit n 0x80 0xBF s both.1 in
    omega arith

-- so does a character
pub char-fits : (l : List ℕ) → char_length l ≤ length l
unfolding char_length
char-fits [] = omega arith
char-fits (b ∷ s) =
    let r = row_of b in
    by r.tails (tails_ok r.tails r.low r.high s) (tails-fit r.tails r.low r.high s)
  where
    by : (n : ℕ) (t : Bool) → (t ≡ true → n ≤ length s) → or_zero t (suc n) ≤ suc (length s)
    by n true h = let f = h refl in omega arith
    by n false h = omega arith

-- a string after whole characters
rest-append : (n low high : ℕ) (x y : List ℕ) → utf8_rest n low high x ≡ true → utf8_rest n low high (x ++ y) ≡ utf8 y
unfolding utf8_rest
rest-append zero low high [] y h = rest-none low high y
rest-append (suc n) low high [] y h = absurd (false≢true h)
rest-append zero low high (b ∷ x) y h = rest-append (row_of b).tails (row_of b).low (row_of b).high x y h
rest-append (suc n) low high (b ∷ x) y h =
    let both = (and-eq-true_iff (within low high b) (utf8_rest n 0x80 0xBF x)).0 (sym (rest-cons n low high b x) ∙ h) in
    rest-cons n low high b (x ++ y)
    ∙ (ap (λ t. t && utf8_rest n 0x80 0xBF (x ++ y)) both.0 ∙ rest-append n 0x80 0xBF x y both.1)

pub utf8_append : (x y : List ℕ) → utf8 x ≡ true → utf8 (x ++ y) ≡ utf8 y
unfolding utf8
utf8_append x y h = rest-append 0 0x80 0xBF x y h

-- no tail byte follows where one is due
rest-due : (n low high : ℕ) (y : List ℕ) → Tails low high → no_tail y ≡ true → utf8_rest (suc n) low high y ≡ false
unfolding utf8_rest
rest-due n low high [] t h = refl
rest-due n low high (b ∷ y) t h = rest-cons n low high b y ∙ by (within low high b) (within-tail t b)
  where
    by : (w : Bool) → (w ≡ true → tail_byte b ≡ true) → (w && utf8_rest n 0x80 0xBF y) ≡ false
    by true f = absurd (true≢false (sym (f refl) ∙ not-true (tail_byte b) h))
    by false f = refl

-- a string splits where no tail byte stands
rest-split : (n low high : ℕ) (x y : List ℕ) → Tails low high → no_tail y ≡ true
    → utf8_rest n low high (x ++ y) ≡ (utf8_rest n low high x && utf8 y)
unfolding utf8_rest
rest-split zero low high [] y t h = rest-none low high y
rest-split (suc n) low high [] y t h = rest-due n low high y t h
rest-split zero low high (b ∷ x) y t h = rest-split (row_of b).tails (row_of b).low (row_of b).high x y (row-tails b) h
rest-split (suc n) low high (b ∷ x) y t h =
    rest-cons n low high b (x ++ y)
    ∙ (ap (λ t. within low high b && t) (rest-split n 0x80 0xBF x y (omega arith) h)
    ∙ (sym (and_assoc (within low high b) (utf8_rest n 0x80 0xBF x) (utf8 y))
    ∙ ap (λ t. t && utf8 y) (sym (rest-cons n low high b x))))

utf8-split : (x y : List ℕ) → no_tail y ≡ true → utf8 (x ++ y) ≡ (utf8 x && utf8 y)
unfolding utf8
utf8-split x y h = rest-split 0 0x80 0xBF x y (omega arith) h

-- so the two parts are well-formed where the whole is
pub utf8-sync : (x y : List ℕ) → no_tail y ≡ true → (utf8 (x ++ y) ≡ true) ↔ ((utf8 x ≡ true) × (utf8 y ≡ true))
utf8-sync x y h = rw (utf8-split x y h) (and-eq-true_iff (utf8 x) (utf8 y))

-- Laws of a run of whole characters, from an index of a string to another.
use Prim.Native.Nat.{ℕ, zero, suc, ◌+◌, ◌-◌, ◌≤◌, ◌<◌}
use mathlib.Core.Path.{◌≡◌, refl, ap, ap₂, sym, ◌∙◌}
use mathlib.Core.Bool.{Bool, true, false, false≢true, and-eq-true_iff}
use mathlib.Core.List.{List, [], ◌∷◌, ◌++◌}
use native.Mathlib.Nat.{zero-add, suc-add}
use native.Mathlib.Omega.{arith}
use lib.ListN.{length, get_or, take, drop, take-append-drop}
use lib.Seq.{slice, take-add, drop-drop, drop-cons, slice_empty, take-nil}
use Rattle.text.specs.Utf8.{within, row_of, utf8_rest, utf8}
use Rattle.text.proofs.RowLaws.{row-7F}
use Rattle.text.specs.Char.{tails_ok, or_zero, char_length}
use Rattle.text.proofs.Utf8Laws.{rest-cons, tails-cons, utf8_append}

-- the tail bytes that are due, and no more
tails-utf8 : (n low high : ℕ) (s : List ℕ) → tails_ok n low high s ≡ true → utf8_rest n low high (take n s) ≡ true
unfolding tails_ok utf8_rest
tails-utf8 zero low high s h = refl
tails-utf8 (suc n) low high [] h = absurd (false≢true h)
tails-utf8 (suc n) low high (b ∷ s) h =
    let both = (and-eq-true_iff (within low high b) (tails_ok n 0x80 0xBF s)).0 (sym (tails-cons n low high b s) ∙ h) in
    rest-cons n low high b (take n s)
    ∙ (and-eq-true_iff (within low high b) (utf8_rest n 0x80 0xBF (take n s))).1 (both.0, tails-utf8 n 0x80 0xBF s both.1)

-- a character by itself is well-formed
char-utf8 : (l : List ℕ) → 0 < char_length l → utf8 (take (char_length l) l) ≡ true
unfolding utf8 utf8_rest char_length
char-utf8 [] h = refl
char-utf8 (b ∷ s) h = let r = row_of b in by (tails_ok r.tails r.low r.high s) (tails-utf8 r.tails r.low r.high s) h
  where
    by : (t : Bool) → (t ≡ true → utf8_rest (row_of b).tails (row_of b).low (row_of b).high (take (row_of b).tails s) ≡ true)
        → 0 < or_zero t (suc (row_of b).tails) → utf8 (take (or_zero t (suc (row_of b).tails)) (b ∷ s)) ≡ true
    by true f h = f refl
    by false f h = absurd (omega arith)

ascii-utf8 : (b : ℕ) → b < 0x80 → utf8 (b ∷ []) ≡ true
unfolding utf8 utf8_rest
ascii-utf8 b h = ap (λ r. utf8_rest r.tails r.low r.high []) (row-7F b (omega arith))

-- a part by its start and its length
pub cut : (i n : ℕ) (s : List ℕ) → slice i (i + n) s ≡ take n (drop i s)
cut zero n s = ap (λ m. take m s) (zero-add n)
cut (suc i) n [] = rw (suc-add i n) (sym (take-nil n))
cut (suc i) n (b ∷ s) = rw (suc-add i n) (cut i n s)

part : (s : List ℕ) (i j : ℕ) → i ≤ j → slice i j s ≡ take (j - i) (drop i s)
part s i j h = let e : j ≡ i + (j - i) = omega arith in ap (λ k. slice i k s) e ∙ cut i (j - i) s

after : (s : List ℕ) (i j : ℕ) → i ≤ j → drop (j - i) (drop i s) ≡ drop j s
after s i j h = let e : i + (j - i) ≡ j = omega arith in drop-drop (j - i) i s ∙ ap (λ n. drop n s) e

-- parts that follow one another
slice-rest : (s : List ℕ) (i j : ℕ) → i ≤ j → drop i s ≡ slice i j s ++ drop j s
slice-rest s i j h = sym (take-append-drop (j - i) (drop i s)) ∙ ap₂ ◌++◌ (sym (part s i j h)) (after s i j h)

slice-join : (s : List ℕ) (i j k : ℕ) → i ≤ j → j ≤ k → slice i k s ≡ slice i j s ++ slice j k s
slice-join s i j k h l =
    let e : k - i ≡ (j - i) + (k - j) = omega arith in
    part s i k (omega arith)
    ∙ (ap (λ n. take n (drop i s)) e
    ∙ (take-add (j - i) (k - j) (drop i s)
    ∙ ap₂ ◌++◌ (sym (part s i j h)) (ap (take (k - j)) (after s i j h) ∙ sym (part s j k l))))

-- no character, and one more
pub run_none : (s : List ℕ) (i : ℕ) → utf8 (slice i i s) ≡ true
unfolding utf8 utf8_rest
run_none s i = ap utf8 (slice_empty i s)

run_more : (s : List ℕ) (i j k : ℕ) → i ≤ j → j ≤ k → utf8 (slice i j s) ≡ true → utf8 (slice j k s) ≡ true → utf8 (slice i k s) ≡ true
run_more s i j k h l f g = ap utf8 (slice-join s i j k h l) ∙ (utf8_append (slice i j s) (slice j k s) f ∙ g)

pub run-ascii : (s : List ℕ) (i j : ℕ) → i ≤ j → j < length s → get_or s j 0 < 0x80 → utf8 (slice i j s) ≡ true
    → utf8 (slice i (j + 1) s) ≡ true
run-ascii s i j h l a f =
    let one = ap (take 1) (drop-cons s j 0 l) in
    run_more s i j (j + 1) h (omega arith) f (ap utf8 (cut j 1 s ∙ one) ∙ ascii-utf8 (get_or s j 0) a)

pub run-char : (s : List ℕ) (i j n : ℕ) → i ≤ j → n ≡ char_length (drop j s) → (n ≡ 0 → ⊥) → utf8 (slice i j s) ≡ true
    → utf8 (slice i (j + n) s) ≡ true
run-char s i j n h e z f =
    let one = ap (λ n. take n (drop j s)) e in
    run_more s i j (j + n) h (omega arith) f (ap utf8 (cut j n s ∙ one) ∙ char-utf8 (drop j s) (omega arith))

-- after a run the rest counts
pub run-rest : (s : List ℕ) (i j : ℕ) → i ≤ j → utf8 (slice i j s) ≡ true → utf8 (drop i s) ≡ utf8 (drop j s)
run-rest s i j h f = ap utf8 (slice-rest s i j h) ∙ utf8_append (slice i j s) (drop j s) f

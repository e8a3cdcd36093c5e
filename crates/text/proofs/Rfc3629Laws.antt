-- The test `utf8` passes at exactly the strings of RFC 3629's grammar.
use Prim.Native.Nat.{ℕ, zero, suc, ◌≤◌, ◌<◌}
use mathlib.Core.Path.{◌≡◌, refl, ap, sym, ◌∙◌, subst}
use mathlib.Core.Logic.{◌↔◌}
use mathlib.Core.Bool.{true, false≢true, and-eq-true_iff}
use mathlib.Core.List.{List, [], ◌∷◌, ◌++◌}
use native.Mathlib.Decide.{dec_le}
use native.Mathlib.Omega.{arith}
use lib.Dec.{leb}
use borrow.Author.Tests.{le-leb, leb-true}
use Rattle.text.specs.Utf8.{within, Row, row, row_of, utf8_rest, utf8}
use Rattle.text.proofs.RowLaws.{row-7F, row-C1, row-DF, row-E0, row-EC, row-ED, row-EF, row-F0, row-F3, row-F4, row_last}
use Rattle.text.proofs.Utf8Laws.{rest-cons}
use Rattle.text.specs.Rfc3629.{From, UTF8-tail, UTF8-1, UTF8-2, UTF8-3, UTF8-4, UTF8-char, UTF8-octets}

-- From the grammar to the test: a character is passed over.

-- a byte that is due and within its bounds is passed over
due : (n low high b : ℕ) (s : List ℕ) → From low high b → utf8_rest (suc n) low high (b ∷ s) ≡ utf8_rest n 0x80 0xBF s
due n low high b s h =
    rest-cons n low high b s ∙ rw (le-leb low b h.0, le-leb b high h.1)

-- a first byte asks for what its row says
first : (a : ℕ) (r : Row) (s : List ℕ) → row_of a ≡ r → utf8 (a ∷ s) ≡ utf8_rest r.tails r.low r.high s
unfolding utf8 utf8_rest
first a r s e = ap (λ r. utf8_rest r.tails r.low r.high s) e

-- a character of one, two, three or four bytes
one : (a last : ℕ) (s : List ℕ) → row_of a ≡ row last 0 0x80 0xBF → utf8 (a ∷ s) ≡ utf8 s
unfolding utf8
one a last s e = first a (row last 0 0x80 0xBF) s e

two : (a last low high b : ℕ) (s : List ℕ) → row_of a ≡ row last 1 low high → From low high b → utf8 (a ∷ b ∷ s) ≡ utf8 s
unfolding utf8
two a last low high b s e h = first a (row last 1 low high) (b ∷ s) e ∙ due 0 low high b s h

three : (a last low high b c : ℕ) (s : List ℕ) → row_of a ≡ row last 2 low high → From low high b → UTF8-tail c
    → utf8 (a ∷ b ∷ c ∷ s) ≡ utf8 s
unfolding utf8
three a last low high b c s e h t =
    first a (row last 2 low high) (b ∷ c ∷ s) e ∙ (due 1 low high b (c ∷ s) h ∙ due 0 0x80 0xBF c s t)

four : (a last low high b c d : ℕ) (s : List ℕ) → row_of a ≡ row last 3 low high → From low high b → UTF8-tail c → UTF8-tail d
    → utf8 (a ∷ b ∷ c ∷ d ∷ s) ≡ utf8 s
unfolding utf8
four a last low high b c d s e h t u =
    first a (row last 3 low high) (b ∷ c ∷ d ∷ s) e
    ∙ (due 2 low high b (c ∷ d ∷ s) h ∙ (due 1 0x80 0xBF c (d ∷ s) t ∙ due 0 0x80 0xBF d s u))

skip-1 : {c : List ℕ} → UTF8-1 c → (s : List ℕ) → utf8 (c ++ s) ≡ utf8 s
skip-1 (UTF8-1.x00-7F {a} h) s = one a _ s (row-7F a h.1)

skip-2 : {c : List ℕ} → UTF8-2 c → (s : List ℕ) → utf8 (c ++ s) ≡ utf8 s
skip-2 (UTF8-2.xC2-DF {a} {b} h t) s = two a _ _ _ b s (row-DF a h.0 h.1) t

skip-3 : {c : List ℕ} → UTF8-3 c → (s : List ℕ) → utf8 (c ++ s) ≡ utf8 s
skip-3 (UTF8-3.x_e0 {b} {c} h t) s = three 0xE0 _ _ _ b c s (row-E0 0xE0 (omega arith) (omega arith)) h t
skip-3 (UTF8-3.xE1-EC {a} {b} {c} h t u) s = three a _ _ _ b c s (row-EC a h.0 h.1) t u
skip-3 (UTF8-3.xED {b} {c} h t) s = three 0xED _ _ _ b c s (row-ED 0xED (omega arith) (omega arith)) h t
skip-3 (UTF8-3.xEE-EF {a} {b} {c} h t u) s = three a _ _ _ b c s (row-EF a h.0 h.1) t u

skip-4 : {c : List ℕ} → UTF8-4 c → (s : List ℕ) → utf8 (c ++ s) ≡ utf8 s
skip-4 (UTF8-4.x_f0 {b} {c} {d} h t u) s = four 0xF0 _ _ _ b c d s (row-F0 0xF0 (omega arith) (omega arith)) h t u
skip-4 (UTF8-4.xF1-F3 {a} {b} {c} {d} h t u v) s = four a _ _ _ b c d s (row-F3 a h.0 h.1) t u v
skip-4 (UTF8-4.x_f4 {b} {c} {d} h t u) s = four 0xF4 _ _ _ b c d s (row-F4 0xF4 (omega arith) (omega arith)) h t u

skip : {c : List ℕ} → UTF8-char c → (s : List ℕ) → utf8 (c ++ s) ≡ utf8 s
skip (UTF8-char.utf8-1 h) s = skip-1 h s
skip (UTF8-char.utf8-2 h) s = skip-2 h s
skip (UTF8-char.utf8-3 h) s = skip-3 h s
skip (UTF8-char.utf8-4 h) s = skip-4 h s

octets-utf8 : {s : List ℕ} → UTF8-octets s → utf8 s ≡ true
unfolding utf8 utf8_rest
octets-utf8 UTF8-octets.none = refl
octets-utf8 (UTF8-octets.more {c} {s} h o) = skip h s ∙ octets-utf8 o

-- From the test to the grammar.

-- what is left of a string that passes where n bytes are due: those bytes, and then UTF8-octets
abbrev Left : ℕ → ℕ → ℕ → List ℕ → Type 0
Left zero low high s = UTF8-octets s
Left (suc n) low high [] = ⊥
Left (suc n) low high (b ∷ s) = From low high b × Left n 0x80 0xBF s

abbrev LeftBy : Row → List ℕ → Type 0
LeftBy r s = Left r.tails r.low r.high s

from-within : (low high b : ℕ) → within low high b ≡ true → From low high b
from-within low high b h =
    let both = (and-eq-true_iff (leb low b) (leb b high)).0 h in
    (leb-true low b both.0, leb-true b high both.1)

-- at most n, or above it
up_to : {X : Type 0} (b n : ℕ) → (b ≤ n → X) → (n < b → X) → X
up_to {X} b n f g = by (dec_le b n)
  where
    by : Dec (b ≤ n) → X
    by (yes h) = f h
    by (no h) = g (omega arith)

-- no byte is from BF to 80
none_left : (s : List ℕ) → Left 1 0xBF 0x80 s → ⊥
none_left [] l = l
none_left (b ∷ s) l = omega arith

take-1 : (a : ℕ) (s : List ℕ) → UTF8-1 (a ∷ []) → Left 0 0x80 0xBF s → UTF8-octets (a ∷ s)
take-1 a s h l = UTF8-octets.more (UTF8-char.utf8-1 h) l

module _ (a low high : ℕ) where
  take-2 : (s : List ℕ) → ((b : ℕ) → From low high b → UTF8-2 (a ∷ b ∷ [])) → Left 1 low high s → UTF8-octets (a ∷ s)
  take-2 [] h l = absurd l
  take-2 (b ∷ s) h l = UTF8-octets.more (UTF8-char.utf8-2 (h b l.0)) l.1

  take-3 : (s : List ℕ) → ((b c : ℕ) → From low high b → UTF8-tail c → UTF8-3 (a ∷ b ∷ c ∷ [])) → Left 2 low high s
      → UTF8-octets (a ∷ s)
  take-3 [] h l = absurd l
  take-3 (b ∷ []) h l = absurd l.1
  take-3 (b ∷ c ∷ s) h l = UTF8-octets.more (UTF8-char.utf8-3 (h b c l.0 l.1.0)) l.1.1

  take-4 : (s : List ℕ) → ((b c d : ℕ) → From low high b → UTF8-tail c → UTF8-tail d → UTF8-4 (a ∷ b ∷ c ∷ d ∷ []))
      → Left 3 low high s → UTF8-octets (a ∷ s)
  take-4 [] h l = absurd l
  take-4 (b ∷ []) h l = absurd l.1
  take-4 (b ∷ c ∷ []) h l = absurd l.1.1
  take-4 (b ∷ c ∷ d ∷ s) h l =
      UTF8-octets.more (UTF8-char.utf8-4 (h b c d l.0 l.1.0 l.1.1.0)) l.1.1.1

-- a first byte and what it asks for are a character
take : (a : ℕ) (s : List ℕ) → LeftBy (row_of a) s → UTF8-octets (a ∷ s)
take a s l =
    up_to a 0x7F (λ h. take-1 a s (UTF8-1.x00-7F (omega arith)) (left (row-7F a h))) λ g.
    up_to a 0xC1 (λ h. absurd (none_left s (left (row-C1 a g h)))) λ g.
    up_to a 0xDF (λ h. take-2 a _ _ s (λ b t. UTF8-2.xC2-DF (g, h) t) (left (row-DF a g h))) λ g.
    up_to a 0xE0 (λ h. take-3 a _ _ s (λ b c t u. in-3 (omega arith) (UTF8-3.x_e0 t u)) (left (row-E0 a g h))) λ g.
    up_to a 0xEC (λ h. take-3 a _ _ s (λ b c t u. UTF8-3.xE1-EC (g, h) t u) (left (row-EC a g h))) λ g.
    up_to a 0xED (λ h. take-3 a _ _ s (λ b c t u. in-3 (omega arith) (UTF8-3.xED t u)) (left (row-ED a g h))) λ g.
    up_to a 0xEF (λ h. take-3 a _ _ s (λ b c t u. UTF8-3.xEE-EF (g, h) t u) (left (row-EF a g h))) λ g.
    up_to a 0xF0 (λ h. take-4 a _ _ s (λ b c d t u v. in-4 (omega arith) (UTF8-4.x_f0 t u v)) (left (row-F0 a g h))) λ g.
    up_to a 0xF3 (λ h. take-4 a _ _ s (λ b c d t u v. UTF8-4.xF1-F3 (g, h) t u v) (left (row-F3 a g h))) λ g.
    up_to a 0xF4 (λ h. take-4 a _ _ s (λ b c d t u v. in-4 (omega arith) (UTF8-4.x_f4 t u v)) (left (row-F4 a g h))) λ g.
    absurd (none_left s (left (row_last a g)))
  where
    left : {r : Row} → row_of a ≡ r → LeftBy r s
    left e = subst (λ r. LeftBy r s) e l

    in-3 : {x b c : ℕ} → x ≡ a → UTF8-3 (x ∷ b ∷ c ∷ []) → UTF8-3 (a ∷ b ∷ c ∷ [])
    in-3 {x} {b} {c} e h = subst (λ x. UTF8-3 (x ∷ b ∷ c ∷ [])) e h

    in-4 : {x b c d : ℕ} → x ≡ a → UTF8-4 (x ∷ b ∷ c ∷ d ∷ []) → UTF8-4 (a ∷ b ∷ c ∷ d ∷ [])
    in-4 {x} {b} {c} {d} e h = subst (λ x. UTF8-4 (x ∷ b ∷ c ∷ d ∷ [])) e h

parse : (s : List ℕ) (n low high : ℕ) → utf8_rest n low high s ≡ true → Left n low high s
unfolding utf8_rest
parse [] zero low high h = UTF8-octets.none
parse [] (suc n) low high h = absurd (false≢true h)
parse (b ∷ s) zero low high h = take b s (parse s (row_of b).tails (row_of b).low (row_of b).high h)
parse (b ∷ s) (suc n) low high h =
    let both = (and-eq-true_iff (within low high b) (utf8_rest n 0x80 0xBF s)).0 (sym (rest-cons n low high b s) ∙ h) in
    (from-within low high b both.0, parse s n 0x80 0xBF both.1)

-- the theorem
pub utf8-is-rfc3629 : (s : List ℕ) → (utf8 s ≡ true) ↔ UTF8-octets s
unfolding utf8
utf8-is-rfc3629 s = (parse s 0 0x80 0xBF, octets-utf8)

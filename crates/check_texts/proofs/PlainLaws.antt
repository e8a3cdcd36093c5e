-- Where all text bytes are ASCII, every text that lies within them is well-formed UTF-8.
use Prim.Native.Nat.{ℕ, suc, ◌+◌, ◌*◌, ◌<◌, ◌≤◌}
use mathlib.Core.Path.{◌≡◌, refl, ap, sym, subst, ◌∙◌}
use mathlib.Core.Bool.{true}
use mathlib.Core.List.{List, [], ◌∷◌}
use native.Mathlib.Decide.{dec_lt}
use native.Mathlib.Omega.{arith}
use lib.Dec.{leb}
use lib.ListN.{length, get_or, take, drop, length-take, get_or-eq_default}
use lib.Seq.{get_or-take, get_or-drop}
use borrow.Author.Tests.{le-leb, lt-leb}
use Rattle.words.specs.Count.{all_below}
use Rattle.words.proofs.CountLaws.{all_same}
use Rattle.text.specs.Utf8.{utf8_rest, utf8}
use Rattle.text.proofs.ReadLaws.{read-ascii}
use Rattle.sheet.specs.Sections.{text_count, byte_count, bytes_at}
use Rattle.sheet.specs.Text.{text_start, text_length, text}
use Rattle.check_texts.specs.Texts.{texts_by, text_ok, texts_ok}
use Rattle.check_texts.proofs.TextsLaws.{text-within, text-outside}
use Rattle.check_texts.specs.Marks.{text_bytes}
use Rattle.check_texts.specs.Plain.{PlainTo, inside}

-- bytes that are all ASCII are well-formed
plain-utf8 : (l : List ℕ) → ((k : ℕ) → get_or l k 0 < 128) → utf8 l ≡ true
unfolding utf8 utf8_rest
plain-utf8 [] h = refl
plain-utf8 (b ∷ l) h = read-ascii (b ∷ l) 0 (omega arith) (h 0) ∙ plain-utf8 l (λ k. h (suc k))

-- a byte past the end is 0
past : (l : List ℕ) (k : ℕ) → length l ≤ k → get_or l k 0 < 128
past l k h = let e = get_or-eq_default l 0 h in omega arith

-- a part of a part is ASCII: n bytes from base on are, and so are len from start on among them
plain-part : (s : List ℕ) (base n start len : ℕ) → ((k : ℕ) → k < n → get_or (take n (drop base s)) k 0 < 128) → start + len ≤ n
    → (k : ℕ) → get_or (take len (drop (base + start) s)) k 0 < 128
plain-part s base n start len h l k = by (dec_lt k len)
  where
    by : Dec (k < len) → get_or (take len (drop (base + start) s)) k 0 < 128
    by (yes y) =
        let a = get_or-take len (drop (base + start) s) k 0 y ∙ get_or-drop (base + start) s k 0 in
        let b = get_or-take n (drop base s) (start + k) 0 (omega arith) ∙ get_or-drop base s (start + k) 0 in
        let same : base + start + k ≡ base + (start + k) = omega arith in
        subst (λ x. x < 128) (sym (a ∙ (ap (λ j. get_or s j 0) same ∙ sym b))) (h (start + k) (omega arith))
    by (no y) = past (take len (drop (base + start) s)) k (omega (arith, length-take len (drop (base + start) s)))

-- the text bytes q are ASCII
module _ (s q : List ℕ) (here : q ≡ text_bytes s) (p : PlainTo q (length q)) where
  whole : q ≡ take (byte_count s) (drop (4 * bytes_at s) s)
  unfolding text_bytes
  whole = here

  each : (k : ℕ) → k < byte_count s → get_or (take (byte_count s) (drop (4 * bytes_at s) s)) k 0 < 128
  each k h = subst (λ l. get_or l k 0 < 128) whole (by (dec_lt k (length q)))
    where
      by : Dec (k < length q) → get_or q k 0 < 128
      by (yes y) = p.below k y
      by (no y) = past q k (omega arith)

  -- a text is right if it lies within them
  plain-text : (t : ℕ) → text_ok s t ≡ inside s t
  unfolding inside text
  plain-text t = by (dec_lt (byte_count s) end)
    where
      end : ℕ
      end = text_start s t + text_length s t

      bytes : List ℕ
      bytes = take (text_length s t) (drop (4 * bytes_at s + text_start s t) s)

      by : Dec (byte_count s < end) → text_ok s t ≡ leb end (byte_count s)
      by (yes y) = text-outside s t y ∙ sym (lt-leb end (byte_count s) y)
      by (no y) =
          let l : end ≤ byte_count s = omega arith in
          let ascii = plain-part s (4 * bytes_at s) (byte_count s) (text_start s t) (text_length s t) each l in
          text-within s t l ∙ (plain-utf8 bytes ascii ∙ sym (le-leb end (byte_count s) l))

  -- so all are right, if all lie within them
  pub plain-texts : all_below (text_count s) (inside s) ≡ true → texts_ok s ≡ true
  unfolding texts_by
  plain-texts h = all_same (text_ok s) (inside s) (text_count s) (λ t l. plain-text t) ∙ h

-- as the code reads it
pub inside-read : (s : List ℕ) (t : ℕ) {a l b : ℕ} → a ≡ text_start s t → l ≡ text_length s t → b ≡ byte_count s
    → leb (a + l) b ≡ inside s t
unfolding inside
inside-read s t ha hl hb = cc

-- Laws of the checks of texts, in the shapes of the code.
use Prim.Native.Nat.{ℕ, ◌+◌, ◌*◌, ◌≤◌, ◌<◌}
use mathlib.Core.Path.{◌≡◌, refl, ap, subst, sym, ◌∙◌}
use mathlib.Core.Bool.{Bool, true, false, true≢false}
use mathlib.Core.List.{List}
use native.Mathlib.Decide.{dec_lt}
use native.Mathlib.Omega.{arith}
use lib.ListN.{length, get_or, take, drop, length-take}
use lib.Seq.{slice, take-take, drop-drop}
use borrow.Author.Tests.{le-leb, lt-leb, leb-true, leb-false}
use Rattle.words.proofs.CountLaws.{all-fails, all-at, all_of}
use Rattle.words.specs.Count.{all_below}
use Rattle.text.specs.Utf8.{utf8}
use Rattle.text.proofs.RunLaws.{cut}
use Rattle.sheet.specs.Sections.{text_count, byte_count, bytes_at}
use Rattle.sheet.specs.Text.{text_start, text_length, text_by, text}
use Rattle.check_texts.specs.Texts.{text_ok_by, texts_by, text_ok, texts_ok}
use Rattle.check_texts.specs.Marks.{text_bytes, Characters, Due, Right, AllDue, Done}
use Rattle.check_texts.specs.Plain.{inside}
use Rattle.std.specs.Bool.{MatchBool}
use Rattle.std.specs.List.{range_with_len, AllWithin, HoldsAt}
use Rattle.std.proofs.lemmas.List.FromFn.{length-range_with_len, get_or-range_with_len}

-- a text within the bytes is right where it is well-formed
pub text-within : (s : List ℕ) (t : ℕ) → text_start s t + text_length s t ≤ byte_count s → text_ok s t ≡ utf8 (text s t)
unfolding text_ok_by text_by
text-within s t h = rw (le-leb (text_start s t + text_length s t) (byte_count s) h, text_ok_by)

-- a text outside them is not
pub text-outside : (s : List ℕ) (t : ℕ) → byte_count s < text_start s t + text_length s t → text_ok s t ≡ false
unfolding text_ok_by
text-outside s t h = rw (lt-leb (text_start s t + text_length s t) (byte_count s) h, text_ok_by)

-- one text that is not right
pub texts-fail : (s : List ℕ) (t : ℕ) → t < text_count s → text_ok s t ≡ false → texts_ok s ≡ false
unfolding texts_by
texts-fail s t h e = all-fails (text_ok s) (text_count s) t h e

-- the text bytes are a part of the sheet; `at` is where they start, in words
pub text-bytes : (s q : List ℕ) (n at : ℕ) → n ≡ byte_count s → at ≡ bytes_at s → q ≡ take n (drop (4 * at) s) → q ≡ text_bytes s
unfolding text_bytes
text-bytes s q n at f g e = e ∙ rw (f, g)

-- a text that lies within them is right where there are whole characters
pub text-whole : (s : List ℕ) (t start len : ℕ) {b : List ℕ} → b ≡ text_bytes s → start ≡ text_start s t → len ≡ text_length s t
    → Characters b start (start + len) → text_ok s t ≡ true
unfolding text_bytes text
text-whole s t start len {b} e f g r =
    let l = drop (4 * bytes_at s) s in
    let most : start + len ≤ length (take (byte_count s) l) = subst (λ x. start + len ≤ length x) e r.most in
    let within : start + len ≤ byte_count s = omega (arith, length-take (byte_count s) l) in
    let here = ap (drop start) (take-take (start + len) (byte_count s) l within) in
    let there = cut start len l ∙ ap (take len) (drop-drop start (4 * bytes_at s) s) in
    let same = ap (λ x. utf8 (slice start (start + len) x)) e ∙ ap utf8 (here ∙ there) in
    text-within s t (omega arith) ∙ rw (← f, ← g) (sym same ∙ r.good)

-- a text is read where it lies within the text bytes, and wrong where it does not
pub inside-read : (s : List ℕ) (t : ℕ) {q : List ℕ} {r : Bool} → inside s t ≡ true → q ≡ text s t → r ≡ utf8 q → r ≡ text_ok s t
unfolding inside
inside-read s t h e f =
    f ∙ (ap utf8 e ∙ sym (text-within s t (leb-true (text_start s t + text_length s t) (byte_count s) h)))

pub outside-read : (s : List ℕ) (t : ℕ) → inside s t ≡ false → false ≡ text_ok s t
unfolding inside
outside-read s t h = sym (text-outside s t (leb-false (text_start s t + text_length s t) (byte_count s) h))

-- a text that is not due, one that is known to be right, and one that was read
module _ {s : List ℕ} {t base limit : ℕ} where
  pub due-early : {start : ℕ} → start ≡ text_start s t → start < base → Due s t base limit true
  due-early e l = record { right = λ h f g. absurd (omega arith); wrong = λ h. absurd (true≢false h) }

  pub due-late : {start : ℕ} → start ≡ text_start s t → limit ≤ start → Due s t base limit true
  due-late e l = record { right = λ h f g. absurd (omega arith); wrong = λ h. absurd (true≢false h) }

  pub due-known : text_ok s t ≡ true → Due s t base limit true
  due-known e = record { right = λ h f g. e; wrong = λ h. absurd (true≢false h) }

  pub due-read : {r : Bool} → r ≡ text_ok s t → Due s t base limit r
  due-read e = record { right = λ h f g. sym e ∙ h; wrong = λ h. sym e ∙ h }

-- one text that is due is wrong, and none is
pub due-fails : {s : List ℕ} {base limit : ℕ} (t : ℕ) {r : Bool} → t < text_count s → Due s t base limit r → r ≡ false
    → AllDue s base limit false
due-fails {s} t l d e = record { right = λ h. absurd (true≢false (sym h)); wrong = λ h. texts-fail s t l (d.wrong e) }

pub due_all : {s : List ℕ} {base limit : ℕ} (t : ℕ) → t ≡ text_count s → Right s base limit t → AllDue s base limit true
due_all {s} {base} {limit} t e p =
    record { right = λ h. subst (λ n. Right s base limit n) e p; wrong = λ h. absurd (true≢false h) }

-- what a chain over the numbers of all texts answers
item : (n j : ℕ) → j < n → get_or (range_with_len 0 n) j 0 ≡ j
item n j h = omega (arith, get_or-range_with_len 0 n j 0 h)

pub due-chain : {s : List ℕ} {base limit : ℕ} (n : ℕ) → n ≡ text_count s → (r : Bool)
    → MatchBool r (AllWithin (λ t. Due s t base limit true) (range_with_len 0 n) 0 (length (range_with_len 0 n)))
    ((k : ℕ) × (k < length (range_with_len 0 n)) × HoldsAt (λ t. Due s t base limit false) (range_with_len 0 n) k)
    → AllDue s base limit r
due-chain {s} {base} {limit} n e true h = due_all n e (record { each = λ t l f g. (at t l).right refl f g })
  where
    at : (t : ℕ) → t < n → Due s t base limit true
    at t l = subst (λ x. Due s x base limit true) (item n t l) (h t 0 (omega arith) (omega (arith, length-range_with_len 0 n, l)))
due-chain {s} {base} {limit} n e false h =
    let less : h.0 < n = omega (arith, h.1, length-range_with_len 0 n) in
    due-fails h.0 (omega arith) (subst (λ x. Due s x base limit false) (item n h.0 less) (h.2 0)) refl

-- the texts from a limit on are right, and all where the limit is 0
pub done-start : (s : List ℕ) (n : ℕ) → n ≡ byte_count s → all_below (text_count s) (inside s) ≡ true → Done s (n + 1)
unfolding inside
done-start s n e h = record {
  each =
      λ t l f. absurd (omega (arith, leb-true (text_start s t + text_length s t) (byte_count s) (all-at (inside s) (text_count s) t h l)));
}

pub done-late : {s : List ℕ} {limit late : ℕ} → Done s limit → limit ≤ late → Done s late
done-late d h = record { each = λ t l f. d.each t l (omega arith) }

pub done_more : {s : List ℕ} {base limit : ℕ} → Right s base limit (text_count s) → Done s limit → Done s base
done_more {s} {base} {limit} p q = record { each = λ t l f. by t l f (dec_lt (text_start s t) limit) }
  where
    by : (t : ℕ) → t < text_count s → base ≤ text_start s t → Dec (text_start s t < limit) → text_ok s t ≡ true
    by t l f (yes y) = p.each t l f y
    by t l f (no z) = q.each t l (omega arith)

pub done_all : {s : List ℕ} {limit : ℕ} → Done s limit → limit ≡ 0 → texts_ok s ≡ true
unfolding texts_by
done_all {s} d e = all_of (text_ok s) (text_count s) (λ t l. d.each t l (omega arith))

-- where not all texts lie within the text bytes, not all are right
pub outside-fails : (s : List ℕ) → all_below (text_count s) (inside s) ≡ false → texts_ok s ≡ false
unfolding texts_by inside
outside-fails s h = not-true (texts_ok s) refl
  where
    within : texts_ok s ≡ true → (t : ℕ) → t < text_count s → Dec (byte_count s < text_start s t + text_length s t) → inside s t ≡ true
    within e t l (yes y) = absurd (true≢false (sym (all-at (text_ok s) (text_count s) t e l) ∙ text-outside s t y))
    within e t l (no z) = le-leb (text_start s t + text_length s t) (byte_count s) (omega arith)

    not-true : (r : Bool) → texts_ok s ≡ r → r ≡ false
    not-true false e = refl
    not-true true e =
        let all = all_of (inside s) (text_count s) (λ t l. within e t l (dec_lt (byte_count s) (text_start s t + text_length s t))) in
        absurd (true≢false (sym all ∙ h))

-- The texts of a sheet with nothing of refusals 1 and 3: each has as many bytes as its length says.
use Prim.Native.Nat.{ℕ, ◌+◌, ◌*◌, ◌≤◌, ◌<◌}
use mathlib.Core.Path.{◌≡◌, sym, ap, ◌∙◌}
use mathlib.Core.Bool.{true, false, and-eq-true_iff, true≢false}
use mathlib.Core.List.{List, []}
use native.Mathlib.Omega.{arith}
use native.Mathlib.Decide.{dec_le}
use lib.ListN.{length, take, drop, length-take, length-drop}
use borrow.Author.Tests.{eqb-true, lt-leb}
use Rattle.std.proofs.lemmas.List.{nil_from_length}
use Rattle.words.proofs.CountLaws.{all-at}
use Rattle.sheet.specs.Sections.{text_count, byte_count, bytes_at}
use Rattle.sheet.specs.Text.{text, text_start, text_length}
use Rattle.check_sizes.specs.Sizes.{length_ok, sizes_ok}
use Rattle.check_texts.specs.Texts.{text_ok_by, text_ok, texts_by, texts_ok}

-- a part that lies within a list is as long as it says
part_length : (s : List ℕ) (at len : ℕ) → at + len ≤ length s → length (take len (drop at s)) ≡ len
part_length s at len h = omega (arith, length-take len (drop at s), length-drop at s)

-- a right text lies within the text bytes
text-lies : (s : List ℕ) (t : ℕ) → text_ok s t ≡ true → text_start s t + text_length s t ≤ byte_count s
unfolding text_ok_by
text-lies s t h = by (dec_le (text_start s t + text_length s t) (byte_count s))
  where
    by : Dec (text_start s t + text_length s t ≤ byte_count s) → text_start s t + text_length s t ≤ byte_count s
    by (yes y) = y
    by (no z) =
        let out : text_ok s t ≡ false = rw (lt-leb (text_start s t + text_length s t) (byte_count s) (omega arith), text_ok_by) in
        absurd (true≢false (sym h ∙ out))

module _ (s : List ℕ) (sizes : sizes_ok s ≡ true) (texts : texts_ok s ≡ true) where
  -- the text bytes lie within the sheet
  bytes-lie : 4 * bytes_at s + byte_count s ≤ length s
  unfolding sizes_ok length_ok
  bytes-lie = let k = simp and-eq-true_iff at sizes in omega (arith, eqb-true _ _ k.0.1)

  text-long : (t : ℕ) → t < text_count s → length (text s t) ≡ text_length s t
  unfolding texts_by text
  text-long t l =
      let h = text-lies s t (all-at (text_ok s) (text_count s) t texts l) in
      part_length s (4 * bytes_at s + text_start s t) (text_length s t) (omega (arith, bytes-lie))

  -- it has none where the length is 0, and the other way round
  pub text-none : (t : ℕ) → t < text_count s → text_length s t ≡ 0 → text s t ≡ []
  text-none t l e = nil_from_length (text s t) (text-long t l ∙ e)

  pub length-none : (t : ℕ) → t < text_count s → text s t ≡ [] → text_length s t ≡ 0
  length-none t l e = sym (text-long t l) ∙ ap length e

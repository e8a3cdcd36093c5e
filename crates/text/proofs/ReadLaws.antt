-- Laws of reading a string from an index on, character by character.
use Prim.Native.Nat.{ℕ, suc, ◌+◌, ◌≤◌, ◌<◌}
use mathlib.Core.Path.{◌≡◌, ap, sym, ◌∙◌}
use mathlib.Core.Bool.{true, false}
use mathlib.Core.List.{List, ◌∷◌}
use native.Mathlib.Numerals.{add-one}
use native.Mathlib.Omega.{arith}
use lib.ListN.{length, get_or, drop, length-drop, drop_of_length-le}
use lib.Seq.{drop-cons}
use Rattle.text.specs.Utf8.{utf8_rest, utf8}
use Rattle.text.proofs.RowLaws.{row-7F}
use Rattle.text.specs.Char.{char_length}
use Rattle.text.proofs.Utf8Laws.{utf8-stuck, char-fits}

-- nothing is left at the end
pub read-end : (s : List ℕ) (i : ℕ) → length s ≤ i → utf8 (drop i s) ≡ true
unfolding utf8 utf8_rest
read-end s i h = rw (drop_of_length-le s h)

ascii : (b : ℕ) (s : List ℕ) → b < 0x80 → utf8 (b ∷ s) ≡ utf8 s
unfolding utf8 utf8_rest
ascii b s h = ap (λ r. utf8_rest r.tails r.low r.high s) (row-7F b (omega arith))

-- a byte below 80 is a character
pub read-ascii : (s : List ℕ) (i : ℕ) → i < length s → get_or s i 0 < 0x80 → utf8 (drop i s) ≡ utf8 (drop (i + 1) s)
read-ascii s i h l = rw (drop-cons s i 0 h, add-one i) (ascii (get_or s i 0) (drop (suc i) s) l)

module _ (s : List ℕ) (i n : ℕ) (e : n ≡ char_length (drop i s)) where
  -- a character lies within the string
  pub read_fits : i ≤ length s → i + n ≤ length s
  read_fits h = omega (arith, rw length-drop at (char-fits (drop i s)))

  -- where no character starts, the rest is malformed
  pub read-stuck : i < length s → n ≡ 0 → utf8 (drop i s) ≡ false
  read-stuck h z = utf8-stuck (drop i s) (rw length-drop (omega arith)) (sym e ∙ z)

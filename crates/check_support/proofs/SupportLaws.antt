-- Laws of refusal 8, one for each way through the code.
use Prim.Native.Nat.{ℕ}
use mathlib.Core.Path.{◌≡◌}
use mathlib.Core.Bool.{true, false, ◌&&◌}
use mathlib.Core.List.{List}
use lib.Dec.{ltb, eqb}
use Rattle.text.specs.Keyword.{is_curry}
use Rattle.sheet.specs.Node.{kind, count, field_a}
use Rattle.sheet.specs.Kinds.{fn_call_kind}
use Rattle.sheet.specs.Text.{text_by, text}
use Rattle.check_support.specs.Support.{long_curry_by, long_curry}

pub curry-call : (s : List ℕ) (n : ℕ) → (eqb (kind s n) fn_call_kind && ltb 1 (count s n)) ≡ true
    → long_curry s n ≡ is_curry (text s (field_a s n))
unfolding long_curry_by text_by
curry-call s n h = rw (h, long_curry_by)

pub curry-other : (s : List ℕ) (n : ℕ) → (eqb (kind s n) fn_call_kind && ltb 1 (count s n)) ≡ false → long_curry s n ≡ false
unfolding long_curry_by
curry-other s n h = rw (h, long_curry_by)

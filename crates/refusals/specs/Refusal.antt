-- The refusals of documents 01 and 02: the number of each, and what it leaves of what is lent.
use Rattle.std.specs.Prelude.{ℕ, Bool, true, false, List, ◌++◌, length, codes, Result, Ok, Err}
use Rattle.std.specs.Fmt.{decimal}
use Rattle.zeros.specs.Zeros.{zeros}
use Rattle.refusals.specs.declared.Refusal.{Refusal}
use Rattle.refusals.specs.declared.Refusal.TheVariants.{Size, Shape, Text, Number, EmptyName, Depth, Arms, Twice, Unsupported}
use Rattle.refusals.specs.declared.Refusal.TheVariants.{Eval, Emitted, ScratchShort, ImageLong, IllMade}

-- the one place of the numbers; 0 is no refusal
abbrev pub refusal_number : Refusal → ℕ
refusal_number Size = 1
refusal_number Shape = 2
refusal_number Text = 3
refusal_number Number = 4
refusal_number EmptyName = 14
refusal_number Depth = 5
refusal_number Arms = 6
refusal_number Twice = 7
refusal_number Unsupported = 8
refusal_number Eval = 9
refusal_number Emitted = 10
refusal_number ScratchShort = 11
refusal_number ImageLong = 12
refusal_number IllMade = 13

-- how a program says it
abbrev pub refusal_text : Refusal → List ℕ
refusal_text r = codes "refused " ++ decimal (refusal_number r)

-- the number of an answer; 0 is no refusal
abbrev pub number_of : {T : Type 0} → Result T Refusal → ℕ
number_of (Ok x) = 0
number_of (Err r) = refusal_number r

-- the cause is the sheet's own, whatever is lent
abbrev pub of_sheet : Refusal → Bool
of_sheet Size = true
of_sheet Shape = true
of_sheet Text = true
of_sheet Number = true
of_sheet EmptyName = true
of_sheet Depth = true
of_sheet Arms = true
of_sheet Twice = true
of_sheet Unsupported = true
of_sheet Eval = true
of_sheet Emitted = true
of_sheet ScratchShort = false
of_sheet ImageLong = false
of_sheet IllMade = false

-- what becomes of lent words
pub data Left : Type 0 where
  kept : Left
  zeroed : Left

unfoldable pub leaves : Left → List ℕ → List ℕ
leaves kept xs = xs
leaves zeroed xs = zeros (length xs)

-- of the scratch; an image is kept under every refusal
abbrev pub scratch_left : Refusal → Left
scratch_left Size = kept
scratch_left Shape = kept
scratch_left Text = kept
scratch_left Number = kept
scratch_left EmptyName = kept
scratch_left Depth = kept
scratch_left Arms = kept
scratch_left Twice = kept
scratch_left Unsupported = kept
scratch_left Eval = kept
scratch_left Emitted = kept
scratch_left ScratchShort = kept
scratch_left ImageLong = zeroed
scratch_left IllMade = zeroed

-- What the program `lower` writes for what it reads.
use Rattle.std.specs.Prelude.{ℕ, List, [], ◌∷◌, ◌++◌, length, nat_lt, if◌then◌else◌}
use Rattle.std.specs.Fmt.{decimal}
use Rattle.std.specs.List.{flat_map}
use Rattle.refusals.specs.declared.Refusal.TheVariants.{Size}
use Rattle.refusals.specs.Refusal.{refusal_text}
use Rattle.lowering.specs.Outcome.{Outcome, refused, image, outcome}

-- a word in digits, with a blank before it
abbrev pub word_text : ℕ → List ℕ
word_text w = 32 ∷ decimal w

-- a line: words in digits, with a blank between each two
abbrev pub words_text : List ℕ → List ℕ
words_text [] = 10 ∷ []
words_text (w ∷ ws) = decimal w ++ flat_map word_text ws ++ (10 ∷ [])

-- a line for an outcome: the image's words, or why there is none
abbrev pub outcome_text : Outcome → List ℕ
outcome_text (refused r) = refusal_text r ++ (10 ∷ [])
outcome_text (image ws) = words_text ws

-- of an input of up to 65,536 bytes the outcome, with 16,384 words each for the image and the scratch
abbrev pub said : List ℕ → List ℕ
said input = if nat_lt 65536 (length input) then outcome_text (refused Size) else outcome_text (outcome input 16384 16384)

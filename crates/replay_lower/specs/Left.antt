-- What a lowering must answer and leave, by the record of the oracle.
use Rattle.std.specs.Prelude.{ℕ, Bool, true, false, ◌&&◌, ◌||◌, List, eqb, ltb, leb, Ok, Err}
use Rattle.words.specs.Word.{word}
use Rattle.replay_records.specs.Left.{noise}
use Rattle.refusals.specs.declared.Refusal.TheVariants.{ScratchShort, ImageLong}
use Rattle.refusals.specs.Refusal.{refusal_number}
use Rattle.needs.specs.Needed.{Need}
use Rattle.to_image.specs.Answer.{Answer, answer_number, words_of}

-- the answer has number n and the word count k
abbrev pub answered : Answer → ℕ → ℕ → Bool
answered a n k = eqb (answer_number a) n && eqb (words_of a) k

-- a need, m words of scratch, and the number n of the lowering
abbrev pub foretold : Need → ℕ → ℕ → Bool
foretold (Ok w) m n =
    (ltb m w && eqb n (refusal_number ScratchShort)) || (leb w m && (eqb n 0 || eqb n (refusal_number ImageLong)))
foretold (Err by) m n = eqb (refusal_number by) n

-- word i of the image's room: one of the k wanted words, or what was there
abbrev pub image_word : List ℕ → ℕ → ℕ → ℕ
image_word s k i = elim (ltb i k) [ true ↦ word s i | false ↦ noise i ]

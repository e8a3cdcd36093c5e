-- What a lowering gives to a program in another language: the number, the word count, and what the two buffers hold.
use Rattle.std.specs.Prelude.{ℕ, ◌≡◌, List, length}
use Rattle.lowering.specs.Outcome.{outcome}
use Rattle.to_image.specs.Answer.{answer_number, words_of, answer, image_after, scratch_after}

pub record Given (s xs ys : List ℕ) (number words : ℕ) (xs' ys' : List ℕ) : Type 0 where
  pub number_is : number ≡ answer_number (answer (outcome s (length xs) (length ys)))
  pub words_is : words ≡ words_of (answer (outcome s (length xs) (length ys)))
  pub image_is : xs' ≡ image_after (outcome s (length xs) (length ys)) xs
  pub scratch_is : ys' ≡ scratch_after (outcome s (length xs) (length ys)) ys

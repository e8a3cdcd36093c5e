-- What the answer of a lowering tells: 01's number and word count, and after success demand 3 of what stands in the image.
use Rattle.std.specs.Prelude.{ℕ, ◌≡◌, List, length, take, Ok}
use Rattle.refusals.specs.Refusal.{refusal_number}
use Rattle.lowering.specs.Outcome.{Outcome, refused, image, outcome}
use Rattle.lowering.specs.Demand3.{Demand3}
use Rattle.to_image.specs.Answer.{answer_number, words_of, Answers, Answer}

-- 01's number and word count of an outcome: 0 is success, and a refusal has no words
abbrev pub outcome_number : Outcome → ℕ
outcome_number (refused r) = refusal_number r
outcome_number (image w) = 0

abbrev pub outcome_words : Outcome → ℕ
outcome_words (refused r) = 0
outcome_words (image w) = length w

-- r is answered for sheet s with image xs and scratch ys, and the image is left as xs'
pub record Told (s xs ys : List ℕ) (r : Answer) (xs' : List ℕ) : Type 0 where
  pub number_is : answer_number r ≡ outcome_number (outcome s (length xs) (length ys))
  pub words_is : words_of r ≡ outcome_words (outcome s (length xs) (length ys))
  -- after success the first words are the outcome's image, and demand 3 holds of them
  pub image_there : (n : ℕ) → r ≡ Ok n → outcome s (length xs) (length ys) ≡ image (take n xs')
  pub demand3 : (n : ℕ) → r ≡ Ok n → Demand3 s (take n xs')
  -- the same by 01's number and word count
  pub success : answer_number r ≡ 0 → Demand3 s (take (words_of r) xs')

-- what is to be proved: it follows from the contract of `lower`
abbrev pub Statement : Type 0
Statement = (s xs ys : List ℕ) (r : Answer) (xs' ys' : List ℕ) → Answers s xs ys r xs' ys' → Told s xs ys r xs'

-- The answer of a lowering, and what it leaves in the lent image and scratch, by the outcome of the definition.
use Rattle.std.specs.Prelude.{ℕ, ◌≡◌, List, ◌++◌, length, drop, Result, Ok, Err}
use Rattle.std.specs.Result.{result_unwrap_or}
use Rattle.refusals.specs.declared.Refusal.{Refusal}
use Rattle.refusals.specs.Refusal.{number_of, zeroed, leaves, scratch_left}
use Rattle.lowering.specs.Outcome.{Outcome, refused, image, outcome}

-- what a lowering answers: the image's word count, or why it is refused
abbrev pub Answer : Type 0
Answer = Result ℕ Refusal

-- 01's number of an answer: 0 is success
abbrev pub answer_number : Answer → ℕ
answer_number r = number_of r

-- the image's word count, 0 under a refusal
abbrev pub words_of : Answer → ℕ
words_of r = result_unwrap_or r 0

unfoldable pub answer : Outcome → Answer
answer (refused r) = Err r
answer (image w) = Ok (length w)

-- the image's words are written, and the rest of the buffer is kept
unfoldable pub image_after : Outcome → List ℕ → List ℕ
image_after (refused r) xs = xs
image_after (image w) xs = w ++ drop (length w) xs

-- the scratch is what the refusal leaves of it, and is zeroed under success
unfoldable pub scratch_after : Outcome → List ℕ → List ℕ
scratch_after (refused r) xs = leaves (scratch_left r) xs
scratch_after (image w) xs = leaves zeroed xs

-- all that is answered and left: by the definition's outcome
pub record Answers (s xs ys : List ℕ) (r : Answer) (xs' ys' : List ℕ) : Type 0 where
  pub answers : r ≡ answer (outcome s (length xs) (length ys))
  pub image_is : xs' ≡ image_after (outcome s (length xs) (length ys)) xs
  pub scratch_is : ys' ≡ scratch_after (outcome s (length xs) (length ys)) ys

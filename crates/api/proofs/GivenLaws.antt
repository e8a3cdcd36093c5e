-- What is given by the contract of `lower`.
use Prim.Native.Nat.{ℕ}
use mathlib.Core.Path.{◌≡◌, ap, ◌∙◌}
use mathlib.Core.List.{List}
use Rattle.to_image.specs.Answer.{answer_number, words_of, Answers, Answer}
use Rattle.api.specs.Given.{Given}

pub given : (s xs ys : List ℕ) (r : Answer) (xs' ys' : List ℕ) (number words : ℕ) → Answers s xs ys r xs' ys'
    → number ≡ answer_number r → words ≡ words_of r → Given s xs ys number words xs' ys'
given s xs ys r xs' ys' number words a n-is w-is = record {
  number_is = n-is ∙ ap answer_number a.answers;
  words_is = w-is ∙ ap words_of a.answers;
  image_is = a.image_is;
  scratch_is = a.scratch_is;
}

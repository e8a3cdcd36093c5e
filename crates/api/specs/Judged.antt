-- What an image check gives to a program in another language: the number, and what the scratch holds.
use Rattle.std.specs.Prelude.{ℕ, ◌≡◌, List}
use Rattle.checks.specs.Checked.{verdict_number, Verdict}
use Rattle.image_check.specs.Answer.{Answers}

pub record Judged (s w xs : List ℕ) (number : ℕ) (xs' : List ℕ) : Type 0 where
  pub verdict : Verdict
  pub answers : Answers s w xs verdict xs'
  pub number_is : number ≡ verdict_number verdict

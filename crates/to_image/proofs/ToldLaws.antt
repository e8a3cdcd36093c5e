-- What the contract of `lower` tells of its answer in 01's numbers, and demand 3 of the image that it leaves.
use Prim.Native.Nat.{ℕ}
use mathlib.Core.Path.{◌≡◌, refl, sym, ap, ◌∙◌}
use mathlib.Core.List.{List}
use native.Mathlib.Omega.{arith}
use lib.ListN.{length, take, drop}
use lib.Seq.{take_at}
use Rattle.refusals.proofs.RefusalLaws.{number-some}
use Rattle.lowering.specs.Outcome.{Outcome, refused, image, outcome}
use Rattle.lowering.specs.Demand3.{Demand3}
use Rattle.lowering.proofs.Demand3Holds as Holds
use Rattle.std.specs.Prelude.{Ok, Err}
use Rattle.to_image.specs.Answer.{answer_number, words_of, answer, image_after, Answers, Answer}
use Rattle.to_image.specs.Told.{outcome_number, outcome_words, Statement}

number_of : (o : Outcome) → answer_number (answer o) ≡ outcome_number o
unfolding answer
number_of (refused r) = refl
number_of (image w) = refl

words-of : (o : Outcome) → words_of (answer o) ≡ outcome_words o
unfolding answer
words-of (refused r) = refl
words-of (image w) = refl

-- the words at the front
front : (o : Outcome) (n : ℕ) (xs : List ℕ) → Ok n ≡ answer o → o ≡ image (take n (image_after o xs))
unfolding answer image_after
front (refused r) n xs e = let z : ◌≡◌ {A = ℕ} 0 1 = cc in absurd (omega arith)
front (image w) n xs e = let l : length w ≡ n = cc in ap image (sym (take_at w (drop (length w) xs) n l))

-- ---- the answer that `lower` gives

module _ (s xs ys : List ℕ) (r : Answer) (xs' ys' : List ℕ) (a : Answers s xs ys r xs' ys') where
  there : (n : ℕ) → r ≡ Ok n → outcome s (length xs) (length ys) ≡ image (take n xs')
  there n e =
      let o = outcome s (length xs) (length ys) in
      front o n xs (sym e ∙ a.answers) ∙ ap (λ (zs : List ℕ). image (take n zs)) (sym a.image_is)

  bands : (n : ℕ) → r ≡ Ok n → Demand3 s (take n xs')
  bands n e = Holds.demand3 s (length xs) (length ys) (take n xs') (there n e)

  by_number : (q : Answer) → r ≡ q → answer_number q ≡ 0 → Demand3 s (take (words_of q) xs')
  by_number (Ok n) e z = bands n e
  by_number (Err by) e z = absurd (omega (arith, number-some by))

pub told : Statement
told s xs ys r xs' ys' a =
    let o = outcome s (length xs) (length ys) in
    record {
      number_is = ap answer_number a.answers ∙ number_of o;
      words_is = ap words_of a.answers ∙ words-of o;
      image_there = there s xs ys r xs' ys' a;
      demand3 = bands s xs ys r xs' ys' a;
      success = by_number s xs ys r xs' ys' a r refl;
    }

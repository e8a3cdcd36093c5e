-- What a program in another language is told of a sheet's need: the number and the words of scratch; and what that foretells of a lowering.
use Rattle.std.specs.Prelude.{ℕ, ◌≤◌, ◌<◌, ◌≡◌, ◌⊎◌, List}
use Rattle.refusals.specs.declared.Refusal.TheVariants.{ScratchShort, ImageLong}
use Rattle.refusals.specs.Refusal.{refusal_number}
use Rattle.needs.specs.Needed.{need_number, words_of, needed}
use Rattle.needs.specs.Means.{scratch_most}

pub record Asked (s : List ℕ) (number words : ℕ) : Type 0 where
  pub number_is : number ≡ need_number (needed s)
  pub words_is : words ≡ words_of (needed s)

-- the answer k with w words, beside the answer of a lowering with a scratch of m words: a refusal is the lowering's too, and none of a
-- buffer's; where k is 0, the lowering answers 11 exactly where fewer than w words are lent, and else 0 or 12
pub record Foretold (k w m answer : ℕ) : Type 0 where
  pub not_scratch : k ≡ refusal_number ScratchShort → ⊥
  pub not_image : k ≡ refusal_number ImageLong → ⊥
  pub none : (k ≡ 0 → ⊥) → w ≡ 0
  pub refused : (k ≡ 0 → ⊥) → answer ≡ k
  pub most : w ≤ scratch_most
  pub short : k ≡ 0 → m < w → answer ≡ refusal_number ScratchShort
  pub enough : k ≡ 0 → w ≤ m → (answer ≡ 0) ⊎ (answer ≡ refusal_number ImageLong)

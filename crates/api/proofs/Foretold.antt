-- `sheet_needs` foretells `sheet_lower`: for every sheet, every image and every scratch, by the contracts of the two.
use Prim.Native.Nat.{ℕ}
use mathlib.Core.Path.{◌≡◌, refl, ap, ◌∙◌}
use mathlib.Core.Logic.{◌⊎◌, inl, inr}
use mathlib.Core.List.{List}
use Rattle.refusals.specs.declared.Refusal.{Refusal}
use Rattle.refusals.specs.declared.Refusal.TheVariants.{ImageLong}
use Rattle.refusals.specs.Refusal.{refusal_number}
use Rattle.refusals.proofs.RefusalLaws.{number-some, own-number}
use native.Mathlib.Omega.{arith}
use lib.ListN.{length}
use Rattle.lowering.specs.Outcome.{Outcome, refused, image, outcome}
use Rattle.needs.specs.Needed.{need_number, words_of, needed, Need}
use Rattle.needs.specs.Means.{Means, refuses, asks}
use Rattle.needs.proofs.NeedLaws.{means}
use Rattle.to_image.specs.Answer as answers
use Rattle.to_image.specs.Answer.{answer}
use Rattle.api.specs.Given.{Given}
use Rattle.api.specs.Asked.{Asked, Foretold}

-- the need's number and words are those of the sheet
pub asked : (s : List ℕ) (r : Need) (number words : ℕ) → r ≡ needed s → number ≡ need_number r → words ≡ words_of r → Asked s number words
asked s r number words r-is n-is w-is = record { number_is = n-is ∙ ap need_number r-is; words_is = w-is ∙ ap words_of r-is }

-- 01's number of an outcome
abbrev number : Outcome → ℕ
number o = answers.answer_number (answer o)

number-refused : {o : Outcome} {r : Refusal} → o ≡ refused r → number o ≡ refusal_number r
unfolding answer
number-refused e = ap number e

-- where nothing refuses but 12
lowered-or-long : (o : Outcome) → ((r : Refusal) → o ≡ refused r → r ≡ ImageLong) → (number o ≡ 0) ⊎ (number o ≡ 12)
unfolding answer
lowered-or-long (refused r) only = inr (ap refusal_number (only r refl))
lowered-or-long (image xs) only = inl refl

foretells : {s : List ℕ} {r : Need} (i m : ℕ) → Means s r → Foretold (need_number r) (words_of r) m (number (outcome s i m))
foretells i m (refuses {r} own alike) = record {
  not_scratch = λ e. (own-number r own).0 e;
  not_image = λ e. (own-number r own).1 e;
  none = λ h. refl;
  refused = λ h. number-refused (alike i m);
  most = omega arith;
  short = λ z. absurd (omega (arith, number-some r));
  enough = λ z. absurd (omega (arith, number-some r));
}
foretells {s} i m (asks most short enough) = record {
  not_scratch = λ e. omega arith;
  not_image = λ e. omega arith;
  none = λ h. absurd (h refl);
  refused = λ h. absurd (h refl);
  most = most;
  short = λ z l. number-refused (short i m l);
  enough = λ z l. lowered-or-long (outcome s i m) (λ r. enough i m r l);
}

pub foretold : {s xs ys xs' ys' : List ℕ} {k w n words : ℕ} → Asked s k w → Given s xs ys n words xs' ys' → Foretold k w (length ys) n
foretold {s} {xs} {ys} A G = rw (A.number_is, A.words_is, G.number_is) (foretells (length xs) (length ys) (means s))

-- docs/PORT.md names these laws; the loops that used them are gone.
use Prim.Native.Nat.{ℕ, ◌+◌}
use mathlib.Core.Path.{◌≡◌}
use mathlib.Core.Bool.{Bool, true, false}
use lib.Dec.{eqb}
use borrow.Author.Tests.{eq-eqb}
use Rattle.words.specs.Count.{all_below}
use Rattle.words.proofs.CountLaws.{all_more}
use Rattle.replay_records.specs.Left.{noise, word_left}

-- where nothing was zeroed, a word is what it was
pub kept_word : (z : Bool) (i : ℕ) → z ≡ false → word_left z i ≡ noise i
kept_word z i h = rw (h, word_left)

-- one word more is the same
pub same_more : (x y : ℕ → ℕ) (i : ℕ) → all_below i (λ i. eqb (x i) (y i)) ≡ true → x i ≡ y i
    → all_below (i + 1) (λ i. eqb (x i) (y i)) ≡ true
same_more x y i h e = all_more (λ i. eqb (x i) (y i)) i h (eq-eqb (x i) (y i) e)

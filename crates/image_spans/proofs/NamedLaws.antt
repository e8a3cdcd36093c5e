-- docs/PORT.md names these laws; the loops that used them are gone, or count no place, or the slice that they read is all tree.
use Prim.Native.Nat.{ℕ, ◌+◌, ◌*◌, ◌≤◌, ◌<◌}
use mathlib.Core.Path.{◌≡◌, sym, ap, ◌∙◌}
use mathlib.Core.Bool.{Bool, true}
use mathlib.Core.List.{List}
use native.Mathlib.Omega.{arith}
use native.Mathlib.Nat.{mul-add, mul-one, mul-zero, add-zero}
use lib.Dec.{leb}
use Rattle.words.specs.Count.{all_below}
use Rattle.lowering.specs.Limits.{chain_width, range_width}
use Rattle.lowering.specs.Words.{word, chains_at, chain_word}
use Rattle.image_rule.specs.Rules.{chains, steps}
use Rattle.image_rule.specs.Test.{operands_by}
use Rattle.image_read.specs.Most.{targets_most}
use Rattle.image_read.specs.Targets.{targets_at, apart}
use Rattle.image_maxima.specs.Tree.{leaf, Tree}
use Rattle.image_spans.specs.Premises.{ChainsLie}
use Rattle.image_spans.specs.Needs.{NeedsIn}
use Rattle.image_spans.proofs.ChainLaws.{fits_by}

-- all are passed
pub all_done : (f : ℕ → Bool) (i n m : ℕ) → n ≡ m → i ≤ n → n ≤ i → all_below i f ≡ true → true ≡ all_below m f
all_done f i n m e h z all = let same : m ≡ i = omega arith in sym (ap (λ (k : ℕ). all_below k f) same ∙ all)

-- where the target of row j stands
pub record At (w : List ℕ) (kind j from : ℕ) : Type 0 where
  pub there : from ≡ targets_at w kind + apart kind * j
  pub small : from ≤ targets_most + range_width * j

-- the first row
pub at_first : (w : List ℕ) (kind from : ℕ) → from ≡ targets_at w kind → from ≤ targets_most → At w kind 0 from
at_first w kind from e h = record { there = e ∙ simp (mul-zero, add-zero); small = omega arith }

-- the next row, n words on
pub at_next : {w : List ℕ} {kind j from : ℕ} (n : ℕ) → n ≡ apart kind → n ≤ range_width → At w kind j from → At w kind (j + 1) (from + n)
at_next {w} {kind} {j} {from} n e h a = record {
  there = let product : apart kind * (j + 1) ≡ apart kind * j + apart kind = simp (mul-add, mul-one) in omega (arith, a.there);
  small = omega (arith, a.small);
}

-- t begins with the tree over all needs, of steps that chains have; words may stand behind it
pub record HoldsNeedTree (w t : List ℕ) : Type 0 where
  pub tree : Tree t (steps w)
  pub needs : NeedsIn w t (steps w)
  pub lie : ChainsLie w

-- chain i's answer by a tree of `size` leaves, its words read from `at` on
pub chain_fits :
    {w t : List ℕ} (size i at a n x : ℕ) (r : Bool)
    → size ≡ steps w
    → at ≡ chains_at w + chain_width * i
    → a ≡ word w (at + 3)
    → n ≡ word w (at + 4)
    → x ≡ word w (at + 5)
    → (Tree t size → a + n ≤ size → r ≡ all_below n (λ k. leb (leaf t size (a + k)) x))
    → i < chains w
    → HoldsNeedTree w t
    → r ≡ operands_by w i
unfolding chain_word
chain_fits {w} size i at a n x r es e ha hn hx says h T =
    let read : (f : ℕ) → word w (at + f) ≡ chain_word w i f = λ f. ap (λ p. word w (p + f)) e in
    fits_by size i a n x r es (ha ∙ read 3) (hn ∙ read 4) (hx ∙ read 5) says T.tree T.needs T.lie h

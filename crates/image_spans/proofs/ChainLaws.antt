-- A chain has the operands of its steps just where it has as many as each of them needs.
use Prim.Native.Nat.{ℕ, zero, suc, ◌+◌, ◌*◌, ◌-◌, ◌/◌, ◌≤◌, ◌<◌}
use mathlib.Core.Path.{◌≡◌, refl, sym, ap, ◌∙◌}
use mathlib.Core.Bool.{Bool, true, false}
use mathlib.Core.List.{List, []}
use native.Mathlib.Omega.{arith}
use borrow.Author.Tests.{ltb-true, ltb-false, leb-true, leb-false, le-leb, lt-leb}
use lib.Dec.{leb, ltb}
use lib.ListN.{get_or, length}
use Rattle.words.specs.Count.{all_below}
use Rattle.words.proofs.CountLaws.{all_same}
use Rattle.lowering.specs.Limits.{step_width}
use Rattle.lowering.specs.Words.{chain_word}
use Rattle.image_rule.specs.Rules.{chains, steps, steps_at, step_word, operand_table}
use Rattle.image_rule.specs.Test.{fits, obeys, operands_by}
use Rattle.image_read.specs.Kinds.{step_of}
use Rattle.image_read.proofs.KindLaws.{step-past}
use Rattle.image_maxima.specs.Tree.{leaf, Tree, leaves_up_to}
use Rattle.image_spans.specs.Premises.{ChainsLie}
use Rattle.image_spans.specs.Needs.{cut, need_of, step_need, NeedsIn, NeedTree}

-- a cut need is met just where the whole is
below-cut : (a n : ℕ) → n ≤ 65535 → leb (cut (a + 1)) n ≡ ltb a n
below-cut a n h = by (ltb a n) refl
  where
    by : (b : Bool) → ltb a n ≡ b → leb (cut (a + 1)) n ≡ ltb a n
    by true e = le-leb (cut (a + 1)) n (omega (arith, ltb-true a n e)) ∙ sym e
    by false e = lt-leb (cut (a + 1)) n (omega (arith, ltb-false a n e)) ∙ sym e

up-to-cut : (a n : ℕ) → n ≤ 65535 → leb (cut a) n ≡ leb a n
up-to-cut a n h = by (leb a n) refl
  where
    by : (b : Bool) → leb a n ≡ b → leb (cut a) n ≡ leb a n
    by true e = le-leb (cut a) n (omega (arith, leb-true a n e)) ∙ sym e
    by false e = lt-leb (cut a) n (omega (arith, leb-false a n e)) ∙ sym e

-- step j as a step of a chain with n operands, by its kind
abbrev obeys_by : List ℕ → ℕ → ℕ → ℕ → Bool
obeys_by w j n kind = obeys (get_or (operand_table w j n) kind []) w (steps_at w + step_width * j)

-- the need of a step is met just where its rule holds
step-fits : (w : List ℕ) (j n : ℕ) → n ≤ 65535 → leb (step_need w j) n ≡ obeys_by w j n (step_word w j 0)
unfolding step_need need_of step_of operand_table obeys fits all_below step_word
step-fits w j n h = by (step_word w j 0)
  where
    by : (kind : ℕ) → leb (need_of (step_of kind) (step_word w j 1) (step_word w j 2) (step_word w j 3)) n ≡ obeys_by w j n kind
    by zero = below-cut (step_word w j 1) n h
    by (suc zero) = le-leb 0 n (omega arith)
    by (suc (suc zero)) = up-to-cut (step_word w j 2 + step_word w j 3) n h
    by (suc (suc (suc k))) =
        let three = suc (suc (suc k)) in
        ap (λ k. leb (need_of k (step_word w j 1) (step_word w j 2) (step_word w j 3)) n) (step-past three (omega arith))
        ∙ le-leb 0 n (omega arith)

-- the leaves of a run, one by one
pub run-leaves : (t : List ℕ) (size a n x : ℕ) → leaves_up_to t size a (a + n) x ≡ all_below n (λ k. leb (leaf t size (a + k)) x)
unfolding leaves_up_to
run-leaves t size a n x = let e : a + n - a ≡ n = omega arith in rw e refl

-- chain i's answer by a tree of `size` leaves, from the words that were read
pub fits_by :
    {w t : List ℕ} (size i a n x : ℕ) (r : Bool)
    → size ≡ steps w
    → a ≡ chain_word w i 3
    → n ≡ chain_word w i 4
    → x ≡ chain_word w i 5
    → (Tree t size → a + n ≤ size → r ≡ all_below n (λ k. leb (leaf t size (a + k)) x))
    → Tree t (steps w)
    → NeedsIn w t (steps w)
    → ChainsLie w
    → i < chains w
    → r ≡ operands_by w i
fits_by {w} {t} size i a n x r es ha hn hx says tree needs lie h =
    rw (es, ha, hn, hx) at says tree (lie.runs i h)
    ∙ all_same (λ k. leb (leaf t (steps w) (first + k)) most) (λ k. obeys_by w (first + k) most (step_word w (first + k) 0)) count same
  where
    first : ℕ
    first = chain_word w i 3

    count : ℕ
    count = chain_word w i 4

    most : ℕ
    most = chain_word w i 5

    same : (k : ℕ) → k < count → leb (leaf t (steps w) (first + k)) most ≡ obeys_by w (first + k) most (step_word w (first + k) 0)
    same k b =
        ap (λ (m : ℕ). leb m most) (needs.need (first + k) (omega (arith, lie.runs i h)))
        ∙ step-fits w (first + k) most (lie.operands i h)

-- chain i's answer by the tree that all of t is
pub chain_fits :
    {w t : List ℕ} (i a n x : ℕ) (r : Bool)
    → a ≡ chain_word w i 3
    → n ≡ chain_word w i 4
    → x ≡ chain_word w i 5
    → (Tree t (length t / 2) → a + n ≤ length t / 2 → r ≡ all_below n (λ k. leb (leaf t (length t / 2) (a + k)) x))
    → NeedTree w t
    → i < chains w
    → r ≡ operands_by w i
chain_fits i a n x r ha hn hx says T h = fits_by _ i a n x r T.half ha hn hx says T.tree T.needs T.lie h

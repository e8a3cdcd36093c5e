-- A walk over siblings beside a count: its invariant, `Walked`, with start, step and end.
use Prim.Native.Nat.{ℕ, zero, suc, ◌+◌, ◌<◌}
use mathlib.Core.Path.{◌≡◌, refl, sym, ◌∙◌, ap}
use mathlib.Core.List.{List, [], ◌∷◌}
use native.Mathlib.Omega.{arith}
use lib.ListN.{length}
use Rattle.sheet.proofs.WalkLaws.{skip-next}
use Rattle.sheet.specs.Node.{next}
use Rattle.sheet.specs.Rest.{rest}
use Rattle.sheet.specs.Walk.{sibling_list, skip}
use Rattle.sheet.specs.declared.Siblings.{Siblings}

-- of n nodes from `first` on, i are passed
pub record Walked (s : List ℕ) (first n i : ℕ) (left : List ℕ) : Type 0 where
  pub count : i + length left ≡ n
  pub nodes : left ≡ sibling_list s (length left) (skip s i first)

-- so many siblings are listed
pub siblings-long : (s : List ℕ) (n j : ℕ) → length (sibling_list s n j) ≡ n
unfolding sibling_list
siblings-long s zero j = refl
siblings-long s (suc n) j = ap suc (siblings-long s n (next s j))

first-of : List ℕ → ℕ
first-of [] = 0
first-of (x ∷ xs) = x

behind-of : List ℕ → List ℕ
behind-of [] = []
behind-of (x ∷ xs) = xs

pub walked-start : {w v : Siblings} (s : List ℕ) (first n i : ℕ) → w ≡ v → v.sheet.now ≡ s → v.left ≡ n → v.at ≡ first → i ≡ 0
    → Walked s first n i (rest w)
unfolding skip
walked-start {w} {v} s first n i e a b c z =
    let all : rest w ≡ sibling_list s n first = rw (e, a, b, c) refl in
    let size : length (rest w) ≡ n = ap length all ∙ siblings-long s n first in
    record { count = omega arith; nodes = rw (size, z) all }

-- one node more
pub record Goes (s : List ℕ) (first n i j : ℕ) (more : List ℕ) : Type 0 where
  pub less : i < n
  pub node : j ≡ skip s i first
  pub walked : Walked s first n (i + 1) more

pub walked-on : (s : List ℕ) (first n i : ℕ) (left : List ℕ) → Walked s first n i left → {j : ℕ} {more : List ℕ} → left ≡ j ∷ more
    → Goes s first n i j more
unfolding sibling_list first-of behind-of skip
walked-on s first n i left c {j} {more} e =
    let size : length left ≡ suc (length more) = ap length e in
    let at = skip s i first in
    let same : j ∷ more ≡ at ∷ sibling_list s (length more) (next s at) =
    sym e ∙ c.nodes ∙ ap (λ (k : ℕ). sibling_list s k at) size in
    record {
      less = omega (arith, c.count);
      node = ap first-of same;
      walked = record {
        count = omega (arith, c.count);
        nodes = ap behind-of same ∙ ap (sibling_list s (length more)) (skip-next s i first);
      };
    }

pub walked-end : (s : List ℕ) (first n i : ℕ) (left : List ℕ) → Walked s first n i left → left ≡ [] → i ≡ n
walked-end s first n i left c e = let none : length left ≡ 0 = ap length e in omega (arith, c.count)

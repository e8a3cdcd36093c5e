-- Laws of the links of a chain, in the shapes of the code: at most `left` links from c on.
use Prim.Native.Nat.{ℕ, zero, suc, ◌-◌, ◌≤◌}
use mathlib.Core.Path.{◌≡◌, refl}
use mathlib.Core.Bool.{Bool, true, false}
use mathlib.Core.List.{List}
use native.Mathlib.Omega.{arith}
use lib.ListN.{length}
use Rattle.lowering.proofs.ChainNodesLaws.{links-more, links-last, links-none}
use Rattle.sheet.specs.Limits.{max_depth}
use Rattle.lowering.specs.Flatten.{rest_of, goes_on, links}
use Rattle.expr_chains.specs.Steps.{link_count}

module _ (s : List ℕ) where
  -- how many there are
  few-links : (n c : ℕ) → length (links n s c) ≤ n
  few-links zero c = rw (links-none s 0 c (omega arith)) (omega arith)
  few-links (suc n) c = by (goes_on s c) refl (few-links n (rest_of s c))
    where
      by : (g : Bool) → goes_on s c ≡ g → length (links n s (rest_of s c)) ≤ n → length (links (suc n) s c) ≤ suc n
      by true g r =
          let n' : suc n - 1 ≡ n = omega arith in
          rw (links-more s (suc n) c (omega arith) g, n') (omega arith)
      by false g r = rw (links-last s (suc n) c (omega arith) g) (omega arith)

  pub links-most : (j : ℕ) → link_count s j ≤ max_depth
  unfolding link_count
  links-most j = few-links max_depth j

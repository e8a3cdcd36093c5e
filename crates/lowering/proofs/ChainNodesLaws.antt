-- A link of a checked sheet's chain has two children, and the node that its step is taken with is a node too.
use Prim.Native.Nat.{ℕ, zero, suc, ◌-◌, ◌≤◌, ◌<◌}
use mathlib.Core.Path.{◌≡◌, refl, ap, ◌∙◌}
use mathlib.Core.Bool.{Bool, true, false, not, and-eq-true_iff}
use mathlib.Core.List.{List, [], ◌∷◌}
use native.Mathlib.Omega.{arith}
use lib.Dec.{eqb}
use borrow.Author.Tests.{eqb-true}
use Rattle.laws.proofs.Numbers.{one_less}
use Rattle.sheet.specs.Node.{kind, child}
use Rattle.check_shape.specs.Kinds.{bound}
use Rattle.lowering.specs.Kinds.{dot_kind, index_kind}
use Rattle.lowering.specs.Flatten.{is_chain, breaks, rest_of, goes_on, operand_of, links}
use Rattle.lowering.specs.All.{All}
use Rattle.lowering.specs.Nodes.{Valid, Right}
use Rattle.lowering.proofs.NodesLaws.{row_first, row-rest, row-less, node-bounds, children, child-valid}
use Rattle.lowering.specs.ChainNodes.{Link}

chain-bound : (k : ℕ) → is_chain k ≡ true → bound k 0 ≡ 2
unfolding bound
chain-bound k h = by (eqb k dot_kind) refl
  where
    by : (t : Bool) → eqb k dot_kind ≡ t → bound k 0 ≡ 2
    by true e = rw (eqb-true k dot_kind e)
    by false e = rw (eqb-true k index_kind (rw e at h))

module _ (s : List ℕ) where
  pub goes-chain : (c : ℕ) → goes_on s c ≡ true → is_chain (kind s (rest_of s c)) ≡ true
  unfolding goes_on
  goes-chain c h = ((and-eq-true_iff (not (breaks s c)) (is_chain (kind s (rest_of s c)))).0 h).1

  pub operand_on : (c : ℕ) → goes_on s c ≡ true → operand_of s c ≡ child (rest_of s c)
  unfolding operand_of
  operand_on c h = rw (h, operand_of)

  pub operand-last : (c : ℕ) → goes_on s c ≡ false → operand_of s c ≡ rest_of s c
  unfolding operand_of
  operand-last c h = rw (h, operand_of)

  pub links-zero : (c : ℕ) → links zero s c ≡ []
  unfolding links
  links-zero c = refl

  pub links-on : (n c : ℕ) → goes_on s c ≡ true → links (suc n) s c ≡ c ∷ links n s (rest_of s c)
  unfolding links
  links-on n c h = rw (h, links)

  pub links-stop : (n c : ℕ) → goes_on s c ≡ false → links (suc n) s c ≡ c ∷ []
  unfolding links
  links-stop n c h = rw (h, links)

  -- the same in the shapes of a loop: at most `left` links more, the next of them c
  pub links-more : (left c : ℕ) → 0 < left → goes_on s c ≡ true → links left s c ≡ c ∷ links (left - 1) s (rest_of s c)
  links-more left c h g = ap (λ n. links n s c) (one_less left h) ∙ links-on (left - 1) c g

  pub links-last : (left c : ℕ) → 0 < left → goes_on s c ≡ false → links left s c ≡ c ∷ []
  links-last left c h g = ap (λ n. links n s c) (one_less left h) ∙ links-stop (left - 1) c g

  pub links-none : (left c : ℕ) → left ≤ 0 → links left s c ≡ []
  links-none left c h = let e : left ≡ 0 = omega arith in ap (λ n. links n s c) e ∙ links-zero c

module _ (s : List ℕ) (C : Right s) where
  pub chain_link : (c : ℕ) → Valid s c → is_chain (kind s c) ≡ true → Link s c
  chain_link c v h = record { valid = v; two = omega (arith, node-bounds s C c v, chain-bound (kind s c) h) }

  rest-valid : (c : ℕ) → Link s c → Valid s (rest_of s c)
  unfolding rest_of
  rest-valid c l = row_first {n = 0} (row-rest (row-less l.two (children s C c l.valid)))

  pub operand-valid : (c : ℕ) → Link s c → Valid s (operand_of s c)
  operand-valid c l = by (goes_on s c) refl
    where
      by : (t : Bool) → goes_on s c ≡ t → Valid s (operand_of s c)
      by true h =
          let r = chain_link (rest_of s c) (rest-valid c l) (goes-chain s c h) in
          rw (operand_on s c h) (child-valid s C (rest_of s c) r.valid (omega arith))
      by false h = rw (operand-last s c h) (rest-valid c l)

  pub links-valid : (n c : ℕ) → Link s c → All (Link s) (links n s c)
  links-valid zero c l = rw (links-zero s c) tt
  links-valid (suc n) c l = by (goes_on s c) refl (links-valid n (rest_of s c))
    where
      by : (t : Bool) → goes_on s c ≡ t → (Link s (rest_of s c) → All (Link s) (links n s (rest_of s c))) → All (Link s) (links (suc n) s c)
      by true h more = rw (links-on s n c h) (l, more (chain_link (rest_of s c) (rest-valid c l) (goes-chain s c h)))
      by false h more = rw (links-stop s n c h) (l, tt)

-- Laws of a chain's links, in the shapes of a loop over them: at most `left` more, the next of them c.
use Prim.Native.Nat.{ℕ, ◌-◌, ◌≤◌, ◌<◌}
use mathlib.Core.Path.{◌≡◌, refl, sym, ap, ◌∙◌}
use mathlib.Core.Bool.{Bool, true, false, ◌&&◌, true≢false, and-eq-true_iff}
use mathlib.Core.List.{List, [], ◌∷◌}
use native.Mathlib.Omega.{arith}
use lib.Dec.{eqb, lit<}
use borrow.Author.Tests.{eqb-true}
use Rattle.laws.proofs.Numbers.{one_less}
use Rattle.lowering.proofs.ChainNodesLaws.{links-last}
use Rattle.sheet.specs.Limits.{max_depth}
use Rattle.sheet.specs.Node.{kind, child}
use Rattle.lowering.specs.Kinds.{property_kind, dot_kind}
use Rattle.lowering.specs.Flatten.{rest_of, goes_on, operand_of, links, property, dot_rule, step_rule}
use Rattle.expr_count.specs.Tally.{instructions, nothing, plus}
use Rattle.expr_count.specs.Count.{Rec, siblings, walk_on, walk, chain_by, chain}
use Rattle.expr_count.specs.declared.operands.Operands.{Operands}
use Rattle.expr_count.specs.declared.links.Link.TheVariants.{Lowers, Nowhere}
use Rattle.expr_count.specs.Operands.{some_from}
use Rattle.expr_count.specs.Link.{link_by, link, grade, least, temporary, is_plain}

module _ (s : List ℕ) where
  -- c is the first of them
  pub links-some : (left c : ℕ) → 0 < left → (cs : List ℕ) × (links left s c ≡ c ∷ cs)
  unfolding links
  links-some left c h =
      (elim (goes_on s c) [ true ↦ links (left - 1) s (rest_of s c) | false ↦ [] ], ap (λ n. links n s c) (one_less left h))

-- how far a chain comes is at most its end
least-least : (s ls : List ℕ) → least s ls ≤ 2
unfolding least
least-least s [] = omega arith
least-least s (c ∷ cs) = let h = least-least s cs in omega arith

-- with the links cs it comes as far as behind a first one that lowers, and nowhere with one that has no step
module _ (s : List ℕ) {c : ℕ} {cs ds : List ℕ} (is : cs ≡ c ∷ ds) where
  pub reach-on : {o : Operands} → link s c ≡ Lowers o → least s cs ≡ least s ds
  unfolding least grade
  reach-on h = rw (is, h) (omega (arith, least-least s ds))

  pub reach-none : link s c ≡ Nowhere → least s cs ≡ 0
  unfolding least grade
  reach-none h = rw (is, h) (omega arith)

-- a plain chain has one link, without operands, and a root that is not lowered
module _ (s : List ℕ) (t : Rec) (j : ℕ) where
  module _ (last : goes_on s j ≡ false) (dot : kind s j ≡ dot_kind) (rest : kind s (rest_of s j) ≡ property_kind)
      (root : temporary s (child j) ≡ 0) where
    operand-is : operand_of s j ≡ rest_of s j
    unfolding operand_of
    operand-is = rw (last, operand_of)

    dot-step : dot_rule (kind s (operand_of s j)) ≡ property
    unfolding dot_rule
    dot-step = ap (λ x. dot_rule (kind s x)) operand-is ∙ ap dot_rule rest

    step_is : step_rule s j ≡ property
    unfolding step_rule
    step_is = rw (dot, step_rule) dot-step

    link-is : link s j ≡ Lowers (some_from 0 (operand_of s j))
    unfolding link link_by
    link-is = ap (λ r. link_by r s (operand_of s j)) step_is

    one_link : links max_depth s j ≡ j ∷ []
    one_link = links-last s max_depth j (lit< tt) last

    lone-chain : chain s t j ≡ instructions 1
    unfolding chain chain_by least grade walk walk_on siblings nothing instructions plus
    lone-chain = rw (one_link, link-is, root)

  pub plain-chain : is_plain s j ≡ true → chain s t j ≡ instructions 1
  unfolding is_plain
  plain-chain h = by (goes_on s j) refl h
    where
      by :
          (g : Bool) → goes_on s j ≡ g
          → elim g [
            | true ↦ false
            | false ↦ eqb (kind s j) dot_kind && eqb (kind s (rest_of s j)) property_kind && eqb (temporary s (child j)) 0
          ] ≡ true
          → chain s t j ≡ instructions 1
      by true e q = absurd (true≢false (sym q))
      by false e q =
          let a =
          (and-eq-true_iff (eqb (kind s j) dot_kind && eqb (kind s (rest_of s j)) property_kind) (eqb (temporary s (child j)) 0)).0 q in
          let b = (and-eq-true_iff (eqb (kind s j) dot_kind) (eqb (kind s (rest_of s j)) property_kind)).0 a.0 in
          lone-chain e (eqb-true (kind s j) dot_kind b.0) (eqb-true (kind s (rest_of s j)) property_kind b.1)
          (eqb-true (temporary s (child j)) 0 a.1)

-- as the code asks it
module _ (s : List ℕ) (j : ℕ) {g : Bool} (g-is : g ≡ goes_on s j) where
  pub plain-not : g ≡ true → false ≡ is_plain s j
  unfolding is_plain
  plain-not h = rw (sym g-is ∙ h, is_plain)

  pub plain_by :
      {rest root n k m : ℕ} → g ≡ false → rest ≡ rest_of s j → root ≡ child j → n ≡ temporary s root → k ≡ kind s j → m ≡ kind s rest
      → (eqb k dot_kind && eqb m property_kind && eqb n 0) ≡ is_plain s j
  unfolding is_plain
  plain_by h rest_is root_is n-is k-is m-is =
      let n-at = n-is ∙ ap (temporary s) root_is in
      let m-at = m-is ∙ ap (kind s) rest_is in
      rw (k-is, m-at, n-at, sym g-is ∙ h, is_plain)

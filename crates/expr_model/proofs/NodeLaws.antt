-- The nodes that a construct lowers are nodes of the sheet.
use Prim.Native.Nat.{ℕ, zero, suc, ◌-◌, ◌≤◌}
use mathlib.Core.Path.{◌≡◌, refl, sym, subst}
use mathlib.Core.Bool.{true}
use mathlib.Core.List.{List}
use native.Mathlib.Omega.{arith}
use lib.ListN.{get_or}
use Rattle.sheet.specs.Node.{kind, count}
use Rattle.check_shape.specs.Kinds.{bound}
use Rattle.lowering.specs.Nodes.{Valid, Right}
use Rattle.lowering.proofs.NodesLaws.{node-bounds}
use Rattle.lowering.specs.ChainNodes.{Link}
use Rattle.lowering.proofs.ChainNodesLaws.{operand-valid, links-valid, links-more}
use Rattle.lowering.specs.All.{All}
use Rattle.lowering.specs.Flatten.{rest_of, goes_on, operand_of}
use Rattle.lowering.specs.Expression.{Rule, rules, rule}
use Rattle.lowering.specs.Expression as Expression
use Rattle.expr_rules.specs.declared.kinds.Rule as Kinds
use Rattle.expr_rules.specs.Answers.{rule_of}
use Rattle.expr_rules.proofs.InverseLaws.{rule_from, rule_is}
use Rattle.expr_count.proofs.LinkLaws.{links-some}

-- ---- what a rule says of the kind, and of the count of children

abbrev KindSays : Rule → ℕ → Type 0
KindSays Expression.boolean k = Prim.Unit {0}
KindSays Expression.unit k = Prim.Unit {0}
KindSays Expression.constant k = Prim.Unit {0}
KindSays Expression.interpolated k = Prim.Unit {0}
KindSays Expression.array k = Prim.Unit {0}
KindSays Expression.variable k = Prim.Unit {0}
KindSays Expression.this k = Prim.Unit {0}
KindSays Expression.fn_call k = k ≡ 13
KindSays Expression.chain k = bound k 0 ≡ 2
KindSays Expression.and k = bound k 0 ≡ 1
KindSays Expression.or k = bound k 0 ≡ 1
KindSays Expression.coalesce k = bound k 0 ≡ 1
KindSays Expression.residual k = Prim.Unit {0}

kind-says : (k : ℕ) → KindSays (get_or rules k Expression.residual) k
unfolding rules bound
kind-says zero = tt
kind-says (suc zero) = tt
kind-says (suc (suc zero)) = tt
kind-says (suc (suc (suc zero))) = tt
kind-says (suc (suc (suc (suc zero)))) = tt
kind-says (suc (suc (suc (suc (suc zero))))) = tt
kind-says (suc (suc (suc (suc (suc (suc zero)))))) = tt
kind-says (suc (suc (suc (suc (suc (suc (suc zero))))))) = tt
kind-says (suc (suc (suc (suc (suc (suc (suc (suc zero)))))))) = tt
kind-says (suc (suc (suc (suc (suc (suc (suc (suc (suc zero))))))))) = tt
kind-says (suc (suc (suc (suc (suc (suc (suc (suc (suc (suc zero)))))))))) = tt
kind-says (suc (suc (suc (suc (suc (suc (suc (suc (suc (suc (suc zero))))))))))) = tt
kind-says (suc (suc (suc (suc (suc (suc (suc (suc (suc (suc (suc (suc zero)))))))))))) = tt
kind-says (suc (suc (suc (suc (suc (suc (suc (suc (suc (suc (suc (suc (suc zero))))))))))))) = refl
kind-says (suc (suc (suc (suc (suc (suc (suc (suc (suc (suc (suc (suc (suc (suc zero)))))))))))))) = refl
kind-says (suc (suc (suc (suc (suc (suc (suc (suc (suc (suc (suc (suc (suc (suc (suc zero))))))))))))))) = refl
kind-says (suc (suc (suc (suc (suc (suc (suc (suc (suc (suc (suc (suc (suc (suc (suc (suc zero)))))))))))))))) = refl
kind-says (suc (suc (suc (suc (suc (suc (suc (suc (suc (suc (suc (suc (suc (suc (suc (suc (suc zero))))))))))))))))) = refl
kind-says (suc (suc (suc (suc (suc (suc (suc (suc (suc (suc (suc (suc (suc (suc (suc (suc (suc (suc zero)))))))))))))))))) = refl
kind-says (suc (suc (suc (suc (suc (suc (suc (suc (suc (suc (suc (suc (suc (suc (suc (suc (suc (suc (suc k))))))))))))))))))) = tt

module _ (s : List ℕ) (j : ℕ) where
  rule-kind : KindSays (rule s j) (kind s j)
  unfolding rule
  rule-kind = kind-says (kind s j)

  rule-as : (k : Kinds.Rule) → rule_of (rule s j) ≡ k → KindSays (rule_from k) (kind s j)
  rule-as k h = subst (λ r. KindSays r (kind s j)) (sym (rule_is (rule s j) k h)) rule-kind

  pub call-kind : rule_of (rule s j) ≡ Kinds.TheVariants.FnCall → kind s j ≡ 13
  unfolding rule_from
  call-kind h = rule-as Kinds.TheVariants.FnCall h

  module _ (C : Right s) (v : Valid s j) where
    chain-two : rule_of (rule s j) ≡ Kinds.TheVariants.Chain → 2 ≤ count s j
    unfolding rule_from
    chain-two h = let e = rule-as Kinds.TheVariants.Chain h in omega (arith, node-bounds s C j v)

    pub coalesce-some : rule_of (rule s j) ≡ Kinds.TheVariants.Coalesce → 1 ≤ count s j
    unfolding rule_from
    coalesce-some h = let e = rule-as Kinds.TheVariants.Coalesce h in omega (arith, node-bounds s C j v)

    -- ---- children

    -- a chain's first link, and its root
    pub chain_link : rule_of (rule s j) ≡ Kinds.TheVariants.Chain → Link s j
    chain_link h = record { valid = v; two = chain-two h }

-- ---- links

module _ (s : List ℕ) (C : Right s) (c : ℕ) (l : Link s c) where
  pub link-node : Valid s (operand_of s c)
  link-node = operand-valid s C c l

  pub link-next : goes_on s c ≡ true → Link s (rest_of s c)
  link-next g =
      let two = links-valid s C 2 c l in
      let rest = (subst (All (Link s)) (links-more s 2 c (omega arith) g) two).1 in
      (subst (All (Link s)) (links-some s (2 - 1) (rest_of s c) (omega arith)).1 rest).0

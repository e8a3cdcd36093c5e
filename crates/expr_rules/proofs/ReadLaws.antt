-- The two ways in which the code reads a link.
use Prim.Native.Nat.{ℕ, ◌%◌}
use mathlib.Core.Path.{◌≡◌, refl, sym, ap, ap₂, ◌∙◌}
use mathlib.Core.Bool.{Bool, true, false}
use mathlib.Core.List.{List}
use Rattle.lowering.proofs.ChainNodesLaws.{operand_on, operand-last}
use Rattle.sheet.specs.Node.{kind, field_a, child}
use Rattle.lowering.specs.Flatten.{rest_of, goes_on, operand_of, step_rule}
use Rattle.expr_rules.specs.declared.chains.StepRule.{StepRule}
use Rattle.expr_rules.specs.Answers.{step_rule_of, leads_on, rule_onto}
use Rattle.expr_rules.specs.Reads.{Reads}
use Rattle.std.specs.Prelude.{Some, None}
use Rattle.std.specs.Bool.{then_some}

module _ (s : List ℕ) (c : ℕ) {k flags rest m : ℕ} {t : Bool}
    (ek : k ≡ kind s c) (ef : flags ≡ field_a s c) (er : rest ≡ rest_of s c) (em : m ≡ kind s rest) (et : t ≡ leads_on flags m) where
  leads-on : t ≡ goes_on s c
  unfolding goes_on
  leads-on = et ∙ ap₂ leads_on ef (em ∙ ap (kind s) er)

  rule-onto : {rule : StepRule} (x : ℕ) → x ≡ operand_of s c → rule ≡ step_rule_of (rule_onto k (kind s x)) → rule ≡ step_rule_of (step_rule s c)
  unfolding step_rule rule_onto
  rule-onto x ex eu = eu ∙ ap₂ (λ a y. step_rule_of (rule_onto a (kind s y))) ek ex

  pub read_goes :
      {with n : ℕ} {rule : StepRule}
      → t ≡ true
      → with ≡ child rest
      → n ≡ kind s with
      → rule ≡ step_rule_of (rule_onto k n)
      → Reads s c (record { link = c; next = Some rest; with = with; rule = rule; flag = flags % 2 })
  read_goes {with} ht ew en eu =
      let operand = ew ∙ ap child er ∙ sym (operand_on s c (sym leads-on ∙ ht)) in record {
        link_is = refl;
        next_is = ap₂ then_some (sym ht ∙ leads-on) er;
        with_is = operand;
        rule_is = rule-onto with operand (eu ∙ ap (λ y. step_rule_of (rule_onto k y)) en);
        flag_is = ap (λ f. f % 2) ef;
      }

  pub read-stops :
      {rule : StepRule}
      → t ≡ false
      → rule ≡ step_rule_of (rule_onto k m)
      → Reads s c (record { link = c; next = None; with = rest; rule = rule; flag = flags % 2 })
  read-stops ht eu =
      let operand = er ∙ sym (operand-last s c (sym leads-on ∙ ht)) in record {
        link_is = refl;
        next_is = ap₂ then_some (sym ht ∙ leads-on) er;
        with_is = operand;
        rule_is = rule-onto rest operand (eu ∙ ap (λ y. step_rule_of (rule_onto k y)) em);
        flag_is = ap (λ f. f % 2) ef;
      }

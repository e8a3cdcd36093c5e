-- What the code reads of a link, by the definition.
use Rattle.std.specs.Prelude.{ℕ, ◌≡◌, List, Option}
use Rattle.std.specs.Bool.{then_some}
use Rattle.lowering.specs.Flatten.{rest_of, goes_on, operand_of, step_rule, negated}
use Rattle.expr_rules.specs.declared.chains.Read.{Read}
use Rattle.expr_rules.specs.Answers.{step_rule_of}

-- the rest behind link c, where it is a link too
abbrev pub next_of : List ℕ → ℕ → Option ℕ
next_of s c = then_some (goes_on s c) (rest_of s c)

-- p is what link c says
pub record Reads (s : List ℕ) (c : ℕ) (p : Read) : Type 0 where
  pub link_is : p.link ≡ c
  pub next_is : p.next ≡ next_of s c
  pub with_is : p.with ≡ operand_of s c
  pub rule_is : p.rule ≡ step_rule_of (step_rule s c)
  pub flag_is : p.flag ≡ negated s c

-- the whole of it
abbrev pub read_of : List ℕ → ℕ → Read
read_of s c = record {
  link = c;
  next = next_of s c;
  with = operand_of s c;
  rule = step_rule_of (step_rule s c);
  flag = negated s c;
}

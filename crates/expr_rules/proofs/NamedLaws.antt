-- docs/PORT.md names these laws of the rule of a call by its keyword.
use Prim.Native.Nat.{ℕ, ◌+◌}
use mathlib.Core.Path.{◌≡◌, ap, sym, ◌∙◌}
use mathlib.Core.Bool.{false, ◌&&◌}
use lib.Dec.{leb}
use Rattle.lowering.specs.Limits.{max_args}
use Rattle.lowering.specs.Call.{CallRule, residual}
use Rattle.expr_rules.specs.declared.keywords.Keyword.{Keyword}
use Rattle.expr_rules.specs.declared.keywords.Keyword.TheVariants.{Call}
use Rattle.expr_rules.specs.Answers.{call_rule_of}
use Rattle.expr_rules.specs.Keywords.{rule_by}

-- `call` with no argument, or with too many
pub call_none : (n : ℕ) → (leb 1 n && leb n (max_args + 1)) ≡ false → residual ≡ rule_by Call n
unfolding rule_by
call_none n h = rw (h, rule_by)

-- by the code's name of the keyword
pub rule_told : (n : ℕ) {word k : Keyword} {r : CallRule} → word ≡ k → r ≡ rule_by k n → call_rule_of r ≡ call_rule_of (rule_by word n)
rule_told n e h = ap call_rule_of (h ∙ ap (λ w. rule_by w n) (sym e))

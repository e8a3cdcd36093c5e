-- The keywords as the code's enum gives them: which of them a name is, and the rules of calls and methods by it.
use Rattle.std.specs.Prelude.{ℕ, ◌+◌, Bool, true, false, ◌&&◌, List, eqb, leb}
use Rattle.text.specs.Keyword.{is_eval, is_fn, is_call, is_curry}
use Rattle.lowering.specs.Limits.{max_args}
use Rattle.lowering.specs.Call.{CallRule, fn_ptr, fn_ptr_call, lowerable, eval, residual}
use Rattle.expr_rules.specs.declared.keywords.Keyword.{Keyword}
use Rattle.expr_rules.specs.declared.keywords.Keyword.TheVariants.{Fn, Call, Eval, Curry, Other}

-- by whether it is `Fn`, `call`, `eval`, `curry`
abbrev pub keyword_by : Bool → Bool → Bool → Bool → Keyword
keyword_by f c e u =
    elim f [
      | true ↦ Fn
      | false ↦
          elim c [
            | true ↦ Call
            | false ↦ elim e [ true ↦ Eval | false ↦ elim u [ true ↦ Curry | false ↦ Other ] ]
          ]
    ]

unfoldable pub keyword_of : List ℕ → Keyword
keyword_of name = keyword_by (is_fn name) (is_call name) (is_eval name) (is_curry name)

-- the rule of a call of n arguments with a namespace
unfoldable pub general_by : Keyword → ℕ → CallRule
general_by Fn n = residual
general_by Call n = residual
general_by Eval n = eval
general_by Curry n = residual
general_by Other n = elim (leb n max_args) [ true ↦ lowerable | false ↦ residual ]

-- and without one
unfoldable pub rule_by : Keyword → ℕ → CallRule
rule_by Fn n = elim (eqb n 1) [ true ↦ fn_ptr | false ↦ residual ]
rule_by Call n = elim (leb 1 n && leb n (max_args + 1)) [ true ↦ fn_ptr_call | false ↦ residual ]
rule_by Eval n = eval
rule_by Curry n = residual
rule_by Other n = general_by Other n

-- a method lowers
unfoldable pub as_method : Keyword → Bool
as_method Fn = false
as_method Call = true
as_method Eval = false
as_method Curry = true
as_method Other = true

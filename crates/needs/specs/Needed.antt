-- What a sheet needs, by the definition of the lowering: the first refusal among 1 to 10 that fits, or the words that 11 asks for.
use Rattle.std.specs.Prelude.{ℕ, true, false, List, ltb, Result, Ok, Err}
use Rattle.std.specs.Result.{result_unwrap_or}
use Rattle.refusals.specs.declared.Refusal.{Refusal}
use Rattle.refusals.specs.declared.Refusal.TheVariants.{Eval, Emitted}
use Rattle.refusals.specs.Refusal.{number_of}
use Rattle.checks.specs.Checked.{checked, Verdict}
use Rattle.lowering.specs.Limits.{max_emitted}
use Rattle.lowering.specs.Pools.{Pools}
use Rattle.lowering.specs.Outcome.{lower, scratch_needed}

-- what a sheet needs: so many words of scratch, or the refusal, whatever is lent
abbrev pub Need : Type 0
Need = Result ℕ Refusal

-- 01's number of a need: 0 is none
abbrev pub need_number : Need → ℕ
need_number r = number_of r

-- the words of scratch, 0 under a refusal
abbrev pub words_of : Need → ℕ
words_of r = result_unwrap_or r 0

-- 9 and 10, in 01's order; the definition's own words of scratch
unfoldable pub needed_by : List ℕ → Pools → Need
needed_by s p =
    elim p.defeated [
      | true ↦ Err Eval
      | false ↦ elim (ltb max_emitted p.emitted) [ true ↦ Err Emitted | false ↦ Ok (scratch_needed s p) ]
    ]

-- a sheet that the check of 1 to 8 accepts is lowered
unfoldable pub needed_after : List ℕ → Verdict → Need
needed_after s (Ok x) = needed_by s (lower s).pools
needed_after s (Err by) = Err by

unfoldable pub needed : List ℕ → Need
needed s = needed_after s (checked s)

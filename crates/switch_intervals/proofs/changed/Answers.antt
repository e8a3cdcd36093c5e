-- `switch_intervals::changed` meets its contract: one law for each way through the code.
use mathlib.Core.Path.{sym, ◌∙◌}
use borrow.Author.Tests.{eqb-true, eqb-false}
use native.Mathlib.Omega.{arith}
use Rattle.switch_intervals.proofs.JoiningLaws.{closed-most, looks, changed-stayed, changed-ended, changed-opened}
use Rattle.switch_intervals.proofs.changed.Goals as goal

pub returns-then-goes_on-clause-fact : goal.returns-then-goes_on-clause-fact
returns-then-goes_on-clause-fact c =
    let known = looks _ _ _ _ _ _ _ c.piece_list-list.ensures.upper_bound (λ few. c.piece_list-list.ensures.list few (omega arith)) c.hash-h.ensures c.goes_on.ensures in
    changed-stayed _ _ _ _ _ _ _ c.requires.before known c.if-goes_on.true

pub invariant_of-result : goal.invariant_of-result
invariant_of-result c =
    record {
      few = omega (arith, closed-most _ _ _ _ c.closed-bands.ensures.value, c.requires.behind, c.requires.i_lt_max_bands);
    }

pub returns-then-is_empty-clause-bands_bound : goal.returns-then-is_empty-clause-bands_bound
returns-then-is_empty-clause-bands_bound c = closed-most _ _ _ _ c.closed-bands.ensures.value

pub returns-then-is_empty-clause-fact : goal.returns-then-is_empty-clause-fact
returns-then-is_empty-clause-fact c =
    let known = looks _ _ _ _ _ _ _ c.piece_list-list.ensures.upper_bound (λ few. c.piece_list-list.ensures.list few (omega arith)) c.hash-h.ensures c.goes_on.ensures in
    changed-ended _ _ _ _ _ _ _ c.requires.before known _ _ c.if-goes_on.false c.closed-bands.ensures.value
    c.closed-bands.ensures.table_after
    (eqb-true _ _ (sym c.is_empty.ensures ∙ c.if-is_empty.true))

pub invariant_of-result-2 : goal.invariant_of-result-2
invariant_of-result-2 c =
    record {
      few = omega (arith, closed-most _ _ _ _ c.closed-bands.ensures.value, c.requires.behind, c.requires.i_lt_max_bands);
    }

pub overflow_add-bands : goal.overflow_add-bands
overflow_add-bands c = omega (arith, closed-most _ _ _ _ c.closed-bands.ensures.value, c.args.o.few)

pub returns-clause-bands_bound : goal.returns-clause-bands_bound
returns-clause-bands_bound c = closed-most _ _ _ _ c.closed-bands.ensures.value

pub returns-clause-fact : goal.returns-clause-fact
returns-clause-fact c =
    let known = looks _ _ _ _ _ _ _ c.piece_list-list.ensures.upper_bound (λ few. c.piece_list-list.ensures.list few (omega arith)) c.hash-h.ensures c.goes_on.ensures in
    changed-opened _ _ _ _ _ _ _ c.requires.before known _ _ c.if-goes_on.false c.closed-bands.ensures.value
    c.closed-bands.ensures.table_after _
    (eqb-false _ _ (sym c.is_empty.ensures ∙ c.if-is_empty.false)) c.put.ensures

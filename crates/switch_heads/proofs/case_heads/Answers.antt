-- `switch_heads::case_heads` meets its contract. The invariant is `CaseFill`: heads and numbers of the cases passed.
use native.Mathlib.Omega.{arith}
use Rattle.switch_heads.proofs.CaseLaws.{cases-start, cases-step, cases_end}
use Rattle.switch_heads.proofs.case_heads.Goals as goal

pub loop-i-init : goal.loop-i-init
loop-i-init c = cases-start _ _ _ _ _ c.field_b.ensures c.min-n.ensures

pub loop-i-preserved : goal.loop-i-preserved
loop-i-preserved c =
    let put = c.numbered-heads.ensures in
    cases-step _ _ _ _ _ _ _ _ c.loop-i.invariant _ _ _ c.loop-i-test.true (omega arith) put.upper_bound (put.number tt)
    c.next-c.ensures

pub returns : goal.returns
returns c =
    let both = cases_end _ _ _ _ _ _ _ _ c.loop-i.invariant c.loop-i-test.false _ c.put.ensures in
    record { fact = both.0; fact_2 = both.1 }

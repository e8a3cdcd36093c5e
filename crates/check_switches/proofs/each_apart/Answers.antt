-- `check_switches::each_apart` meets its contract. Invariant: what is left of the walk differs where the whole does.
use Rattle.check_switches.proofs.SwitchLaws.{list_distinct-siblings, pass-goes, pass-stops, pass-ends}
use Rattle.check_switches.proofs.each_apart.Goals as goal

pub loop-p-init : goal.loop-p-init
loop-p-init c = let a = c.args in cc (list_distinct-siblings a.sheet.now a.m a.at)

pub loop-p-preserved : goal.loop-p-preserved
loop-p-preserved c =
    pass-goes c.args.sheet.now c.in-Some.ensures.steps c.loop-p.invariant c.apart_from.ensures c.if-not-apart_from.false

pub returns-then-not-apart_from : goal.returns-then-not-apart_from
returns-then-not-apart_from c =
    pass-stops c.args.sheet.now c.in-Some.ensures.steps c.loop-p.invariant c.apart_from.ensures c.if-not-apart_from.true

pub returns : goal.returns
returns c = pass-ends c.args.sheet.now c.in_default.ensures.steps.0 c.loop-p.invariant

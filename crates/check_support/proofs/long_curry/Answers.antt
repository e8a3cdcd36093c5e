-- `check_support::long_curry` meets its contract: one law for each way.
use Rattle.sheet.specs.Kinds.{fn_call_kind}
use Rattle.sheet.specs.Node.{kind, count}
use lib.Dec.{ltb, eqb}
use mathlib.Core.Bool.{true, false, ◌&&◌}
use mathlib.Core.Path.{◌≡◌}
use Rattle.check_support.proofs.SupportLaws.{curry-call, curry-other}
use Rattle.check_support.proofs.long_curry.Goals as goal

pub returns-then-k-m : goal.returns-then-k-m
returns-then-k-m c =
    let a = c.args in
    let h : (eqb (kind a.sheet.now a.n) fn_call_kind && ltb 1 (count a.sheet.now a.n)) ≡ true = cc in
    cc (curry-call a.sheet.now a.n h)

pub returns : goal.returns
returns c = let a = c.args in
    let h : (eqb (kind a.sheet.now a.n) fn_call_kind && ltb 1 (count a.sheet.now a.n)) ≡ false = cc in
    cc (curry-other a.sheet.now a.n h)

-- `switch_emit::case_consts` meets its contract. The invariant: the Cases passed, whose values are constants, and their places.
use Rattle.switch_tables.proofs.ColumnLaws.{within_none}
use Rattle.sheet.proofs.WalkedLaws.{walked-start, walked-on, walked-end}
use Rattle.switch_emit.proofs.CaseDoes.{case-key, count_is, within_step}
use Rattle.switch_emit.proofs.CaseDoes.{cases_begin, cases_step, cases-does, cases-places}
use Rattle.switch_emit.proofs.TableLaws.{capped-below}
use Rattle.std.proofs.Common.{refl, ap, ◌∙◌, arith}
use Rattle.switch_emit.proofs.case_consts.Goals as goal

pub loop-i-init : goal.loop-i-init
loop-i-init c =
    let gives = c.into_iter-i-iterator.ensures.into_iter_gives in
    let made = c.enumerate-i-items.ensures in
    let cases = c.new-cases.ensures in
    let zero = ap (λ e. e.count) gives ∙ made.count in (
      refl,
      walked-start _ _ _ _ (ap (λ e. e.iter) gives ∙ made.source) cases.sheet cases.left (cases.at ∙ c.first_case.ensures) zero,
      within_none _ _ _,
      λ l C. rw zero (cases_begin _),
      refl,
    )

pub loop-i-preserved : goal.loop-i-preserved
loop-i-preserved c =
    let s = c.args.sheet.now in
    let v = c.loop-i in
    let steps = c.in-Some.ensures.steps in
    let goes = walked-on _ _ _ _ _ v.invariant.1 steps.0 in
    let written = rw steps.1 at c.put.ensures in
    let n-is = count_is s _ _ c.min-n.ensures c.field_b.ensures in
    rw steps.2 (
      c.put.auto.scratch ∙ v.invariant.0,
      goes.walked,
      within_step _ v.invariant.2 (omega (arith, goes.less, n-is)) written,
      λ l C.
          cases_step (v.invariant.3 l C) _ _ _ C n-is goes.less goes.node c.child.ensures
          (case-key _ _ _ C (capped-below _ _ _ _ c.min-n.ensures c.field_b.ensures goes.less) goes.node
          c.child.ensures) (c.add_const-p.ensures.does l) written,
      c.add_const-p.ensures.same_reference ∙ v.invariant.4,
    )

pub shape_of-flat : goal.shape_of-flat
shape_of-flat c = c.loop-i.invariant.0

pub returns : goal.returns
returns c =
    let s = c.args.sheet.now in
    let v = c.loop-i in
    let is = walked-end _ _ _ _ _ v.invariant.1 c.in-None.ensures.steps.0.0 in
    let n-is = count_is s _ _ c.min-n.ensures c.field_b.ensures in
    record {
      does = λ l C. cases-does (v.invariant.3 l C) _ C n-is (omega (arith, is));
      consts = λ l a C e h. cases-places (v.invariant.3 l C) _ C n-is (omega (arith, is)) a (v.invariant.0 ∙ e) h;
      within = v.invariant.2;
      same_reference = v.invariant.4;
    }

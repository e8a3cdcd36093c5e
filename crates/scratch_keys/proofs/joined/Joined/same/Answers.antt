-- `scratch_keys::joined::Joined::same` meets its contract: the lengths, then the pieces one after the other.
use mathlib.Core.Path.{refl, sym, ◌∙◌}
use native.Mathlib.Omega.{arith}
use Rattle.scratch_keys.proofs.PiecesLaws.{all_over-stops, all_over-goes, all_over-ends, joined-same, joined-apart}
use Rattle.scratch_keys.proofs.joined.Joined.same.Goals as goal

pub returns-then-len : goal.returns-then-len
returns-then-len c = joined-apart _ _ c.len.ensures c.len-2.ensures c.if-len.true

pub returns-then-not-has : goal.returns-then-not-has
returns-then-not-has c =
    all_over-stops _ _ _ _ (sym c.has.ensures ∙ c.if-not-has.true) ∙ joined-same _ _ c.len.ensures c.len-2.ensures c.if-len.false

pub returns-then-not-has-2 : goal.returns-then-not-has-2
returns-then-not-has-2 c =
    all_over-stops _ _ _ _ (sym c.has-2.ensures ∙ c.if-not-has-2.true)
    ∙ sym (all_over-goes _ _ _ _ _ (omega arith) (sym c.has.ensures ∙ c.if-not-has.false))
    ∙ joined-same _ _ c.len.ensures c.len-2.ensures c.if-len.false

pub returns-then-not-has-3 : goal.returns-then-not-has-3
returns-then-not-has-3 c =
    all_over-stops _ _ _ _ (sym c.has-3.ensures ∙ c.if-not-has-3.true)
    ∙ sym (all_over-goes _ _ _ _ _ (omega arith) (sym c.has.ensures ∙ c.if-not-has.false)
    ∙ all_over-goes _ _ _ _ _ refl (sym c.has-2.ensures ∙ c.if-not-has-2.false))
    ∙ joined-same _ _ c.len.ensures c.len-2.ensures c.if-len.false

pub returns : goal.returns
returns c =
    c.has-4.ensures
    ∙ sym (all_over-goes _ _ _ _ _ (omega arith) (sym c.has.ensures ∙ c.if-not-has.false)
    ∙ all_over-goes _ _ _ _ _ refl (sym c.has-2.ensures ∙ c.if-not-has-2.false)
    ∙ all_over-goes _ _ _ _ _ refl (sym c.has-3.ensures ∙ c.if-not-has-3.false)
    ∙ all_over-ends _ _ _)
    ∙ joined-same _ _ c.len.ensures c.len-2.ensures c.if-len.false

-- `scratch_keys::joined::Joined::has` meets its contract: the pieces one after the other.
use mathlib.Core.Path.{refl, sym, ◌∙◌}
use native.Mathlib.Omega.{arith}
use Rattle.scratch_keys.proofs.PiecesLaws.{over-stops, over-goes, over-ends}
use Rattle.scratch_keys.proofs.joined.Joined.has.Goals as goal

pub returns-then-not-overlap_same : goal.returns-then-not-overlap_same
returns-then-not-overlap_same c = over-stops _ _ _ _ _ (sym c.overlap_same.ensures ∙ c.if-not-overlap_same.true)

pub returns-then-not-overlap_same-2 : goal.returns-then-not-overlap_same-2
returns-then-not-overlap_same-2 c =
    over-stops _ _ _ _ _ (sym c.overlap_same-2.ensures ∙ c.if-not-overlap_same-2.true)
    ∙ sym (over-goes _ _ _ _ _ _ (omega arith) (sym c.overlap_same.ensures ∙ c.if-not-overlap_same.false))

pub returns-then-not-overlap_same-3 : goal.returns-then-not-overlap_same-3
returns-then-not-overlap_same-3 c =
    over-stops _ _ _ _ _ (sym c.overlap_same-3.ensures ∙ c.if-not-overlap_same-3.true)
    ∙ sym (over-goes _ _ _ _ _ _ (omega arith) (sym c.overlap_same.ensures ∙ c.if-not-overlap_same.false)
    ∙ over-goes _ _ _ _ _ _ refl (sym c.overlap_same-2.ensures ∙ c.if-not-overlap_same-2.false))

pub returns : goal.returns
returns c =
    c.overlap_same-4.ensures
    ∙ sym (over-goes _ _ _ _ _ _ (omega arith) (sym c.overlap_same.ensures ∙ c.if-not-overlap_same.false)
    ∙ over-goes _ _ _ _ _ _ refl (sym c.overlap_same-2.ensures ∙ c.if-not-overlap_same-2.false)
    ∙ over-goes _ _ _ _ _ _ refl (sym c.overlap_same-3.ensures ∙ c.if-not-overlap_same-3.false)
    ∙ over-ends _ _ _ _)

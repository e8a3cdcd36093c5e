-- `image_depths::depths_right` meets its contract.
use mathlib.Core.Path.{ap, ◌∙◌}
use native.Mathlib.Omega.{arith}
use lib.ListN.{length}
use Rattle.image_rule.specs.Marks.{mark, marks_there, marked, marks_right}
use Rattle.image_depths.specs.Checked.{Checked}
use Rattle.image_depths.proofs.CheckLaws.{room, marked-right, marked-wrong}
use Rattle.image_depths.proofs.depths_right.Goals as goal

pub returns-in_default : goal.returns-in_default
returns-in_default c =
    let there = c.marks_there-there.ensures.value ∙ ap marks_there c.of-image.ensures in
    λ K e. absurd (omega (arith, room c.args.image.now K, e, there, c.in_default.ensures.cases))

pub returns-then-not-mark_all : goal.returns-then-not-mark_all
returns-then-not-mark_all c =
    let same = c.of-image.ensures in
    let image = c.of-image.result in
    λ K e.
    let K' : Checked image.words.now = rw same K in
    let M = c.mark_all.ensures K'.named K'.pooled (c.in-Some.ensures.cases.1 ∙ c.marks_there-there.ensures.value) in
    marked-wrong image.words.now _ _ K' (omega (arith, image.sized.places)) M c.if-not-mark_all.true
    ∙ ap (λ w. marks_right w (marked w (marks_there w) (mark w 0))) same

pub returns : goal.returns
returns c =
    let same = c.of-image.ensures in
    let image = c.of-image.result in
    let parts = c.in-Some.ensures.cases in
    λ K e.
    let K' : Checked image.words.now = rw same K in
    let M = c.mark_all.ensures K'.named K'.pooled (parts.1 ∙ c.marks_there-there.ensures.value) in
    let fits = room image.words.now K' in
    let R = c.count_image_runs.ensures
    (omega (arith, fits, e, ap length same, parts.4, c.marks_there-there.ensures.value, c.mark_all.auto.rows)) in
    marked-right image.words.now _ _ _ M c.if-not-mark_all.false (c.marks_right.ensures K'.pooled R)
    ∙ ap (λ w. marks_right w (marked w (marks_there w) (mark w 0))) same

-- `check_pass::row_ok` meets its contract.
use mathlib.Core.Path.{sym, ◌∙◌}
use mathlib.Core.Bool.{false≢true}
use Rattle.check_pass.proofs.WordLaws.{row-of}
use Rattle.check_pass.proofs.row_ok.Goals as goal

pub returns-then-v-gt-LAST_KIND : goal.returns-then-v-gt-LAST_KIND
returns-then-v-gt-LAST_KIND c h = absurd (false≢true h)

pub returns : goal.returns
returns c h =
    let v = c.args.v in
    row-of c.args.t.now v.kind v.count v.a v.b v.c c.if-v-gt-LAST_KIND.false (sym c.hold.ensures ∙ h)

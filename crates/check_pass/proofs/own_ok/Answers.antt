-- `check_pass::own_ok` meets its contract.
use mathlib.Core.Path.{sym, ◌∙◌}
use mathlib.Core.Bool.{false≢true}
use Rattle.check_pass.proofs.WordLaws.{own-char, own-other}
use Rattle.check_pass.proofs.own_ok.Goals as goal

pub returns-then-v-eq-CHAR : goal.returns-then-v-eq-CHAR
returns-then-v-eq-CHAR c h =
    own-char _ _ _ _ _ _ _ _ _ (c.space_ok.ensures c.if-not-space_ok.false) (c.row_ok.ensures c.if-row_ok.true) c.if-v-eq-CHAR.true
    (sym c.scalar.ensures ∙ h)

pub returns-then-row_ok : goal.returns-then-row_ok
returns-then-row_ok c h =
    own-other _ _ _ _ _ _ _ _ _ (c.space_ok.ensures c.if-not-space_ok.false) (c.row_ok.ensures c.if-row_ok.true) c.if-v-eq-CHAR.false
    (c.call_ok.ensures h)

pub returns-then-not-space_ok : goal.returns-then-not-space_ok
returns-then-not-space_ok c h = absurd (false≢true h)

pub returns : goal.returns
returns c h = absurd (false≢true h)

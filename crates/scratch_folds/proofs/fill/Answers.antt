-- `scratch_folds::fill` meets its contract: nothing is written where the bytes have no whole block or no text is long.
use mathlib.Core.Path.{sym, ◌∙◌}
use Rattle.scratch_folds.proofs.SumsLaws.{summed-none, summed-short, summed-all}
use Rattle.scratch_folds.proofs.fill.Goals as goal

pub returns-then-b-lt-BLOCK : goal.returns-then-b-lt-BLOCK
returns-then-b-lt-BLOCK c =
    let a = c.args in
    summed-none a.sheet.now a.at a.scratch.now _ c.text_bytes-b.ensures c.if-b-lt-BLOCK.true

pub returns-then-all_short : goal.returns-then-all_short
returns-then-all_short c =
    let a = c.args in
    summed-short a.sheet.now a.at a.scratch.now (sym c.all_short.ensures ∙ c.if-all_short.true)

pub returns : goal.returns
returns c =
    let a = c.args in
    summed-all a.sheet.now a.at a.scratch.now _ _ c.text_bytes-b.ensures
    (sym c.all_short.ensures ∙ c.if-all_short.false)
    c.fill_blocks.ensures

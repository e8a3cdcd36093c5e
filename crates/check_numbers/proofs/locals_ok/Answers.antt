-- `check_numbers::locals_ok` meets its contract: every local's name is looked at.
use Rattle.check_numbers.proofs.CutLaws.{locals-cut}
use Rattle.check_numbers.proofs.locals_ok.Goals as goal

pub returns : goal.returns
returns c =
    let e = c.words_from-names.ensures in
    locals-cut c.args.sheet.now c.words_from-names.result.now c.locals_at.ensures.0 c.local_count-m.ensures c.text_count-x.ensures e.few e.each c.blocks_less.ensures

-- `check_texts::far_from` meets its contract: a run that ends at the first place goes on to the second. Assumes nothing.
use Rattle.check_texts.proofs.MarkLaws.{run-onto}
use Rattle.check_texts.proofs.far_from.Goals as goal

pub returns-then-r-f : goal.returns-then-r-f
returns-then-r-f c =
    run-onto c.run-r.ensures.passed c.if-r-f.true c.requires

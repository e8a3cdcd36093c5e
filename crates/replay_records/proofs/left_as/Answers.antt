-- `replay_records::left_as` meets its contract: each word is looked at.
use Rattle.std.proofs.Common.{rules}
use borrow.Author.Tests.{tests}
use lib.Dec.{eqb}
use Rattle.replay_records.specs.Left.{word_left}
use Rattle.replay_records.proofs.IndexedLaws.{all_below-enumerate}
use Rattle.replay_records.proofs.left_as.Goals as goal

pub returns : goal.returns
returns c =
    all_below-enumerate c.args.buf.now (λ i w. eqb w (word_left c.args.zeroed i)) _ _ _ c.all.ensures.ran (cc) (cc)
    (λ x b q k. search (rules, tests))

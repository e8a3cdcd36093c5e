-- `replay_lower::image_same` meets its contract: each word is looked at.
use Rattle.std.proofs.Common.{rules}
use borrow.Author.Tests.{tests}
use lib.Dec.{eqb}
use Prim.Native.Nat.{◌/◌}
use lib.ListN.{length}
use Rattle.replay_records.proofs.IndexedLaws.{all_below-enumerate}
use Rattle.replay_lower.specs.Left.{image_word}
use Rattle.replay_lower.proofs.image_same.Goals as goal

pub returns : goal.returns
returns c =
    let a = c.args in
    all_below-enumerate a.image.now (λ i w. eqb w (image_word a.wanted.now (length a.wanted.now / 4) i)) _ _ _ c.all.ensures.ran (cc) (cc)
    (λ x b q k. search (rules, tests))

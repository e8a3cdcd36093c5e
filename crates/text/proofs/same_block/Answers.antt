-- `text::same_block` meets its contract: the tests are the definition's. Assumes nothing.
use Rattle.text.proofs.EightLaws.{block_read}
use Rattle.text.proofs.same_block.Goals as goal

pub returns : goal.returns
returns c =
    block_read _ _ _
    c.eight.ensures
    c.eight-2.ensures
    c.eight-3.ensures
    c.eight-4.ensures
    c.eight-5.ensures
    c.eight-6.ensures
    c.eight-7.ensures
    c.eight-8.ensures

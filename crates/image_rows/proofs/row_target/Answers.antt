-- `image_rows::row_target` meets its contract.
use Rattle.image_rows.proofs.ReadLaws.{row-case, row-range, row-none}
use Rattle.image_rows.proofs.row_target.Goals as goal

pub returns-then-q-cases : goal.returns-then-q-cases
returns-then-q-cases c =
    let image = c.args.image.now in
    row-case image.words.now c.args.q image.sizes.cases _ image.starts.cases image.sized.cases image.placed.cases c.if-q-cases.true
    c.word_of.ensures

pub returns-then-j-image : goal.returns-then-j-image
returns-then-j-image c =
    let image = c.args.image.now in
    row-range image.words.now c.args.q image.sizes.cases image.sizes.ranges _ image.starts.ranges image.sized.cases image.sized.ranges
    image.placed.ranges c.if-q-cases.false c.if-j-image.true c.word_of-then-j-image.ensures

pub returns : goal.returns
returns c =
    let image = c.args.image.now in
    row-none image.words.now c.args.q image.sizes.cases image.sizes.ranges image.sized.cases image.sized.ranges c.if-q-cases.false
    c.if-j-image.false

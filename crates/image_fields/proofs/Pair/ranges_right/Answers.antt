-- `image_fields::Pair::ranges_right` meets its contract.
use Rattle.std.proofs.Common.{rules, ◌≡◌, ◌∙◌, ◌<◌, ◌*◌, ◌-◌, ◌+◌, ◌/◌, ℕ, Bool, List, [], length, leb, get_or, arith}
use borrow.Author.Tests.{tests}
use mathlib.Core.Path.{refl, ap}
use mathlib.Core.Bool.{◌&&◌}
use Rattle.std.proofs.lemmas.Iterator.{YieldsList-from_slice}
use Rattle.std.proofs.lemmas.Iterator.Search.{all_from_yields_List}
use Rattle.words.proofs.RangeLaws.{all_below-range}
use Rattle.lowering.specs.Limits.{range_width}
use Rattle.lowering.specs.Words.{word, ranges_at, range_word}
use Rattle.image_fields.specs.Records.{range_right}
use Rattle.image_fields.proofs.RecordLaws.{range-right}
use Rattle.image_fields.proofs.RowLaws.{row-word, rows-tested}
use Rattle.image_fields.proofs.Pair.ranges_right.Goals as goal

pub returns-in-Some : goal.returns-in-Some
unfolding range_word
returns-in-Some c =
    let image = c.args.self.now.image in
    let w = image.words.now in
    let e = c.as_chunks.ensures in
    let ys = c.as_chunks.result.0.now in
    let test : List ℕ → Bool = λ y. leb (get_or y 4 0) 1 && leb (get_or y 5 0) image.sizes.places in
    let at = image.starts.ranges in
    let n = image.sizes.ranges in
    let cut = c.in-Some.ensures.lookup.0 in
    let rows : length ys ≡ n = omega (arith, e.front_len, cut.3) in
    let k = length c.in-Some.rows.now / 6 in
    let read : (i f : ℕ) → i < n → f < 6 → get_or (get_or ys i []) f 0 ≡ word w (at + i * 6 + f) = λ i f l g.
    row-word 6 w at ((at + 6 * n) - at) k cut.2 e.front i f (omega (arith, e.front_len, cut.3)) g (omega arith) in
    let placed = image.placed.ranges in
    let place : (i f : ℕ) → at + i * 6 + f ≡ ranges_at w + range_width * i + f = λ i f. omega arith in
    let range : (i f : ℕ) → i < n → f < 6 → get_or (get_or ys i []) f 0 ≡ range_word w i f = λ i f l g. read i f l g ∙ ap (word w) (place i f) in
    rows-tested test (range_right w) ys
    (all_from_yields_List test _ _ _ c.all.ensures.ran (YieldsList-from_slice ys c.iter.ensures.rest) (λ x b q k. search (rules, tests)))
    rows
    (λ i l. range-right w i image.sized.places (range i 4 l (omega arith)) (range i 5 l (omega arith)))

pub returns-in-None : goal.returns-in-None
returns-in-None c = all_below-range (range_right c.args.self.now.image.words.now) _ _ _ _ c.all-in-None.ensures.ran refl (λ x b q k. search (rules, tests))

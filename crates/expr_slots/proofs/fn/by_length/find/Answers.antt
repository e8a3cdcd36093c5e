-- The closure of `expr_slots::by_length` meets its contract.
use Rattle.std.proofs.Common.{rules, ◌≡◌, ◌∙◌, sym, arith}
use borrow.Author.Tests.{ltb-false, ne_eqb}
use Rattle.expr_slots.specs.Named.{cut_word}
use Rattle.expr_slots.proofs.LengthLaws.{cut-equal, cut-other, none-there}
use Rattle.expr_slots.proofs.fn.by_length.find.Goals as goal

pub returns-then-number-n : goal.returns-then-number-n
unfolding cut_word
returns-then-number-n c =
    let p = c.captures in
    let l : c.number.result ≡ cut_word p.lengths.now c.number-k.result = search rules in
    cut-equal p.sheet.now p.name.now p.n p.locals.now p.lengths.now p.bytes c.args.left.now c.number-k.ensures l
    c.if-number-n.true c.text_start.ensures (c.same_part.ensures c.requires.0)

pub returns-else-number-n : goal.returns-else-number-n
unfolding cut_word
returns-else-number-n c =
    let p = c.captures in
    let l : c.number.result ≡ cut_word p.lengths.now c.number-k.result = search rules in
    ne_eqb _ _ c.if-number-n.false
    ∙ cut-other p.sheet.now p.name.now p.n p.locals.now p.lengths.now p.bytes c.args.left.now c.number-k.ensures l c.if-number-n.false

pub returns-in-None : goal.returns-in-None
unfolding cut_word
returns-in-None c =
    let p = c.captures in
    cut-other p.sheet.now p.name.now p.n p.locals.now p.lengths.now p.bytes c.args.left.now c.number-k.ensures
    (none-there p.lengths.now c.number-k.result (ltb-false _ _ (sym c.in-None.ensures.lookup.0))) (λ e. absurd (omega (arith, e, c.requires.0)))

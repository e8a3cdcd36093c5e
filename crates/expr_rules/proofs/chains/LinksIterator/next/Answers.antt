-- An iterator of a chain's links gives the next of them, and leaves the others.
use Rattle.std.proofs.Common.{◌≡◌, ◌∷◌, ap, arith, length, map, ◌-◌, ◌∙◌}
use Rattle.expr_rules.specs.Links.{links_from, links_left}
use Rattle.expr_rules.specs.Reads.{read_of}
use Rattle.expr_rules.proofs.LinksLaws.{links-end, links-go}
use Rattle.expr_rules.proofs.chains.LinksIterator.next.Goals as goal

pub returns-then-self-eq0-clause-steps : goal.returns-then-self-eq0-clause-steps
returns-then-self-eq0-clause-steps c =
    let it = c.args.self.now in
    let none = links-end it.sheet.now it.left it.next c.if-self-eq0.true in
    (none, none)

pub returns : goal.returns
returns c =
    let it = c.args.self.now in
    let p = c.read_link-p.result in
    let steps : links_left it ≡ p ∷ links_left (record { sheet = it.sheet; next = p.next; left = it.left - 1 }) =
    ap (λ o. map (read_of it.sheet.now) (links_from it.left it.sheet.now o)) c.in_ok-self.was
    ∙ links-go it.sheet.now it.left c.in_ok-self.field-0 c.read_link-p.ensures c.if-self-eq0.false in
    record { steps = steps; goes = record { on = λ _. (tt, tt, omega (arith, ap length steps)); keeps = tt; rests = λ _. tt } }

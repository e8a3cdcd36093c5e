-- `scratch_locals::Pass::meet` meets its contract: one law for each way.
use Rattle.std.proofs.Common.{ℕ, ◌+◌, refl, ap, arith}
use Rattle.scratch_locals.proofs.MeetLaws.{meets-other, meets-old, meets-new}
use Rattle.scratch_index.proofs.LookupLaws.{finds-some, finds-none}
use Rattle.scratch_locals.specs.Pass.{text_hash}
use Rattle.scratch_locals.proofs.Pass.meet.Goals as goal

pub returns-then-kind-ne-VARIABLE : goal.returns-then-kind-ne-VARIABLE
returns-then-kind-ne-VARIABLE c = meets-other c.kind.ensures c.if-kind-ne-VARIABLE.true

pub returns-in-Some : goal.returns-in-Some
returns-in-Some c =
    let looked = c.seek.ensures (text_hash c.args.self.sheet.now) c.args.n tt in
    meets-old c.kind.ensures c.if-kind-ne-VARIABLE.false c.name_index-ix.ensures c.field_a-t.ensures
    c.sums_at.ensures c.hash_text-h.ensures
    (finds-some looked c.in-Some.is)
    (ap (λ (p : ℕ). p + c.args.j) c.chains_at.ensures)
    c.put.ensures looked c.in-Some.is

pub returns : goal.returns
returns c =
    let looked = c.seek.ensures (text_hash c.args.self.sheet.now) c.args.n tt in
    meets-new c.kind.ensures c.if-kind-ne-VARIABLE.false c.name_index-ix.ensures c.field_a-t.ensures
    c.sums_at.ensures c.hash_text-h.ensures
    (finds-none looked c.in_default.is)
    (ap (λ (p : ℕ). p + c.args.j) c.chains_at.ensures)
    c.put-2.ensures (omega arith) (ap (λ (p : ℕ). p + c.args.n) c.tokens_at.ensures) c.put-3.ensures
    (ap (λ (p : ℕ). p + c.args.n) c.names_at.ensures)
    c.put-4.ensures
    c.link.ensures c.note.ensures refl

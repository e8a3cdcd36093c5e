-- `scratch_locals::Pass::tell` meets its contract: one law for each way.
use Rattle.scratch_index.proofs.LookupLaws.{finds-some, finds-none}
use Rattle.scratch_locals.specs.Pass.{text_hash}
use Rattle.scratch_locals.proofs.TellLaws.{tells_none, tells-one, tells-there}
use Rattle.std.proofs.Common.{ℕ, ◌+◌, refl, ap, arith}
use Rattle.scratch_locals.proofs.Pass.tell.Goals as goal

pub returns-in-Some : goal.returns-in-Some
returns-in-Some c n =
    let a = c.args in
    let looked = c.seek.ensures (text_hash a.self.sheet.now) n tt in
    let found = finds-some looked c.in-Some.is in
    tells-one c.local_text-t.ensures c.sums_at.ensures c.hash_text-h.ensures c.name_index.ensures found
    (tells-there c.local_text-t.ensures c.sums_at.ensures c.hash_text-h.ensures c.name_index.ensures found looked c.in-Some.is)
    (ap (λ (p : ℕ). p + c.in-Some.r) c.tokens_at.ensures) refl c.put.ensures

pub returns-in_default : goal.returns-in_default
returns-in_default c n =
    let a = c.args in
    let looked = c.seek.ensures (text_hash a.self.sheet.now) n tt in
    tells_none c.local_text-t.ensures c.sums_at.ensures c.hash_text-h.ensures c.name_index.ensures
    (finds-none looked c.in_default.is) (omega arith)

-- `scratch_index::hit` meets its contract: the tag first.
use Rattle.std.proofs.Common.{sym, ◌∙◌}
use Rattle.scratch_index.proofs.LookupLaws.{hit_same, hit_other}
use Rattle.scratch_index.proofs.hit.Goals as goal

pub returns-then-v-h : goal.returns-then-v-h
returns-then-v-h g c told = c.same.ensures told ∙ sym (hit_same _ _ _ c.if-v-h.true)

pub returns : goal.returns
returns g c told = sym (hit_other _ _ _ c.if-v-h.false)

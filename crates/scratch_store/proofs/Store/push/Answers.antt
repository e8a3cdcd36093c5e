-- `scratch_store::Store::push` meets its contract: the law of an instruction written and counted.
use Rattle.std.proofs.Common.{◌+◌, length, refl, ap, ◌∙◌}
use Rattle.lowering.proofs.Widths.{op-width}
use Rattle.scratch_store.proofs.EmitLaws.{emit-does}
use Rattle.scratch_store.proofs.DoesLaws.{does-any}
use Rattle.scratch_store.proofs.Store.push.Goals as goal

pub returns-clause-does : goal.returns-clause-does
returns-clause-does c = λ l s op w.
    let a = c.args in
    let it = a.self.now in
    does-any refl
    (emit-does it.state.layout it.scratch.now it.state op a.pos a.n _ _ _ _ _ _
    w c.after-d.ensures (ap (λ m. m + it.state.code) c.positions_at.ensures) (λ room. c.put_op.ensures room (ap length w ∙ op-width op))
    c.put.ensures c.count_one.ensures) l

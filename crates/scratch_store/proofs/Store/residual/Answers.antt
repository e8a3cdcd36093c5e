-- `scratch_store::Store::residual` meets its contract: an instruction, and a residual behind it.
use Rattle.std.proofs.Common.{rules, ◌+◌, ap}
use Rattle.scratch_store.proofs.ResidualLaws.{residual-does}
use Rattle.scratch_store.proofs.Store.residual.Goals as goal

pub returns-clause-does : goal.returns-clause-does
returns-clause-does c =
    λ l s.
    let it = c.emit.new.self in
    residual-does it.state c.args.j _ c.put.new.scratch _
    (λ m. c.emit.ensures.does m s tt)
    (ap (λ p. p + it.state.residuals) c.residuals_at.ensures)
    c.put.ensures
    (search rules) l

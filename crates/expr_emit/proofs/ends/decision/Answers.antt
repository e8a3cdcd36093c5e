-- The decision, a jump behind the other one, and that one from the depth before.
use Rattle.std.specs.Int.{from_bool}
use Rattle.std.proofs.Common.{ℕ, ◌∙◌}
use Rattle.bytecode.specs.declared.Op.TheVariants.{Bool}
use Rattle.expr_model.specs.Made.{emit}
use Rattle.expr_emit.proofs.Doing.{does_at}
use Rattle.expr_emit.proofs.EndDoes.{decision-holds, held-at-depth, other-word}
use Rattle.expr_emit.proofs.ends.decision.Goals as goal

pub returns-clause-does : goal.returns-clause-does
returns-clause-does c =
    λ l.
    λ s a few h room.
    let stop = c.args.stop in
    decision-holds (from_bool stop) c.args.end c.args.d a few h room
    (does_at (λ (n : ℕ). emit (Bool n) 0 0) (c.from.ensures ∙ other-word stop) (c.emit.ensures.does l s tt))
    (c.emit-2.ensures.does l s tt) (λ b g k. held-at-depth c.emit-2.new.self.state c.at_depth.ensures g k)
    (does_at (λ (n : ℕ). emit (Bool n) 0 0) c.from-2.ensures (c.emit-3.ensures.does l s tt))

-- `switch_emit::jumps::jump` meets its contract: a jump or its count alone.
use Rattle.std.proofs.Common.{sym, ◌∙◌}
use Rattle.switch_emit.proofs.PartLaws.{dropped-does, jump-does}
use Rattle.switch_emit.proofs.jumps.jump.Goals as goal

pub returns-in-None-clause-does : goal.returns-in-None-clause-does
returns-in-None-clause-does c =
    λ l s drop place e.
    dropped-does c.args.store.now.state _ _ (sym e ∙ c.in-None.is) c.dropped.ensures

pub returns-in-Some-clause-does : goal.returns-in-Some-clause-does
returns-in-Some-clause-does c =
    λ l s drop place e.
    jump-does _ _ _ (sym e ∙ c.in-Some.is) (c.emit.ensures.does l s tt)

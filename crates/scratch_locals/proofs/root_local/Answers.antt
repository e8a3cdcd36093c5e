-- `scratch_locals::root_local` meets its contract: a variable is asked for, and of another root nothing is told.
use Rattle.scratch_locals.proofs.RootLaws.{root_told, root-other}
use Rattle.scratch_locals.proofs.root_local.Goals as goal

pub returns-then-role-eq-VARIABLE : goal.returns-then-role-eq-VARIABLE
returns-then-role-eq-VARIABLE c = λ h.
    root_told _ c.child-v.ensures c.is_some.ensures (c.local_of.ensures h)

pub returns : goal.returns
returns c = λ _. root-other _ c.child-v.ensures c.role.ensures c.if-role-eq-VARIABLE.false

-- `scratch_keys::text_of` meets its contract: fields a and b stand one after another, and a setter is field c
-- of what its link is taken with.
use mathlib.Core.Path.{◌∙◌}
use native.Mathlib.Omega.{arith}
use Rattle.scratch_keys.proofs.KeyLaws.{text_at, text-setter}
use Rattle.scratch_keys.proofs.text_of.Goals as goal

pub returns-in-2 : goal.returns-in-2
returns-in-2 c = text-setter _ _ c.in-2.is c.operand_of.ensures c.field_c.ensures

pub returns-in_default : goal.returns-in_default
returns-in_default c = c.field.ensures ∙ text_at _ _ (λ e. omega (arith, e))

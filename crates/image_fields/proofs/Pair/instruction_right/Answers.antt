-- `image_fields::Pair::instruction_right` meets its contract.
use native.Mathlib.Omega.{arith}
use Rattle.image_fields.proofs.CodeLaws.{code-right}
use Rattle.image_fields.proofs.Pair.instruction_right.Goals as goal

pub returns : goal.returns
returns c = let p = c.args.self.now in code-right p.sheet.now p.image.words.now c.args.p c.code_fits.ensures p.bounded p.image.sized.tokens c.kind_at.ensures c.a_at.ensures c.b_at.ensures c.c_at.ensures (omega arith)

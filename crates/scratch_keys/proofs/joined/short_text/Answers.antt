-- `scratch_keys::joined::short_text` meets its contract.
use native.Mathlib.Omega.{arith}
use Rattle.scratch_keys.proofs.PiecesLaws.{cut-again, cut-short}
use Rattle.scratch_keys.proofs.joined.short_text.Goals as goal

pub returns : goal.returns
returns c =
    let a = c.args in
    (cut-again a.sheet.now a.t c.text.ensures c.text_length.ensures c.part.ensures, cut-short _ c.part.ensures (omega arith))

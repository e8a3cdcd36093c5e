-- Code as the lowering gives it: each instruction with the depth before it and with its position.
use Rattle.std.specs.Prelude.{ℕ, max, List, [], ◌∷◌, ◌++◌}
use Rattle.bytecode.specs.declared.Op.{Op}
use Rattle.bytecode.specs.Op.{op_words}

pub record Ins : Type 0 where
  pub op : Op
  pub depth : ℕ
  pub pos : ℕ

abbrev pub Code : Type 0
Code = List Ins

abbrev pub ins : Op → ℕ → ℕ → Ins
ins op depth pos = record { op = op; depth = depth; pos = pos }

-- the position of an instruction that has none
abbrev pub no_pos : ℕ
no_pos = 0

-- greatest depth: every depth after a step is the depth before another instruction, or 1 at the end
unfoldable pub greatest : Code → ℕ
greatest [] = 1
greatest (i ∷ c) = max i.depth (greatest c)

unfoldable pub code_words : Code → List ℕ
code_words [] = []
code_words (i ∷ c) = op_words i.op ++ code_words c

unfoldable pub positions : Code → List ℕ
positions [] = []
positions (i ∷ c) = i.pos ∷ positions c

-- What a walk over siblings has left.
use Rattle.std.specs.Prelude.{ℕ, List}
use Rattle.sheet.specs.Walk.{sibling_list}
use Rattle.sheet.specs.declared.Siblings.{Siblings}

-- the siblings that are left, in order
abbrev pub rest : Siblings → List ℕ
rest w = sibling_list w.sheet.now w.left w.at

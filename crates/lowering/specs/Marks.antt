-- Where the parts of a switch stand that demand 3 speaks of: the first instruction of each guard and of each body, the jump that pops
-- a guard's value, and the Unit of a missing default.
use Rattle.std.specs.Prelude.{ℕ, zero, suc, ◌+◌, true, false, List, [], ◌∷◌, ◌++◌, eqb, length}
use Rattle.std.proofs.Math.Option.{Option, none, some}
use Rattle.lowering.specs.Arms.{Try, Entry, to_body, to_chain, to_fallback, Arm}
use Rattle.lowering.specs.Bodies.{Body}
use Rattle.lowering.specs.SwitchLaid.{SwitchLaid}
use Rattle.lowering.specs.SwitchCode.{default_at}

pub data Mark : Type 0 where
  guard : ℕ → Mark
  branch : Mark
  body : ℕ → Mark
  missing : Mark

pub record Marked : Type 0 where
  pub place : ℕ
  pub mark : Mark

abbrev pub marked : ℕ → Mark → Marked
marked place mark = record { place = place; mark = mark }

unfoldable pub try_marks : List Try → List Marked
try_marks [] = []
try_marks (t ∷ ts) = marked t.place (guard t.block) ∷ marked (t.place + length t.code) branch ∷ try_marks ts

unfoldable pub entry_marks : Entry → List Marked
entry_marks (to_body k) = []
entry_marks (to_chain b ts e) = try_marks ts
entry_marks to_fallback = []

unfoldable pub arm_marks : List Arm → List Marked
arm_marks [] = []
arm_marks (a ∷ as') = entry_marks a.entry ++ arm_marks as'

unfoldable pub body_marks : List Body → List Marked
body_marks [] = []
body_marks (x ∷ xs) = marked x.place (body x.block) ∷ body_marks xs

unfoldable pub default_marks : ℕ → SwitchLaid → List Marked
default_marks zero l = marked (default_at zero l) missing ∷ []
default_marks (suc k) l = []

-- the marks of a layout, with the default block plus 1, or 0
unfoldable pub marks : ℕ → SwitchLaid → List Marked
marks def l = arm_marks l.case_arms ++ arm_marks l.range_arms ++ body_marks l.bodies ++ default_marks def l

-- the mark at a place
unfoldable pub mark_at : List Marked → ℕ → Option Mark
mark_at [] p = none
mark_at (m ∷ ms) p = elim (eqb m.place p) [ true ↦ some m.mark | false ↦ mark_at ms p ]

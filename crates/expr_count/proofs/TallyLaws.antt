-- Laws of tallies: sums, and sums that are cut off on the way.
use mathlib.Core.Path.{◌≡◌, refl, ◌∙◌}
use mathlib.Core.Bool.{or_assoc, or-false}
use native.Mathlib.Omega.{arith}
use Rattle.expr_count.specs.declared.tallies.Tally.{Tally}
use Rattle.expr_count.specs.Tally.{instructions, nothing, plus, taken_back, capped}

-- tallies are equal by their parts
pub tally-path : {a b : Tally} → a.len ≡ b.len → a.emitted ≡ b.emitted → a.defeated ≡ b.defeated → a ≡ b
tally-path p q r = λ i. record { len = p i; emitted = q i; defeated = r i }

pub plus-nothing : (a : Tally) → plus a nothing ≡ a
unfolding plus nothing instructions
plus-nothing a = tally-path (omega arith) (omega arith) (or-false a.defeated)

pub nothing-plus : (a : Tally) → plus nothing a ≡ a
unfolding plus nothing instructions
nothing-plus a = tally-path (omega arith) (omega arith) refl

pub plus_assoc : (a b c : Tally) → plus (plus a b) c ≡ plus a (plus b c)
unfolding plus
plus_assoc a b c = tally-path (omega arith) (omega arith) (or_assoc a.defeated b.defeated c.defeated)

pub capped-capped : (a : Tally) → capped (capped a) ≡ capped a
unfolding capped
capped-capped a = tally-path (omega arith) (omega arith) refl

pub capped_left : (a b : Tally) → capped (plus (capped a) b) ≡ capped (plus a b)
unfolding capped plus
capped_left a b = tally-path (omega arith) (omega arith) refl

pub capped-right : (a b : Tally) → capped (plus a (capped b)) ≡ capped (plus a b)
unfolding capped plus
capped-right a b = tally-path (omega arith) (omega arith) refl

pub capped-both : (a b : Tally) → capped (plus (capped a) (capped b)) ≡ capped (plus a b)
capped-both a b = capped_left a (capped b) ∙ capped-right a b

pub back-capped : (a : Tally) → taken_back (capped a) ≡ capped (taken_back a)
unfolding capped taken_back
back-capped a = refl

-- an instruction before and one behind
pub around : (u : Tally) → plus (plus (instructions 1) u) (instructions 1) ≡ plus u (instructions 2)
unfolding plus instructions
around u = tally-path (omega arith) (omega arith) refl

-- docs/PORT.md names these laws; the code asks for the plan of an array, for locals that are sought, and for siblings in other words now.
use Prim.Native.Nat.{ℕ, ◌+◌, ◌*◌, ◌-◌, ◌≤◌}
use mathlib.Core.Path.{◌≡◌, sym, ap, ◌∙◌}
use mathlib.Core.List.{List}
use native.Mathlib.Omega.{arith}
use Rattle.sheet.specs.Node.{count, child}
use Rattle.lowering.specs.Limits.{max_elements}
use Rattle.expr_count.specs.declared.tallies.Tally.{Tally}
use Rattle.expr_count.specs.declared.plans.Plan.TheVariants.{Parts}
use Rattle.expr_count.specs.declared.locals.Locals.{Locals}
use Rattle.expr_count.specs.declared.locals.Locals.TheVariants.{Sought}
use Rattle.expr_count.specs.Locals.{is_local, answer}
use Rattle.expr_count.specs.Tally.{instructions, plus, capped}
use Rattle.expr_count.specs.Count.{Rec, siblings}
use Rattle.expr_count.specs.Operands.{some_from}
use Rattle.expr_count.specs.Plan.{array}
use Rattle.expr_count.proofs.PlanLaws.{array-few}
use Rattle.expr_count.proofs.TallyLaws.{plus-nothing}

-- plans are equal by their parts
parts-path : {gap n m from at : ℕ} {a b : Tally} → n ≡ m → from ≡ at → a ≡ b → Parts gap (some_from n from) a ≡ Parts gap (some_from m at) b
parts-path {gap = gap} p q r = λ i. Parts gap (some_from (p i) (q i)) (r i)

pub array_parts :
    (s : List ℕ) (j : ℕ) {n from : ℕ} {rest : Tally} → n ≡ count s j → n ≤ max_elements → from ≡ child j → rest ≡ instructions 1
    → Parts 1 (some_from n from) rest ≡ array s j
array_parts s j e h f g = parts-path e f g ∙ array-few s j (omega arith)

-- nothing is told
pub told_none : (s : List ℕ) (v : ℕ) {a : Locals} → a ≡ Sought → is_local s v ≡ answer a s v
unfolding answer
told_none s v h = sym (ap (λ a. answer a s v) h)

-- all of n siblings are passed, i of them, so none from j on is left
pub sum_done :
    (s : List ℕ) (t : Rec) (gap n : ℕ) (leaves i j : ℕ) (a : Tally) → n ≤ i → i ≤ n
    → capped (plus a (instructions (leaves + gap * n)))
    ≡ capped (plus a (plus (instructions (leaves + gap * i)) (siblings s t gap (n - i) j)))
unfolding siblings
sum_done s t gap n leaves i j a h l =
    let e : n - i ≡ 0 = omega arith in
    let k : n ≡ i = omega arith in
    ap (λ m. capped (plus a (instructions (leaves + gap * m)))) k
    ∙ ap (λ x. capped (plus a x)) (sym (plus-nothing (instructions (leaves + gap * i))))
    ∙ ap (λ m. capped (plus a (plus (instructions (leaves + gap * i)) (siblings s t gap m j)))) (sym e)

-- What the flow of an instruction asks of the targets.
use Prim.Native.Nat.{ℕ, ◌<◌}
use mathlib.Core.Path.{◌≡◌, sym, ap, ◌∙◌}
use mathlib.Core.Bool.{Bool, true, ◌&&◌}
use mathlib.Core.List.{List}
use mathlib.Core.Logic.{◌⊎◌, inl, inr}
use lib.Dec.{ltb, leb}
use Rattle.bytecode.specs.Coded.{flow_of}
use Rattle.bytecode.specs.Effect.{effect}
use Rattle.bytecode.specs.Effect as effects
use Rattle.bytecode.specs.declared.table.Flow as code
use Rattle.bytecode.specs.declared.table.Flow.TheVariants.{On, Jump, Branch, Table}
use Rattle.lowering.specs.Words.{instructions, kind_at, a_at}
use Rattle.image_rule.specs.Marks.{flow_at}
use Rattle.image_rule.specs.Rules.{tables}
use Rattle.image_rule.specs.Test.{least_target, aims}
use Rattle.image_spans.specs.Leaves.{TargetTree}

-- the instruction at p, whose kind was read as k and whose flow as f
module _ (w : List ℕ) (p k : ℕ) (f : code.Flow) (kind : k ≡ kind_at w p) (flow : flow_of f ≡ (effect k).flow) where
  same : flow_of f ≡ flow_at w p
  same = flow ∙ ap (λ (x : ℕ). (effect x).flow) kind

  by-name : (r : Bool) → r ≡ aims (flow_of f) w p → r ≡ aims (flow_at w p) w p
  by-name r e = e ∙ ap (λ (G : effects.Flow). aims G w p) same

  -- to the next: nothing is asked
  pub aims-on : f ≡ On → true ≡ aims (flow_at w p) w p
  unfolding flow_of aims
  aims-on e = by-name true (ap (λ (g : code.Flow). aims (flow_of g) w p) (sym e))

  -- a jump or a branch: a is the target
  pub aims-at : (a n : ℕ) → (f ≡ Jump) ⊎ (f ≡ Branch) → a ≡ a_at w p → n ≡ instructions w → (ltb p a && leb a n) ≡ aims (flow_at w p) w p
  unfolding flow_of aims
  aims-at a n (inl e) ea en = rw (ea, en) (by-name _ (ap (λ (g : code.Flow). aims (flow_of g) w p) (sym e)))
  aims-at a n (inr e) ea en = rw (ea, en) (by-name _ (ap (λ (g : code.Flow). aims (flow_of g) w p) (sym e)))

  -- a Switch: the answer of table a
  pub aims-by :
      {t : List ℕ} (a : ℕ) (r : Bool)
      → f ≡ Table
      → a ≡ a_at w p
      → p < 4294967295
      → p < instructions w
      → (TargetTree w t → p < 4294967295 → a < tables w → r ≡ ltb p (least_target w a))
      → TargetTree w t
      → r ≡ aims (flow_at w p) w p
  unfolding flow_of aims
  aims-by a r e ea small h says T =
      let named = T.lie.named p h (sym same ∙ ap flow_of e) in
      by-name r (rw ea at says T small named ∙ ap (λ (g : code.Flow). aims (flow_of g) w p) (sym e))

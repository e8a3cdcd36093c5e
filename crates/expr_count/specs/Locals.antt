-- Which Variables are locals, as a count is told, and what the receiver of a call is then. A count asks of a Variable only whether it is a
-- local, and not in which slot.
use Rattle.std.specs.Prelude.{ℕ, ◌*◌, Bool, true, false, ◌&&◌, not, List, leb, ltb, eqb, get_or}
use Rattle.std.proofs.Math.Option.{none, some}
use Rattle.sheet.specs.Sections.{node_count}
use Rattle.sheet.specs.Node.{field_a, field_b, field_c, count, child}
use Rattle.sheet.specs.Text.{text}
use Rattle.sheet.specs.Namespace.{role}
use Rattle.lowering.specs.Kinds.{variable_kind, this_kind}
use Rattle.lowering.specs.Slots.{resolve}
use Rattle.expr_count.specs.declared.locals.Locals.{Locals}
use Rattle.expr_count.specs.declared.locals.Locals.TheVariants.{Sought, All, Nobody, Told}
use Rattle.lowering.specs.Call.{First, local, named, this, value}

-- Variable v is a local, by the definition
unfoldable pub is_local : List ℕ → ℕ → Bool
is_local s v = elim (resolve s (text s (field_a s v))) [ some slot ↦ true | none ↦ false ]

-- as the words x tell: word 2 v for Variable v, where it is a node; else the definition says it
unfoldable pub told_by : List ℕ → List ℕ → ℕ → Bool
told_by x s v = elim (ltb v (node_count s)) [ true ↦ not (eqb (get_or x (2 * v) 0) 0) | false ↦ is_local s v ]

-- as it is told: the definition says it; all are; none is; or by words
unfoldable pub answer : Locals → List ℕ → ℕ → Bool
answer Sought s v = is_local s v
answer All s v = true
answer Nobody s v = false
answer (Told x) s v = told_by x.now s v

-- what node v is as a first argument, where `here` says of a Variable whether it is a local; its slot is not told
unfoldable pub variable_by : (ℕ → Bool) → ℕ → First
variable_by here v = elim (here v) [ true ↦ local 0 | false ↦ named ]

unfoldable pub first_by : (ℕ → Bool) → List ℕ → ℕ → First
first_by here s v =
    elim (eqb (role s v) this_kind) [
      | true ↦ this
      | false ↦ elim (eqb (role s v) variable_kind) [ true ↦ variable_by here v | false ↦ value ]
    ]

-- the receiver of call j
unfoldable pub receiver_by : (ℕ → Bool) → List ℕ → ℕ → First
receiver_by here s j =
    elim (eqb (field_c s j) 0 && eqb (field_b s j) 0 && leb 1 (count s j)) [ true ↦ first_by here s (child j) | false ↦ value ]

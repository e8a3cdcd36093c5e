-- The lowering of an expression: the rule of a node goes by its kind, and operands are lowered by the same rules.
use Rattle.std.specs.Prelude.{ℕ, zero, suc, List, [], ◌∷◌, get_or}
use Rattle.sheet.specs.Node.{kind}
use Rattle.lowering.specs.Out.{Rec, residual_expr}
use Rattle.lowering.specs.Leaf
use Rattle.lowering.specs.Array
use Rattle.lowering.specs.Interpolated
use Rattle.lowering.specs.ShortCircuit
use Rattle.lowering.specs.Coalesce
use Rattle.lowering.specs.Call
use Rattle.lowering.specs.Chain

pub data Rule : Type 0 where
  boolean unit constant interpolated array variable this fn_call chain and or coalesce residual : Rule

-- the rules of kinds 0 to 18: none, Bool, Unit, Int, Float, Char, String, Interpolated, Array, Variable, This, Property, MethodCall,
-- FnCall, Dot, Index, And, Or, Coalesce; a kind without one stays a residual
unfoldable pub rules : List Rule
rules =
    residual
    ∷ boolean
    ∷ unit
    ∷ constant
    ∷ constant
    ∷ constant
    ∷ constant
    ∷ interpolated
    ∷ array
    ∷ variable
    ∷ this
    ∷ residual
    ∷ residual
    ∷ fn_call
    ∷ chain
    ∷ chain
    ∷ and
    ∷ or
    ∷ coalesce
    ∷ []

unfoldable pub rule : List ℕ → ℕ → Rule
rule s j = get_or rules (kind s j) residual

unfoldable pub by_rule : Rule → List ℕ → Rec → Rec
by_rule boolean s rec j b d p = Leaf.boolean s j d p
by_rule unit s rec j b d p = Leaf.unit d p
by_rule constant s rec j b d p = Leaf.constant s j d p
by_rule interpolated s rec j b d p = Interpolated.interpolated s rec j b d p
by_rule array s rec j b d p = Array.array s rec j b d p
by_rule variable s rec j b d p = Leaf.variable s j d p
by_rule this s rec j b d p = Leaf.this s j d p
by_rule fn_call s rec j b d p = Call.fn_call s rec j b d p
by_rule chain s rec j b d p = Chain.chain s rec j b d p
by_rule and s rec j b d p = ShortCircuit.short_circuit 0 s rec j b d p
by_rule or s rec j b d p = ShortCircuit.short_circuit 1 s rec j b d p
by_rule coalesce s rec j b d p = Coalesce.coalesce s rec j b d p
by_rule residual s rec j b d p = residual_expr j d p

-- with that many levels left; a checked sheet never runs out of them (Levels)
unfoldable pub expression : ℕ → List ℕ → Rec
expression zero s j b d p = residual_expr j d p
expression (suc levels) s j b d p = by_rule (rule s j) s (expression levels s) j b d p

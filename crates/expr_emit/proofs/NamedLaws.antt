-- docs/PORT.md names these laws.
use Rattle.std.proofs.Common.{◌≡◌, ℕ, List, [], ◌∷◌, refl, sym, subst}
use Rattle.sheet.specs.Limits.{max_depth}
use Rattle.lowering.specs.Flatten.{links, operand_of, step_rule}
use Rattle.lowering.specs.Nodes.{Right, Valid, Row}
use Rattle.expr_count.specs.declared.links.Link.TheVariants.{Lowers}
use Rattle.expr_count.specs.declared.operands.Operands.{Operands}
use Rattle.expr_count.specs.Link.{link}
use Rattle.expr_model.specs.Made.{lowered}
use Rattle.expr_model.specs.Construct.{steps}
use Rattle.scratch.specs.declared.Layout.{Layout}
use Rattle.scratch_keys.specs.Used.{ChainKey}
use Rattle.scratch_store.specs.declared.State.{State}
use Rattle.scratch_store.specs.Does.{Does}
use Rattle.scratch_store.proofs.DoesLaws.{does-none}
use Rattle.expr_emit.specs.declared.after.After.TheVariants.{Nothing}
use Rattle.expr_emit.specs.declared.calls.Way.{Way}
use Rattle.expr_emit.specs.declared.calls.Way.TheVariants.{Kept}
use Rattle.expr_emit.specs.ChainParts.{step_names}
use Rattle.expr_emit.specs.Siblings.{rows}
use Rattle.expr_emit.specs.Ways.{nowhere, opened, opened_at}
use Rattle.expr_emit.proofs.CallDoes.{Opens}
use Rattle.expr_emit.proofs.WalkDoes.{Walking, walk-on, walk-done}

-- a call that is kept opens with nothing
pub open_kept : {s : List ℕ} {l : Layout} {xs : List ℕ} {st : State} (w : Way) (j : ℕ) → w ≡ Kept → Opens s l xs st xs st nowhere j w
unfolding opened opened_at
open_kept {s} {l} {xs} {st} w j e = subst (Opens s l xs st xs st nowhere j) (sym e) ((λ f. does-none xs st), (λ f a h. refl))

-- the last link lowers
pub walk_ends :
    {s : List ℕ} {l : Layout} {ws xs ys zs : List ℕ} {st q t r : State} {bs cs : List ℕ} (levels j c : ℕ) (o : Operands) → bs ≡ c ∷ cs
    → Right s → Walking s l levels j ws st xs q bs → link s c ≡ Lowers o
    → (Right s → Row s o.n o.from → Does s l xs q ys t (rows s (lowered levels s) Nothing o.n o.from))
    → (Valid s (operand_of s c) → ChainKey s c → Does s l ys t zs r (step_names (step_rule s c) s (operand_of s c)))
    → cs ≡ [] → Does s l ws st zs r (steps s (lowered levels s) (links max_depth s j))
walk_ends levels j c o e C W is args names last = walk-done levels j last (walk-on levels j c o e C W is args names)

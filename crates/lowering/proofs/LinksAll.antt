-- What is shown of the lowering of a child and used by each construct: all of its code is reached, for each node of the sheet.
-- Then the steps that the constructs share.
use Prim.Native.Nat.{ℕ, suc, ◌+◌}
use mathlib.Core.Path.{◌≡◌, refl, sym, subst}
use mathlib.Core.List.{List, [], ◌∷◌}
use native.Mathlib.Numerals.{add-one}
use lib.ListN.{length}
use Rattle.bytecode.specs.declared.Op.{Op}
use Rattle.bytecode.specs.declared.Op.TheVariants.{EvalAst}
use Rattle.lowering.specs.Code.{Ins, Code, ins, no_pos}
use Rattle.lowering.specs.Pools.{Pools}
use Rattle.lowering.specs.Out.{Out, Rec, and_then, emit_at, residual_expr}
use Rattle.lowering.specs.All.{All}
use Rattle.lowering.proofs.Effect.{Context, nexts}
use Rattle.lowering.proofs.Linked.{Linked, link, link-one}
use Rattle.lowering.specs.Nodes.{Valid}

pub record LinksAll (s : List ℕ) (rec : Rec) : Type 1 where
  pub links : (X : Context) (j b d : ℕ) (p : Pools) → Valid s j → Linked X b (rec j b d p).code

module _ {X : Context} where
  -- one instruction that goes on to the next, before other code
  pub link-cons : {b : ℕ} {c : Code} (i : Ins) → nexts X i.op b ≡ suc b ∷ [] → Linked X (b + 1) c → Linked X b (i ∷ c)
  link-cons i h g = link (link-one i h) g

  -- one instruction that goes on to the next or to t
  pub link_branch : {b : ℕ} (t : ℕ) (i : Ins) → nexts X i.op b ≡ t ∷ suc b ∷ [] → Linked X b (i ∷ [])
  link_branch {b} t i h = record {
    inside = λ R k r. (r, tt);
    behind = λ R k r. subst R (sym (add-one b)) (subst (All R) h (k.0 r)).1.0;
  }

  pub link-emit : {b : ℕ} (op : Op) (pos d : ℕ) (p : Pools) → nexts X op b ≡ suc b ∷ [] → Linked X b (emit_at op pos d p).code
  unfolding emit_at
  link-emit op pos d p h = link-one (ins op d pos) h

  pub link-residual : {b : ℕ} (j d : ℕ) (p : Pools) → Linked X b (residual_expr j d p).code
  unfolding residual_expr emit_at
  link-residual j d p = link-one (ins (EvalAst (length p.residuals)) d no_pos) refl

  -- an answer and one more instruction
  pub link-then : {b : ℕ} (o : Out) (i : Ins) → Linked X b o.code
      → nexts X i.op (b + length o.code) ≡ suc (b + length o.code) ∷ [] → Linked X b (and_then o (i ∷ [])).code
  unfolding and_then
  link-then o i g h = link g (link-one i h)

-- What is shown of the lowering of a child and used by each construct: its code takes depth d to d + 1, and chains are only added.
use Prim.Native.Nat.{ℕ, suc, ◌<◌}
use mathlib.Core.Path.{◌≡◌, sym, ap, ◌∙◌}
use mathlib.Core.List.{List, [], ◌++◌, append_assoc, append-nil}
use lib.ListN.{length, get_or, get_or-append}
use Rattle.bytecode.specs.declared.Chain.{Chain}
use Rattle.lowering.specs.Pools.{Pools}
use Rattle.lowering.specs.Out.{Rec}
use Rattle.lowering.proofs.Effect.{Context}
use Rattle.lowering.proofs.Typed.{Nothing, Sound}

-- ys is xs with more behind it
pub record Grows (xs ys : List Chain) : Type 0 where
  pub more : List Chain
  pub whole : ys ≡ xs ++ more

pub grows-refl : (xs : List Chain) → Grows xs xs
grows-refl xs = record { more = []; whole = sym (append-nil xs) }

pub grows-trans : {xs ys zs : List Chain} → Grows xs ys → Grows ys zs → Grows xs zs
grows-trans {xs} g h = record {
  more = g.more ++ h.more;
  whole = h.whole ∙ ap (λ (l : List Chain). l ++ h.more) g.whole ∙ append_assoc xs g.more h.more;
}

-- an entry stays what it is
pub grows_at : (xs ys : List Chain) (i : ℕ) (d : Chain) → Grows xs ys → i < length xs → get_or ys i d ≡ get_or xs i d
grows_at xs ys i d g h = ap (λ (l : List Chain). get_or l i d) g.whole ∙ get_or-append xs g.more d i h

pub record Meets (rec : Rec) : Type 0 where
  pub sound : (X : Context) (j b d : ℕ) (p : Pools) → Grows (rec j b d p).pools.chains X.chains
      → Sound X Nothing b d (suc d) (rec j b d p).code
  pub grows : (j b d : ℕ) (p : Pools) → Grows p.chains (rec j b d p).pools.chains

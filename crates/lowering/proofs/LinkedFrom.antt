-- Code that comes to a place further on by a jump, and code behind it that is reached from that place too.
use Prim.Native.Nat.{ℕ, suc, ◌+◌}
use mathlib.Core.Path.{◌≡◌, sym, subst}
use mathlib.Core.List.{[], ◌∷◌, ◌++◌}
use lib.ListN.{length}
use Rattle.lowering.specs.Code.{Ins, Code}
use Rattle.lowering.specs.All.{All}
use Rattle.lowering.proofs.Effect.{Context, nexts}
use Rattle.lowering.proofs.Typed.{end-append}
use Rattle.lowering.proofs.Linked.{Closed, Reached, Linked, closed-left, closed-right, reached-append}

-- from its first place, the code comes to place t
pub record Comes (X : Context) (b t : ℕ) (c : Code) : Type 1 where
  pub comes : (R : ℕ → Type 0) → Closed X R b c → R b → R t

-- from its first place and from place t, all of the code and the place behind it are reached
pub record LinkedFrom (X : Context) (t b : ℕ) (c : Code) : Type 1 where
  pub inside : (R : ℕ → Type 0) → Closed X R b c → R b → R t → Reached R b c
  pub behind : (R : ℕ → Type 0) → Closed X R b c → R b → R t → R (b + length c)

module _ {X : Context} where
  pub comes-one : {b t : ℕ} (i : Ins) (c : Code) → nexts X i.op b ≡ t ∷ suc b ∷ [] → Comes X b t (i ∷ c)
  comes-one i c h = record { comes = λ R k r. (subst (All R) h (k.0 r)).0 }

  pub comes-behind : {b t : ℕ} {c c' : Code} → Linked X b c → Comes X (b + length c) t c' → Comes X b t (c ++ c')
  comes-behind {b} {t} {c} {c'} g h = record {
    comes = λ R k r. h.comes R (closed-right X R b c c' k) (g.behind R (closed-left X R b c c' k) r);
  }

  pub link-comes : {b t : ℕ} {c c' : Code} → Linked X b c → Comes X b t c → LinkedFrom X t (b + length c) c' → Linked X b (c ++ c')
  link-comes {b} {t} {c} {c'} g f h = record {
    inside = λ R k r.
        let k₁ = closed-left X R b c c' k in
        let k₂ = closed-right X R b c c' k in
        reached-append R b c c' (g.inside R k₁ r) (h.inside R k₂ (g.behind R k₁ r) (f.comes R k₁ r));
    behind = λ R k r.
        let k₁ = closed-left X R b c c' k in
        let k₂ = closed-right X R b c c' k in
        subst R (sym (end-append b c c')) (h.behind R k₂ (g.behind R k₁ r) (f.comes R k₁ r));
  }

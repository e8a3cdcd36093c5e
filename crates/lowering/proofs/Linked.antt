-- Code of which every place is reached. R is any set of places that holds, with a place, each place that its instruction can go to.
use Prim.Native.Nat.{ℕ, suc, ◌+◌}
use mathlib.Core.Path.{◌≡◌, sym, ◌∙◌, subst}
use mathlib.Core.List.{[], ◌∷◌, ◌++◌}
use native.Mathlib.Nat.{add-zero, add-suc, suc-add}
use native.Mathlib.Numerals.{add-one}
use lib.ListN.{length}
use Rattle.lowering.specs.Code.{Ins, Code}
use Rattle.lowering.specs.All.{All}
use Rattle.lowering.proofs.Effect.{Context, nexts}
use Rattle.lowering.proofs.Typed.{end-append}

abbrev pub Closed : Context → (ℕ → Type 0) → ℕ → Code → Type 0
Closed X R b [] = Prim.Unit {0}
Closed X R b (i ∷ c) = (R b → All R (nexts X i.op b)) × Closed X R (suc b) c

abbrev pub Reached : (ℕ → Type 0) → ℕ → Code → Type 0
Reached R b [] = Prim.Unit {0}
Reached R b (i ∷ c) = R b × Reached R (suc b) c

-- from its first place, all of the code and the place behind it are reached
pub record Linked (X : Context) (b : ℕ) (c : Code) : Type 1 where
  pub inside : (R : ℕ → Type 0) → Closed X R b c → R b → Reached R b c
  pub behind : (R : ℕ → Type 0) → Closed X R b c → R b → R (b + length c)

module _ (X : Context) (R : ℕ → Type 0) where
  pub closed-left : (b : ℕ) (c c' : Code) → Closed X R b (c ++ c') → Closed X R b c
  closed-left b [] c' h = tt
  closed-left b (i ∷ c) c' h = (h.0, closed-left (suc b) c c' h.1)

  pub closed-right : (b : ℕ) (c c' : Code) → Closed X R b (c ++ c') → Closed X R (b + length c) c'
  closed-right b [] c' h = subst (λ (n : ℕ). Closed X R n c') (sym (add-zero b)) h
  closed-right b (i ∷ c) c' h =
      subst (λ (n : ℕ). Closed X R n c') (suc-add b (length c) ∙ sym (add-suc b (length c))) (closed-right (suc b) c c' h.1)

pub reached-append : (R : ℕ → Type 0) (b : ℕ) (c c' : Code) → Reached R b c → Reached R (b + length c) c' → Reached R b (c ++ c')
reached-append R b [] c' g h = subst (λ (n : ℕ). Reached R n c') (add-zero b) h
reached-append R b (i ∷ c) c' g h =
    (g.0, reached-append R (suc b) c c' g.1 (subst (λ (n : ℕ). Reached R n c') (add-suc b (length c) ∙ sym (suc-add b (length c))) h))

module _ {X : Context} where
  pub link : {b : ℕ} {c c' : Code} → Linked X b c → Linked X (b + length c) c' → Linked X b (c ++ c')
  link {b} {c} {c'} g h = record {
    inside = λ R k r.
        let k₁ = closed-left X R b c c' k in
        let k₂ = closed-right X R b c c' k in
        reached-append R b c c' (g.inside R k₁ r) (h.inside R k₂ (g.behind R k₁ r));
    behind = λ R k r.
        let k₁ = closed-left X R b c c' k in
        let k₂ = closed-right X R b c c' k in
        subst R (sym (end-append b c c')) (h.behind R k₂ (g.behind R k₁ r));
  }

  pub link-none : {b : ℕ} → Linked X b []
  link-none {b} = record { inside = λ R k r. tt; behind = λ R k r. subst R (sym (add-zero b)) r }

  -- one instruction that goes on to the next
  pub link-one : {b : ℕ} (i : Ins) → nexts X i.op b ≡ suc b ∷ [] → Linked X b (i ∷ [])
  link-one {b} i h = record {
    inside = λ R k r. (r, tt);
    behind = λ R k r. subst R (sym (add-one b)) (subst (All R) h (k.0 r)).0;
  }

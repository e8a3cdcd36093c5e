-- Code whose depths are right. `Typed` is local: each instruction finds what it needs, and each place that it can go to lies behind it,
-- not past the end, and has the depth after it. `Sound` is what composes: code from place b on that takes depth d to depth e.
use Prim.Native.Nat.{ℕ, suc, ◌+◌, ◌≤◌, ◌<◌}
use mathlib.Core.Path.{◌≡◌, refl, sym, ap, ◌∙◌, subst}
use mathlib.Core.List.{[], ◌∷◌, ◌++◌}
use native.Mathlib.Omega.{arith}
use native.Mathlib.Nat.{add-zero, add-suc, suc-add, add_assoc}
use lib.ListN.{length, length-append}
use Rattle.lowering.specs.Code.{Ins, Code}
use Rattle.lowering.specs.All.{All}
use Rattle.lowering.proofs.Effect.{Context, needs, after, nexts, Narrow}

-- place q may follow place p, with this depth
abbrev pub Goes : (ℕ → ℕ) → ℕ → ℕ → ℕ → ℕ → Type 0
Goes A N p e q = (p < q) × (q ≤ N) × (A q ≡ e)

abbrev pub TypedAt : Context → (ℕ → ℕ) → ℕ → ℕ → Ins → Type 0
TypedAt X A N p i = (needs X i.op ≤ i.depth) × Narrow X i.op × All (Goes A N p (after X i.op i.depth)) (nexts X i.op p)

abbrev pub Typed : Context → (ℕ → ℕ) → ℕ → ℕ → Code → Type 0
Typed X A N b [] = Prim.Unit {0}
Typed X A N b (i ∷ c) = TypedAt X A N b i × Typed X A N (suc b) c

-- the depth function A has the depths of the code
abbrev pub Agree : (ℕ → ℕ) → ℕ → Code → Type 0
Agree A b [] = Prim.Unit {0}
Agree A b (i ∷ c) = (A b ≡ i.depth) × Agree A (suc b) c

abbrev pub Starts : ℕ → ℕ → Code → Type 0
Starts d e [] = d ≡ e
Starts d e (i ∷ c) = i.depth ≡ d

-- what code assumes of the places outside it that it jumps to
abbrev pub Outside : Type 1
Outside = (ℕ → ℕ) → ℕ → Type 0

abbrev pub Nothing : Outside
Nothing A N = Prim.Unit {0}

-- place t is within the code and has depth d
abbrev pub Exit : ℕ → ℕ → Outside
Exit t d A N = (t ≤ N) × (A t ≡ d)

pub record Sound (X : Context) (O : Outside) (b d e : ℕ) (c : Code) : Type 0 where
  pub starts : Starts d e c
  pub typed : (A : ℕ → ℕ) (N : ℕ) → O A N → Agree A b c → A (b + length c) ≡ e → b + length c ≤ N → Typed X A N b c

module _ (X : Context) (A : ℕ → ℕ) (N : ℕ) where
  typed-append : (b : ℕ) (c c' : Code) → Typed X A N b c → Typed X A N (b + length c) c' → Typed X A N b (c ++ c')
  typed-append b [] c' t u = subst (λ (n : ℕ). Typed X A N n c') (add-zero b) u
  typed-append b (i ∷ c) c' t u =
      (t.0, typed-append (suc b) c c' t.1 (subst (λ (n : ℕ). Typed X A N n c') (add-suc b (length c) ∙ sym (suc-add b (length c))) u))

pub agree_left : (A : ℕ → ℕ) (b : ℕ) (c c' : Code) → Agree A b (c ++ c') → Agree A b c
agree_left A b [] c' h = tt
agree_left A b (i ∷ c) c' h = (h.0, agree_left A (suc b) c c' h.1)

pub agree_right : (A : ℕ → ℕ) (b : ℕ) (c c' : Code) → Agree A b (c ++ c') → Agree A (b + length c) c'
agree_right A b [] c' h = subst (λ (n : ℕ). Agree A n c') (sym (add-zero b)) h
agree_right A b (i ∷ c) c' h =
    subst (λ (n : ℕ). Agree A n c') (suc-add b (length c) ∙ sym (add-suc b (length c))) (agree_right A (suc b) c c' h.1)

-- the depth where code starts
start-depth : (A : ℕ → ℕ) (b d e : ℕ) (c : Code) → Starts d e c → Agree A b c → A (b + length c) ≡ e → A b ≡ d
start-depth A b d e [] h g f = ap A (sym (add-zero b)) ∙ f ∙ sym h
start-depth A b d e (i ∷ c) h g f = g.0 ∙ h

starts-append : (d e f : ℕ) (c c' : Code) → Starts d e c → Starts e f c' → Starts d f (c ++ c')
starts-append d e f [] [] g h = g ∙ h
starts-append d e f [] (i ∷ c') g h = h ∙ sym g
starts-append d e f (i ∷ c) c' g h = g

pub end-append : (b : ℕ) (c c' : Code) → b + length (c ++ c') ≡ b + length c + length c'
end-append b c c' = ap (λ (n : ℕ). b + n) (length-append c c') ∙ sym (add_assoc b (length c) (length c'))

module _ {X : Context} {O : Outside} where
  pub seq : {b d e f : ℕ} {c c' : Code} → Sound X O b d e c → Sound X O (b + length c) e f c' → Sound X O b d f (c ++ c')
  seq {b} {d} {e} {f} {c} {c'} g h = record {
    starts = starts-append d e f c c' g.starts h.starts;
    typed = λ A N o a end le.
        let end' : A (b + length c + length c') ≡ f = ap A (sym (end-append b c c')) ∙ end in
        let a' = agree_right A b c c' a in
        let middle = start-depth A (b + length c) e f c' h.starts a' end' in
        let le' : b + length c + length c' ≤ N = subst (λ (n : ℕ). n ≤ N) (end-append b c c') le in
        typed-append X A N b c c'
        (g.typed A N o (agree_left A b c c' a) middle (omega arith))
        (h.typed A N o a' end' le');
  }

  pub none : {b d : ℕ} → Sound X O b d d []
  none = record { starts = refl; typed = λ A N o a end le. tt }

  -- one instruction
  pub one : {b d e : ℕ} (i : Ins) → i.depth ≡ d → ((A : ℕ → ℕ) (N : ℕ) → O A N → A b ≡ d → A (suc b) ≡ e → suc b ≤ N → TypedAt X A N b i)
      → Sound X O b d e (i ∷ [])
  one {b} {d} {e} i h f = record {
    starts = h;
    typed = λ A N o a end le.
        let p : b + 1 ≡ suc b = omega arith in
        (f A N o (a.0 ∙ h) (ap A (sym p) ∙ end) (omega arith), tt);
  }

-- assumptions that follow from others
pub weaken : {X : Context} {O O' : Outside} {b d e : ℕ} {c : Code} → ((A : ℕ → ℕ) (N : ℕ) → O' A N → O A N) → Sound X O b d e c
    → Sound X O' b d e c
weaken f g = record { starts = g.starts; typed = λ A N o a end le. g.typed A N (f A N o) a end le }

-- code that jumps only to its own end assumes nothing
pub close : {X : Context} {O : Outside} {b d e t : ℕ} {c : Code} → b + length c ≡ t → Sound X (Exit t e) b d e c → Sound X O b d e c
close {X} {O} {b} {d} {e} {t} {c} h g = record {
  starts = g.starts;
  typed = λ A N o a end le. g.typed A N (omega arith, ap A (sym h) ∙ end) a end le;
}

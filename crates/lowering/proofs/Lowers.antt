-- What a construct is shown to give, in one record: code c from place b on that takes depth d to depth e, in every context whose chains
-- extend y, and chains that grew from x to y. It composes as the code does.
use Prim.Native.Nat.{ℕ, suc, ◌+◌, ◌≤◌}
use mathlib.Core.Path.{◌≡◌, sym, ap, ◌∙◌, subst}
use mathlib.Core.List.{List, [], ◌∷◌, ◌++◌}
use lib.ListN.{length}
use native.Mathlib.Omega.{arith}
use Rattle.bytecode.specs.declared.Chain.{Chain}
use Rattle.lowering.specs.Code.{Ins, Code}
use Rattle.lowering.specs.Pools.{Pools, emits}
use Rattle.lowering.specs.Out.{Out, Rec, and_then}
use Rattle.lowering.proofs.Effect.{Context}
use Rattle.lowering.proofs.Typed.{TypedAt, Outside, Nothing, Exit, Sound, seq, none, one}
use Rattle.lowering.proofs.Meets.{Grows, grows-refl, grows-trans, Meets}

pub record Lowers (O : Outside) (x : List Chain) (b d e : ℕ) (c : Code) (y : List Chain) : Type 0 where
  pub sound : (X : Context) → Grows y X.chains → Sound X O b d e c
  pub grows : Grows x y

-- the lowering of one node or of several, from pools p
abbrev pub Done : Pools → ℕ → ℕ → ℕ → Out → Type 0
Done p b d e o = Lowers Nothing p.chains b d e o.code o.pools.chains

-- an instruction that goes on to the next, with depth e there, in every context whose chains extend y
abbrev pub Straight : List Chain → ℕ → Ins → Type 0
Straight y e i = (X : Context) (A : ℕ → ℕ) (N b : ℕ) → Grows y X.chains → A (suc b) ≡ e → suc b ≤ N → TypedAt X A N b i

module _ {O : Outside} where
  pub lowers-none : {x : List Chain} {b d : ℕ} → Lowers O x b d d [] x
  lowers-none {x} = record { sound = λ X g. none; grows = grows-refl x }

  pub lowers-seq : {x y z : List Chain} {b d e f : ℕ} {c c' : Code} → Lowers O x b d e c y → Lowers O y (b + length c) e f c' z
      → Lowers O x b d f (c ++ c') z
  lowers-seq g h = record {
    sound = λ X u. seq (g.sound X (grows-trans h.grows u)) (h.sound X u);
    grows = grows-trans g.grows h.grows;
  }

  pub lowers-one : {x : List Chain} {b d e : ℕ} (i : Ins) → i.depth ≡ d → Straight x e i → Lowers O x b d e (i ∷ []) x
  lowers-one {x} {b} i h f = record {
    sound = λ X g. one i h (λ A N o start end le. f X A N b g end le);
    grows = grows-refl x;
  }

  -- chains that grow behind the code
  pub lowers-more : {x y z : List Chain} {b d e : ℕ} {c : Code} → Lowers O x b d e c y → Grows y z → Lowers O x b d e c z
  lowers-more g h = record { sound = λ X u. g.sound X (grows-trans h u); grows = grows-trans g.grows h }

  -- the same depth in other words
  pub lowers-to : {x y : List Chain} {b d e f : ℕ} {c : Code} → e ≡ f → Lowers O x b d e c y → Lowers O x b d f c y
  lowers-to {x} {y} {b} {d} {c = c} h g = subst (λ (n : ℕ). Lowers O x b d n c y) h g

pub meets_at : {rec : Rec} → Meets rec → (j b d : ℕ) (p : Pools) → Done p b d (suc d) (rec j b d p)
meets_at M j b d p = record { sound = λ X g. M.sound X j b d p g; grows = M.grows j b d p }

pub meets : {rec : Rec} → ((j b d : ℕ) (p : Pools) → Done p b d (suc d) (rec j b d p)) → Meets rec
meets f = record { sound = λ X j b d p g. (f j b d p).sound X g; grows = λ j b d p. (f j b d p).grows }

-- both of two assumptions
abbrev pub Both : Outside → Outside → Outside
Both O O' A N = O A N × O' A N

-- as `close`, beside what is assumed of other places
pub close-in : {X : Context} (O : Outside) {b d e : ℕ} (t : ℕ) {c : Code} → b + length c ≡ t → Sound X (Both O (Exit t e)) b d e c
    → Sound X O b d e c
close-in O t h g = record {
  starts = g.starts;
  typed = λ A N o a end le. g.typed A N (o, (omega arith, ap A (sym h) ∙ end)) a end le;
}

-- one instruction behind a lowering
pub done-then : {x : List Chain} {b d e f : ℕ} (o : Out) (i : Ins) → i.depth ≡ e → Straight o.pools.chains f i
    → Lowers Nothing x b d e o.code o.pools.chains
    → Lowers Nothing x b d f (and_then o (i ∷ [])).code (and_then o (i ∷ [])).pools.chains
unfolding and_then emits
done-then o i h f g = lowers-seq g (lowers-one i h f)

-- Every state that a run comes to, and that a run goes on from there in any way.
use Prim.Native.Nat.{ℕ, suc, ◌<◌}
use mathlib.Core.Path.{◌≡◌, refl, ap, ◌∙◌}
use mathlib.Core.Bool.{true, false}
use mathlib.Core.List.{List}
use native.Mathlib.Omega.{arith}
use borrow.Author.Tests.{eq-eqb, ne_eqb}
use lib.Dec.{eqb}
use Rattle.lowering.proofs.RunsRight.{goes-on}
use Rattle.lowering.proofs.DepthReached.{same-run}
use Rattle.lowering.specs.Words.{instructions}
use Rattle.lowering.specs.Run.{State, step, step_on, run, next}
use Rattle.image_rule.specs.Marks.{after}

-- the same ways, but the n-th is `way`
unfoldable going_at : ℕ → ℕ → (ℕ → ℕ) → ℕ → ℕ
going_at n way ways m = elim (eqb m n) [ true ↦ way | false ↦ ways m ]

going-there : (n way : ℕ) (ways : ℕ → ℕ) → going_at n way ways n ≡ way
unfolding going_at
going-there n way ways = rw (eq-eqb n n refl, going_at)

going_before : (n way : ℕ) (ways : ℕ → ℕ) (m : ℕ) → m < n → going_at n way ways m ≡ ways m
unfolding going_at
going_before n way ways m h = rw (ne_eqb m n (λ e. omega arith), going_at)

-- some run stands at place t with depth d
pub record Real (w : List ℕ) (t d : ℕ) : Type 0 where
  pub ways : ℕ → ℕ
  pub count : ℕ
  pub there : run w ways count ≡ record { place = t; depth = d }

-- a run starts at place 0 with nothing
pub real-start : (w : List ℕ) → Real w 0 0
unfolding run
real-start w = record { ways = λ n. 0; count = 0; there = refl }

-- and goes on in every way
pub real-next : (w : List ℕ) (p d way : ℕ) → p < instructions w → Real w p d → Real w (next w way p) (after w p d)
unfolding run step
real-next w p d way h t =
    let n = t.count in
    let ways' = going_at n way t.ways in
    let same = same-run w ways' t.ways n (going_before n way t.ways) in
    let here : State = record { place = p; depth = d } in
    record {
      ways = ways';
      count = suc n;
      there =
          ap (step_on w (ways' n)) (same ∙ t.there)
          ∙ ap (λ (k : ℕ). step_on w k here) (going-there n way t.ways)
          ∙ goes-on w way here h;
    }

-- Calls one after another, where what is emitted depends on where an entry was found.
use Rattle.std.proofs.Common.{◌≡◌, ℕ, List, sym, subst, arith}
use Rattle.expr_model.specs.Made.{Made}
use Rattle.scratch.specs.declared.Layout.{Layout}
use Rattle.scratch_store.specs.declared.State.{State}
use Rattle.scratch_store.specs.Holds.{Holds}
use Rattle.scratch_store.specs.Does.{Fits, Growing, Does}

module _ {s : List ℕ} {l : Layout} where
  -- A, which finds its entry at place `at`, and then E of that place
  pub does-placed : {P : Type 0} {xs ys zs : List ℕ} {st q r : State} {at : P} {place : Made → P} {A : Made → Made} (E : P → Made → Made)
      → Growing (E at) → ((a : Made) → Holds s l xs st a → at ≡ place a) → Does s l xs st ys q A → Does s l ys q zs r (E at)
      → Does s l xs st zs r (λ a. E (place a) (A a))
  does-placed {P} {zs = zs} {r = r} {at = at} {A = A} E grows found first next = record {
    holds = λ a h f.
        let room : Fits l (E at (A a)) = subst (λ (i : P). Fits l (E i (A a))) (sym (found a h)) f in
        let more = grows.each (A a) in
        subst (λ (i : P). Holds s l zs r (E i (A a))) (found a h) (next.holds (A a) (first.holds a h (omega arith)) room);
  }

  -- the same change, named by an equal
  pub does_at : {A : Type 0} {xs ys : List ℕ} {st r : State} (F : A → Made → Made) {x y : A} → x ≡ y → Does s l xs st ys r (F x)
      → Does s l xs st ys r (F y)
  does_at {A} {xs} {ys} {st} {r} F e d = subst (λ (z : A). Does s l xs st ys r (F z)) e d

-- Laws of a change that is done where two instructions have been emitted: its start, its steps, its end.
use Rattle.std.proofs.Common.{◌≡◌, ℕ, ◌≤◌, List, sym, ◌∙◌, subst, arith}
use Rattle.expr_model.specs.Made.{Made, at_depth}
use Rattle.scratch.specs.declared.Layout.{Layout}
use Rattle.scratch_store.specs.declared.State.{State}
use Rattle.scratch_store.specs.States as states
use Rattle.scratch_store.specs.Holds.{Holds}
use Rattle.scratch_store.specs.Does.{Fits, Growing, Does}
use Rattle.expr_emit.proofs.EndDoes.{held-at-depth}
use Rattle.switch_emit.specs.From.{Begun, From}

-- something is held whose G is z
pub record RestFrom (s : List ℕ) (l : Layout) (ys : List ℕ) (r : State) (G : Made → Made) (z : Made) : Type 0 where
  pub now : Made
  pub begun : Begun now
  pub held : Holds s l ys r now
  pub same : G now ≡ z

-- F is to be done from (xs, st); what is left to do at (ys, r) is G
pub record LeftFrom (s : List ℕ) (l : Layout) (xs : List ℕ) (st : State) (F : Made → Made) (ys : List ℕ) (r : State)
    (G : Made → Made) : Type 0 where
  pub each : (a : Made) → Begun a → Holds s l xs st a → Fits l (F a) → RestFrom s l ys r G (F a)

module _ {s : List ℕ} {l : Layout} where
  pub from_start : (xs : List ℕ) (st : State) (F G : Made → Made) → ((a : Made) → G a ≡ F a) → LeftFrom s l xs st F xs st G
  from_start xs st F G e = record { each = λ a b h f. record { now = a; begun = b; held = h; same = e a } }

  -- H is done next, and G' is left
  pub from-by : {xs ys zs : List ℕ} {st r t : State} {F G H : Made → Made} (G' : Made → Made) → LeftFrom s l xs st F ys r G
      → From s l ys r zs t H → ((b : Made) → G b ≡ G' (H b)) → Growing H → Growing G' → LeftFrom s l xs st F zs t G'
  from-by {H = H} G' left does e up grows = record {
    each = λ a k h f.
        let o = left.each a k h f in
        let same : G' (H o.now) ≡ _ = sym (e o.now) ∙ o.same in
        let room = subst (Fits l) (sym same) f in
        let more = grows.each (H o.now) in
        let on = up.each o.now in
        record { now = H o.now; begun = omega arith; held = does.holds o.now o.begun o.held (omega arith); same = same };
  }

  -- nothing is left
  pub from_end : {xs ys : List ℕ} {st r : State} {F G : Made → Made} → ((a : Made) → G a ≡ a) → LeftFrom s l xs st F ys r G
      → From s l xs st ys r F
  from_end e left = record {
    holds = λ a k h f. let o = left.each a k h f in subst (Holds s l _ _) (sym (e o.now) ∙ o.same) o.held;
  }

  -- F, and then G
  pub from-seq : {xs ys zs : List ℕ} {st r t : State} {F G : Made → Made} → Growing F → Growing G → From s l xs st ys r F
      → From s l ys r zs t G → From s l xs st zs t (λ a. G (F a))
  from-seq {F = F} up grows first next = record {
    holds = λ a k h f.
        let more = grows.each (F a) in
        let on = up.each a in
        next.holds (F a) (omega arith) (first.holds a k h (omega arith)) f;
  }

  pub does-from : {xs ys : List ℕ} {st r : State} {F : Made → Made} → Does s l xs st ys r F → From s l xs st ys r F
  does-from d = record { holds = λ a k h f. d.holds a h f }

  pub from-same : {xs ys : List ℕ} {st r : State} {F : Made → Made} (G : Made → Made) → ((a : Made) → F a ≡ G a)
      → From s l xs st ys r F → From s l xs st ys r G
  from-same G e d = record { holds = λ a k h f. subst (Holds s l _ _) (e a) (d.holds a k h (subst (Fits l) (sym (e a)) f)) }

  -- the depth where a jump comes in
  pub depth-from : (xs : List ℕ) (c r : State) (d : ℕ) → d ≤ 2 → r ≡ states.at_depth c d
      → From s l xs c xs r (at_depth d)
  depth-from xs c r d g e = record { holds = λ a k h f. held-at-depth c e (omega arith) h }

-- Laws of changes that are done on the scratch: one after another, and what is left of them on the way.
use Rattle.std.proofs.Common.{◌≡◌, ℕ, List, sym, refl, ◌∙◌, subst, arith}
use Rattle.expr_model.specs.Made.{Made}
use Rattle.expr_model.specs.Construct.{add_chain}
use Rattle.scratch.specs.declared.Layout.{Layout}
use Rattle.scratch_index.specs.Locals.{Slots}
use Rattle.scratch_store.specs.declared.State.{State}
use Rattle.scratch_store.specs.States.{layout_of}
use Rattle.scratch_store.specs.Holds.{Holds}
use Rattle.scratch_store.specs.Does.{Fits, Growing, Does, Left, Adds, AddsChain}

module _ {s : List ℕ} {l : Layout} where
  pub left-start : (xs : List ℕ) (st : State) (F : Made → Made) → Left s l xs st F xs st F
  left-start xs st F = record { each = λ a h f. record { now = a; held = h; same = refl } }

  -- H is done next, and G' is left
  pub left-by : {xs ys zs : List ℕ} {st r t : State} {F G H : Made → Made} (G' : Made → Made) → Left s l xs st F ys r G
      → Does s l ys r zs t H → ((b : Made) → Holds s l ys r b → G b ≡ G' (H b)) → Growing G' → Left s l xs st F zs t G'
  left-by {H = H} G' left does e grows = record {
    each = λ a h f.
        let o = left.each a h f in
        let same : G' (H o.now) ≡ _ = sym (e o.now o.held) ∙ o.same in
        let room = subst (Fits l) (sym same) f in
        let more = grows.each (H o.now) in
        record { now = H o.now; held = does.holds o.now o.held (omega arith); same = same };
  }

  -- nothing is left
  pub left_end : {xs ys : List ℕ} {st r : State} {F : Made → Made} → Left s l xs st F ys r (λ a. a) → Does s l xs st ys r F
  left_end left = record { holds = λ a h f. let o = left.each a h f in subst (Holds s l _ _) o.same o.held }

  -- what is left is done at once
  pub left-done : {xs ys zs : List ℕ} {st r t : State} {F G : Made → Made} → Left s l xs st F ys r G → Does s l ys r zs t G
      → Does s l xs st zs t F
  left-done left does = record {
    holds = λ a h f.
        let o = left.each a h f in
        subst (Holds s l _ _) o.same (does.holds o.now o.held (subst (Fits l) (sym o.same) f));
  }

  -- F, and then G
  pub does-seq : {xs ys zs : List ℕ} {st r t : State} {F G : Made → Made} → Growing G → Does s l xs st ys r F → Does s l ys r zs t G
      → Does s l xs st zs t (λ a. G (F a))
  does-seq {F = F} grows first next = record {
    holds = λ a h f. let more = grows.each (F a) in next.holds (F a) (first.holds a h (omega arith)) f;
  }

  -- F, and then G, which needs to know what F has made
  pub does-next : {xs ys zs : List ℕ} {st r t : State} {F : Made → Made} (G : Made → Made) → Growing G → Does s l xs st ys r F
      → ((a : Made) → Holds s l ys r (F a) → Fits l (G (F a)) → Holds s l zs t (G (F a))) → Does s l xs st zs t (λ a. G (F a))
  does-next {F = F} G grows first next = record {
    holds = λ a h f. let more = grows.each (F a) in next a (first.holds a h (omega arith)) f;
  }

  -- the same change in other words
  pub does-same : {xs ys : List ℕ} {st r : State} {F : Made → Made} (G : Made → Made) → ((a : Made) → Holds s l xs st a → F a ≡ G a)
      → Does s l xs st ys r F → Does s l xs st ys r G
  does-same G e does = record {
    holds = λ a h f. subst (Holds s l _ _) (e a h) (does.holds a h (subst (Fits l) (sym (e a h)) f));
  }

  -- nothing to do
  pub does-none : (xs : List ℕ) (st : State) → Does s l xs st xs st (λ a. a)
  does-none xs st = record { holds = λ a h f. h }

-- changes in a row
pub growing-none : Growing (λ a. a)
growing-none = record { each = λ a. omega arith }

pub growing-seq : {F G : Made → Made} → Growing F → Growing G → Growing (λ a. G (F a))
growing-seq {F} f g = record { each = λ a. let x = f.each a in let y = g.each (F a) in omega arith }

-- the layout beside the counts is the layout that is held
pub laid-is : {s : List ℕ} {l : Layout} {xs : List ℕ} {st : State} {a : Made} → Holds s l xs st a → layout_of st ≡ l
laid-is h = h.laid.layout

-- the locals that are held, by the layout beside the counts
pub held-slots :
    {s : List ℕ} {l m : Layout} {xs : List ℕ} {st : State} {a : Made} → m ≡ layout_of st → Holds s l xs st a → Slots s m xs
held-slots {s} {l} {m} {xs} is h = subst (λ (k : Layout). Slots s k xs) (sym (is ∙ laid-is h)) h.index.slots

-- what is done may be known from what is held
pub does-held :
    {s : List ℕ} {l : Layout} {xs ys : List ℕ} {st r : State} {F : Made → Made}
    → ((a : Made) → Holds s l xs st a → Does s l xs st ys r F) → Does s l xs st ys r F
does-held known = record { holds = λ a h f. (known a h).holds a h f }

-- so what is done with it is done with any that is held
module _ {s xs ys : List ℕ} {st r : State} {m : Layout} (is : m ≡ layout_of st) where
  pub does-any : {F : Made → Made} → Does s m xs st ys r F → (l : Layout) → Does s l xs st ys r F
  does-any {F} does l = record {
    holds = λ a h f.
        let e = is ∙ laid-is h in
        subst (λ (k : Layout). Holds s k ys r (F a)) e
        (does.holds a (subst (λ (k : Layout). Holds s k xs st a) (sym e) h) (subst (λ (k : Layout). Fits k (F a)) (sym e) f));
  }

  pub adds-any : {at : ℕ} {Asked : Type 0} {F : Made → Made} {P : Made → ℕ} → Adds s m xs st ys r at Asked F P → (l : Layout)
      → Adds s l xs st ys r at Asked F P
  adds-any adds l = record {
    does = λ q. does-any (adds.does q) l;
    place = λ a h. adds.place a (subst (λ (k : Layout). Holds s k xs st a) (sym (is ∙ laid-is h)) h);
  }

  pub chain-any : {at j : ℕ} → AddsChain s m xs st ys r at j → (l : Layout) → AddsChain s l xs st ys r at j
  chain-any {j = j} adds l = record {
    holds = λ v a h p.
        let e = is ∙ laid-is h in
        subst (λ (k : Layout). Holds s k ys r (add_chain s j a)) e
        (adds.holds v a (subst (λ (k : Layout). Holds s k xs st a) (sym e) h) p);
    place = λ a h p. adds.place a (subst (λ (k : Layout). Holds s k xs st a) (sym (is ∙ laid-is h)) h) p;
  }

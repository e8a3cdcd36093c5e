-- Laws of the pass's state: start, a child without children, a child that is opened, a node that is closed, the end.
use Prim.Native.Nat.{ℕ, zero, suc, ◌+◌, ◌-◌, ◌*◌, ◌^◌, ◌<◌, ◌≤◌}
use mathlib.Core.Path.{◌≡◌, refl, ap, sym, subst, ◌∙◌}
use mathlib.Core.Bool.{Bool, true, false, ◌&&◌, false≢true, and-eq-true_iff}
use lib.Dec.{leb, eqb}
use native.Mathlib.Decide.{ℕ_discrete}
use borrow.Author.Tests.{ne_eqb, leb-true, eqb-true}
use mathlib.Core.List.{List, [], ◌∷◌}
use native.Mathlib.Omega.{arith}
use lib.ListN.{length, get_or, take, set, length-set}
use lib.Seq.{get_or-set_same, get_or-set_other, get_or-take, length-take-le}
use Rattle.words.specs.Count.{all_below}
use Rattle.words.proofs.CountLaws.{all_none, all_more}
use Rattle.sheet.specs.Sections.{node_count}
use Rattle.sheet.specs.Node.{kind, span, count, field_a, field_b}
use Rattle.check_shape.specs.Kinds.{child_kind, switch_child, case_child, expression, case_value}
use Rattle.check_shape.specs.Shape.{child_words, child_fits, self_ok, node_ok}
use Rattle.check_shape.proofs.ShapeLaws.{self-end, self-some}
use Rattle.check_depth.specs.Depth.{within}
use Rattle.check_pass.specs.Levels.{done, no_node, AllDone, Closed, stay, close}
use Rattle.check_pass.specs.declared.Open.{Open}
use Rattle.check_pass.proofs.Places.{Place, at, end, Rest, Left}
use Rattle.check_pass.proofs.PlacesLaws.{rest-done, rest-child, rest-node, rest-within}
use Rattle.check_pass.proofs.Passing.{Frame, Held, Passing}

-- no child is a Switch
pub kind-switch : (p a b i k : ℕ) → child_kind p a b i k ≡ true → k ≡ 19 → ⊥
unfolding child_kind switch_child case_child expression case_value
kind-switch p a b i k h e =
    by p (leb i (2 * a)) (leb i (2 * a + b)) (eqb i 0) (eqb p 19) (eqb p 20) (eqb p 21)
    (subst (λ x. child_kind p a b i x ≡ true) e h)
  where
    by : (p : ℕ) (x y z u v w : Bool)
        → elim u [
          | true ↦ elim x [ true ↦ expression 19 | false ↦ elim y [ true ↦ eqb 19 20 | false ↦ eqb 19 21 ] ]
          | false ↦
              elim v [
                | true ↦ elim z [ true ↦ case_value 19 | false ↦ eqb 19 22 ]
                | false ↦ elim w [ true ↦ eqb 19 3 | false ↦ expression 19 ]
              ]
        ] ≡ true → ⊥
    by p true y z true v w h = false≢true h
    by p false true z true v w h = false≢true h
    by p false false z true v w h = false≢true h
    by p x y true false true w h = false≢true h
    by p x y false false true w h = false≢true h
    by p x y z false false true h = false≢true h
    by p x y z false false false h = false≢true h

fits-switch : (s : List ℕ) (p a b e i j : ℕ) → child_fits s p a b e i j ≡ true → kind s j ≡ 19 → ⊥
unfolding child_words
fits-switch s p a b e i j h q =
    kind-switch p a b i (kind s j) ((and-eq-true_iff (leb 1 (span s j) && leb (j + span s j) e) (child_kind p a b i (kind s j))).0 h).1 q

-- only of a Switch do the fields count, and only node 0 is one
kind-other : (p a b x y i k : ℕ) → (p ≡ 19 → ⊥) → child_kind p a b i k ≡ child_kind p x y i k
unfolding child_kind
kind-other p a b x y i k ne = rw (ne_eqb p 19 ne, child_kind)

fits-other : (s : List ℕ) (p A B e i j : ℕ) → A ≡ field_a s 0 → B ≡ field_b s 0 → (kind s p ≡ 19 → p ≡ 0)
    → child_fits s (kind s p) A B e i j ≡ true → child_fits s (kind s p) (field_a s p) (field_b s p) e i j ≡ true
unfolding child_words
fits-other s p A B e i j a b root h = by (ℕ_discrete (kind s p) 19)
  where
    by : Dec (kind s p ≡ 19) → child_fits s (kind s p) (field_a s p) (field_b s p) e i j ≡ true
    by (yes q) = let z = root q in subst (λ x. child_fits s (kind s p) (field_a s x) (field_b s x) e i j ≡ true) (sym z) (rw (← a, ← b) h)
    by (no ne) =
        ap (λ t. leb 1 (span s j) && leb (j + span s j) e && t)
        (kind-other (kind s p) (field_a s p) (field_b s p) A B i (kind s j) ne) ∙ h

-- a store behind what is held
held-set : (s : List ℕ) (fs : List Open) (d : ℕ) (f : Open) (os : List Place) → length os ≤ d → Held s fs os → Held s (set fs d f) os
held-set s fs d f [] h r = tt
held-set s fs d f (o ∷ os) h r =
    let ne : length os ≡ d → ⊥ = λ q. omega arith in
    (rw (get_or-set_other fs d (length os) f no_node ne) r.0, held-set s fs d f os (omega arith) r.1)

-- one child more is passed
abbrev pub more : Open → Open
more f = record { kind = f.kind; count = f.count; passed = f.passed + 1; end = f.end }

-- a node that is done
pub done-is : (f : Open) (n : ℕ) → done f n ≡ true → (f.count ≤ f.passed) × (f.end ≡ n)
unfolding done
done-is f n h = let b = (and-eq-true_iff (leb f.count f.passed) (eqb f.end n)).0 h in (leb-true _ _ b.0, eqb-true _ _ b.1)

module _ (s : List ℕ) (small : node_count s < 2 ^ 32) (g : ℕ → Bool) where
  module _ (fs : List Open) (f : Open) (n d : ℕ) (P : Passing s g fs f n d) where
    -- a child's test, on what is kept of the open node, is its test in the sheet
    passing-fits : (A B : ℕ) → A ≡ field_a s 0 → B ≡ field_b s 0 → child_fits s f.kind A B f.end f.passed n ≡ true
        → let p = P.top.node in
        child_fits s (kind s p) (field_a s p) (field_b s p) (end s p) P.top.passed n ≡ true
    passing-fits A B a b h =
        let r = P.frame in
        fits-other s P.top.node A B (end s P.top.node) P.top.passed n a b r.root
        (subst (λ x. child_fits s x A B (end s P.top.node) P.top.passed n ≡ true) r.kind_is
        (subst (λ x. child_fits s f.kind A B x P.top.passed n ≡ true) r.end_is
        (subst (λ x. child_fits s f.kind A B f.end x n ≡ true) r.place_is h)))

    -- the next node is a child of the innermost node
    module _ (A B : ℕ) (a : A ≡ field_a s 0) (b : B ≡ field_b s 0) (due : f.passed < f.count)
        (fits : child_fits s f.kind A B f.end f.passed n ≡ true) (self : self_ok s n (node_count s) ≡ true) (own : g n ≡ true) where
      -- where the child is passed, the open node has one more
      kept_more : Frame s (at P.top.node (P.top.passed + 1)) (more f)
      kept_more =
          let r = P.frame in
          record {
            place_is = ap (λ x. x + 1) r.place_is;
            kind_is = r.kind_is;
            count_is = r.count_is;
            few = r.few;
            end_is = r.end_is;
            inside = r.inside;
            root = r.root;
          }

      -- what was left before, by what is left after
      left-more : Rest s (d + 1) n 0 (n + 1) → Left s (end s n) (at P.top.node (P.top.passed + 1) ∷ P.under)
          → Left s n (P.top ∷ P.under)
      left-more r l =
          let h = P.frame in
          let later : n + 1 < 2 ^ 32 = omega (arith, self-end s n (node_count s) self, self-some s n (node_count s) self) in
          let w : within (63 - length P.under) s n ≡ true =
          rest-within s small (d + 1) (63 - length P.under) n later (omega (arith, P.level))
          (omega (arith, P.level, P.size)) r in
          let less : P.top.passed < count s P.top.node = omega (arith, h.place_is, h.count_is) in
          let r₁ =
          rest-child s small (length P.under) P.top.node P.top.passed n less (passing-fits A B a b fits) h.inside w
          l.0 in
          (r₁, l.1)

      so-more : Rest s (d + 1) n 0 (n + 1) → Left s (end s n) (at P.top.node (P.top.passed + 1) ∷ P.under)
          → (all_below (n + 1) (node_ok s) ≡ true) × (within 64 s 0 ≡ true)
      so-more r l =
          let o = P.so (left-more r l) in
          (all_more (node_ok s) n o.0 (rest-node s small (d + 1) n self r), o.1)

      -- it has no children
      pub passing-leaf : count s n ≡ 0 → span s n ≡ 1 → Passing s g fs (more f) (n + 1) d
      passing-leaf c w =
          let r = rest-done s small (d + 1) n 0 (n + 1) (omega arith) (omega arith) in
          let e₁ : end s n ≡ n + 1 = omega arith in
          record {
            top = at P.top.node (P.top.passed + 1);
            under = P.under;
            size = P.size;
            level = P.level;
            room = P.room;
            frame = kept_more;
            held = P.held;
            each = all_more g n P.each own;
            so = λ l. so-more r (subst (λ x. Left s x (at P.top.node (P.top.passed + 1) ∷ P.under)) (sym e₁) l);
          }

      -- it is opened
      pub passing-open : d < 62 → (k' m' e' : ℕ) → k' ≡ kind s n → m' ≡ count s n → m' < 2 ^ 32 → e' ≡ end s n
          → Passing s g (set fs d (more f)) (record { kind = k'; count = m'; passed = 0; end = e' }) (n + 1) (d + 1)
      passing-open lev k' m' e' hk hm lm he = record {
        top = at n 0;
        under = at P.top.node (P.top.passed + 1) ∷ P.under;
        size = omega (arith, P.size);
        level = omega arith;
        room = length-set fs d (more f) ∙ P.room;
        frame = record {
          place_is = refl;
          kind_is = hk;
          count_is = hm;
          few = lm;
          end_is = he;
          inside = self-end s n (node_count s) self;
          root = λ q. absurd (fits-switch s f.kind A B f.end f.passed n fits q);
        };
        held = (
          subst
              (λ x. Frame s (at P.top.node (P.top.passed + 1)) (get_or (set fs d (more f)) x no_node))
              (sym P.size)
              (rw (get_or-set_same fs d (more f) no_node (omega (arith, P.room))) kept_more),
          held-set s fs d (more f) P.under (omega (arith, P.size)) P.held,
        );
        each = all_more g n P.each own;
        so = λ l. so-more (subst (λ x. Rest s x n 0 (n + 1)) (omega (arith, P.size)) l.0) l.1;
      }

    -- the innermost node is closed, and nothing else is open
    pub passing-end : d ≡ 0 → f.count ≤ f.passed → f.end ≡ n → n ≡ node_count s
        → (all_below (node_count s) (node_ok s) ≡ true) × (within 64 s 0 ≡ true) × (all_below (node_count s) g ≡ true)
    passing-end z h q t = by P.under (P.size ∙ z) P.so
      where
        by : (os : List Place) → length os ≡ 0 → (Left s n (P.top ∷ os) → (all_below n (node_ok s) ≡ true) × (within 64 s 0 ≡ true))
            → (all_below (node_count s) (node_ok s) ≡ true) × (within 64 s 0 ≡ true) × (all_below (node_count s) g ≡ true)
        by [] l so =
            let r₀ = P.frame in
            let full : count s P.top.node ≤ P.top.passed = omega (arith, r₀.place_is, r₀.count_is) in
            let done₁ = rest-done s small 0 P.top.node P.top.passed n full (sym q ∙ r₀.end_is) in
            let r = so (done₁, tt) in
            (subst (λ x. all_below x (node_ok s) ≡ true) t r.0, r.1, subst (λ x. all_below x g ≡ true) t P.each)
        by (o ∷ os) l so = absurd (omega arith)

  -- the innermost node is closed, and the one around it is the innermost
  passing-close : (fs : List Open) (f : Open) (n k : ℕ) → Passing s g fs f n (suc k) → done f n ≡ true
      → Passing s g fs (get_or fs k no_node) n k
  passing-close fs f n k P h = by P.under P.size P.held P.so
    where
      by : (os : List Place) → length os ≡ suc k → Held s fs os
          → (Left s n (P.top ∷ os) → (all_below n (node_ok s) ≡ true) × (within 64 s 0 ≡ true))
          → Passing s g fs (get_or fs k no_node) n k
      by [] l r so = absurd (omega arith)
      by (o ∷ os) l r so =
          let e₁ : length os ≡ k = omega arith in
          let t = P.frame in
          let q = done-is f n h in
          let full : count s P.top.node ≤ P.top.passed = omega (arith, q.0, t.place_is, t.count_is) in
          let next = sym q.1 ∙ t.end_is in
          record {
            top = o;
            under = os;
            size = e₁;
            level = omega (arith, P.level);
            room = P.room;
            frame = subst (λ x. Frame s o (get_or fs x no_node)) e₁ r.0;
            held = r.1;
            each = P.each;
            so =
                let done₁ = rest-done s small (suc (length os)) P.top.node P.top.passed n full next in
                λ r₁. so (done₁, subst (λ x. Left s x (o ∷ os)) next r₁);
          }

  -- nodes are closed one after the other
  pub passing-closed : {fs : List Open} {n : ℕ} {f : Open} {d : ℕ} {f' : Open} {d' : ℕ} → Closed fs n f d f' d'
      → Passing s g fs f n d → Passing s g fs f' n d'
  passing-closed stay P = P
  passing-closed (close {o} {k} c h) P = passing-close _ o _ k (passing-closed c P) h

  -- node 0 is open, and node 1 is next
  pub passing-start : (fs : List Open) (k m e : ℕ) → length fs ≡ 62 → k ≡ kind s 0 → m ≡ count s 0 → m < 2 ^ 32
      → e ≡ span s 0 → self_ok s 0 (node_count s) ≡ true → g 0 ≡ true
      → Passing s g fs (record { kind = k; count = m; passed = 0; end = e }) 1 0
  passing-start fs k m e lf hk hm few he self own = record {
    top = at 0 0;
    under = [];
    size = refl;
    level = omega arith;
    room = lf;
    frame = record {
      place_is = refl;
      kind_is = hk;
      count_is = hm;
      few = few;
      end_is = omega arith;
      inside = self-end s 0 (node_count s) self;
      root = λ q. refl;
    };
    held = tt;
    each = all_more g 0 (all_none g) own;
    so = λ l. (
      all_more (node_ok s) 0 (all_none (node_ok s)) (rest-node s small 0 0 self l.0),
      rest-within s small 0 64 0 (omega arith) (omega arith) refl l.0,
    );
  }

-- all above level k are closed: there are j of them, and o inside them
closed-down : {fs : List Open} {n : ℕ} {f : Open} {d : ℕ} (k j : ℕ) (o : Open) → Closed fs n f d o (suc (k + j)) → done o n ≡ true
    → AllDone fs n (k + 1) d → suc (k + j) ≤ d → Closed fs n f d (get_or fs k no_node) k
closed-down {fs} {n} {f} {d} k zero o c h a l =
    let e : k + 0 ≡ k = omega arith in
    subst (λ i. Closed fs n f d (get_or fs i no_node) i) e (close c h)
closed-down {fs} {n} {f} {d} k (suc j) o c h a l =
    let e : k + suc j ≡ suc (k + j) = omega arith in
    let c₁ = subst (λ i. Closed fs n f d (get_or fs i no_node) i) e (close c h) in
    closed-down k j _ c₁ (a.each (suc (k + j)) (omega arith) (omega arith)) a (omega arith)

pub closed-to : (fs : List Open) (n : ℕ) (f : Open) (d k : ℕ) → done f n ≡ true → k < d → AllDone fs n (k + 1) d
    → Closed fs n f d (get_or fs k no_node) k
closed-to fs n f d k h l a =
    let e : d ≡ suc (k + (d - (k + 1))) = omega arith in
    closed-down k (d - (k + 1)) f (subst (λ i. Closed fs n f d f i) e stay) h a (omega arith)

-- what is known of the first d open nodes, by themselves
pub first_done : (fs : List Open) (n k d : ℕ) → d ≤ length fs → AllDone (take d fs) n k (length (take d fs)) → AllDone fs n k d
first_done fs n k d h a = record { each = λ j l u. by j l u }
  where
    by : (j : ℕ) → k ≤ j → j < d → done (get_or fs j no_node) n ≡ true
    by j l u =
        subst (λ o. done o n ≡ true) (get_or-take d fs j no_node u) (a.each j l (omega (arith, length-take-le d fs h)))

pub first_inner : (fs : List Open) (n k d : ℕ) → d ≤ length fs
    → (k < length (take d fs)) × AllDone (take d fs) n (k + 1) (length (take d fs))
    → (k < d) × AllDone fs n (k + 1) d
first_inner fs n k d h a = (omega (arith, a.0, length-take-le d fs h), first_done fs n (k + 1) d h a.1)

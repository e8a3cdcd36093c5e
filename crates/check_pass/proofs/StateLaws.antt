-- Laws of the pass's loop, each in the form of one need: what may be read, what fits a word, what falls, and the state after each
-- way round.
use Prim.Native.Nat.{ℕ, suc, ◌+◌, ◌*◌, ◌/◌, ◌^◌, ◌<◌, ◌≤◌}
use mathlib.Core.Path.{◌≡◌, refl, ap, sym, subst, ◌∙◌}
use mathlib.Core.Bool.{Bool, true, not, true≢false, ◌&&◌, and-eq-true_iff}
use Rattle.std.specs.Prelude.{Option, Some, None}
use Rattle.std.specs.Option.{MatchOption, is_some}
use mathlib.Core.List.{List}
use native.Mathlib.Decide.{ℕ_discrete}
use native.Mathlib.Omega.{arith}
use lib.Dec.{leb, eqb}
use lib.ListN.{length, set}
use borrow.Author.Tests.{le-leb, leb-true, eqb-true}
use mir.Syntax.{w32}
use mir.Val.{Fits}
use Rattle.sheet.specs.Limits.{header_words, node_words}
use Rattle.sheet.specs.Sections.{node_count, text_count}
use Rattle.sheet.specs.Node.{field_a, field_b}
use Rattle.check_shape.specs.Kinds.{child_kind}
use Rattle.check_shape.specs.Shape.{own_rule, child_words, self_ok}
use Rattle.check_shape.proofs.ShapeLaws.{self-end, self-some}
use Rattle.check_pass.specs.Fine.{own, Passed}
use Rattle.check_pass.specs.Limits.{limits, Row, Called, Spaced, Own}
use Rattle.check_pass.specs.Words.{NodeIs}
use Rattle.check_pass.proofs.LimitLaws.{Right, row-right}
use Rattle.check_pass.proofs.WordLaws.{words-fit, words-self, words-own, rule-child}
use Rattle.check_pass.specs.Sizes.{Sizes, Root}
use Rattle.check_pass.specs.Levels.{done, AllDone, Closed}
use Rattle.check_pass.specs.declared.Open.{Open}
use Rattle.check_pass.proofs.Passing.{State}
use Rattle.check_pass.proofs.PassingLaws.{kind-switch, done-is, more, passing-start, passing-leaf, passing-open}
use Rattle.check_pass.proofs.PassingLaws.{passing-closed, passing-end, closed-to}

-- what fits of a node that is within its row
module _ {s : List ℕ} {total K B : ℕ} {t : List ℕ} (S : Sizes s total K B t) where
  sizes-small : node_count s < 2 ^ 32
  sizes-small = subst (λ x. x < 2 ^ 32) S.total-is S.small

  sizes-row : {k m a b c x y : ℕ} (f : Spaced s k x y) → Row t k m a b c
      → Right (text_count s) K x S.texts-few S.blocks-few (le-leb x (text_count s) f.there) k m a b c
  sizes-row {k} {m} {a} {b} {c} {x} f r =
      row-right (text_count s) K x S.texts-few S.blocks-few (le-leb x (text_count s) f.there) k m a b c
      (subst (λ t. Row t k m a b c) S.table_is r)

  -- the sheet has each of its nodes
  pub sizes-room : (n : ℕ) → n < total → 32 * n + 47 < length s
  sizes-room n h = omega (arith, S.room)

module _ {s : List ℕ} {total K B : ℕ} {t : List ℕ} {fs : List Open} {f : Open} {n d : ℕ} (S : State s total K B t fs f n d) where
  state-inside : f.end ≤ node_count s
  state-inside = subst (λ x. x ≤ node_count s) (sym S.passing.frame.end_is) S.passing.frame.inside

  -- the next node is a child of the innermost one, and right by itself
  module _ {k₁ w m₁ a b c x y : ℕ} (v : NodeIs s n k₁ w m₁ a b c x y) (fit : child_words f.kind K B f.end f.passed n k₁ w ≡ true)
      (o : Own t s k₁ m₁ a b c x y) where
    fit-ends : (1 ≤ w) × (n + w ≤ f.end)
    unfolding child_words
    fit-ends =
        let h = ((and-eq-true_iff (leb 1 w && leb (n + w) f.end) (child_kind f.kind K B f.passed k₁)).0 fit).0 in
        let g = (and-eq-true_iff (leb 1 w) (leb (n + w) f.end)).0 h in
        (leb-true _ _ g.0, leb-true _ _ g.1)

    no-switch : k₁ ≡ 19 → ⊥
    unfolding child_words
    no-switch q =
        kind-switch f.kind K B f.passed k₁
        ((and-eq-true_iff (leb 1 w && leb (n + w) f.end) (child_kind f.kind K B f.passed k₁)).0 fit).1 q

    next-self : self_ok s n (node_count s) ≡ true
    next-self =
        let h = state-inside in
        let g = fit-ends in
        words-self s n v o.spaced (node_count s) (sizes-row S.sizes o.spaced o.row).bounds (rule-child k₁ m₁ a b no-switch o.char) g.0
        (omega (arith, g.1))

    next-own : own s n ≡ true
    next-own =
        let r = sizes-row S.sizes o.spaced o.row in
        words-own s n v o.spaced K S.sizes.blocks-are r.numbers r.taken o.called

    pub end_fits : Fits w32 (n + w)
    end_fits = let h = state-inside in omega (arith, fit-ends.1, sizes-small S.sizes)

    pub next_fits : Fits w32 (n + 1)
    next_fits = let h = state-inside in omega (arith, fit-ends.0, fit-ends.1, sizes-small S.sizes)

    module _ (due : f.passed < f.count) where
      pub state-leaf : m₁ ≡ 0 → w ≡ 1 → State s total K B t fs (more f) (n + 1) d
      state-leaf z q = record {
        sizes = S.sizes;
        passing =
            passing-leaf s (sizes-small S.sizes) (own s) fs f n d S.passing K B S.sizes.blocks-are
            S.sizes.cases-are due
            (words-fit s f.kind K B f.end f.passed n v fit) next-self next-own (sym v.count_is ∙ z) (sym v.span_is ∙ q);
      }

      pub state-open : d < 62
          → State s total K B t (set fs d (more f)) (record { kind = k₁; count = m₁; passed = 0; end = n + w }) (n + 1) (d + 1)
      state-open lev = record {
        sizes = S.sizes;
        passing =
            passing-open s (sizes-small S.sizes) (own s) fs f n d S.passing K B S.sizes.blocks-are
            S.sizes.cases-are due
            (words-fit s f.kind K B f.end f.passed n v fit) next-self next-own lev k₁ m₁ (n + w) v.kind_is v.count_is v.few
            (ap (λ x. n + x) v.span_is);
      }

  pub place-fits : f.passed < f.count → Fits w32 (f.passed + 1)
  place-fits h = omega (arith, S.passing.frame.few)

  pub state-level : d ≤ 62
  state-level = S.passing.level

  -- nodes that are done are closed
  pub state-closed : {f' : Open} {d' : ℕ} → Closed fs n f d f' d' → State s total K B t fs f' n d'
  state-closed c = record { sizes = S.sizes; passing = passing-closed s (sizes-small S.sizes) (own s) c S.passing }

-- nothing is open behind the last node
pub state-end : {s : List ℕ} {total K B : ℕ} {t : List ℕ} {fs : List Open} {f : Open} {n d : ℕ} → State s total K B t fs f n d
    → n ≡ total → d ≡ 0 → done f n ≡ true → Passed s
state-end {s} {fs = fs} {f = f} {n = n} {d = d} S e z h =
    let q = done-is f n h in
    let r =
    passing-end s (sizes-small S.sizes) (own s) fs f n d S.passing z q.0 q.1 (e ∙ S.sizes.total-is) in
    record { nodes = r.0; deep = r.1; each = r.2 }

-- an answer that is none
pub none-of : (A : Type 0) (B : ℕ → Type 0) (o : Option ℕ) {r : Bool} → is_some o ≡ not r → r ≡ true → MatchOption o A B → A
none-of A B None e h m = m
none-of A B (Some x) e h m = absurd (true≢false (e ∙ ap not h))

-- all open nodes are done behind the last node
pub state-all : {s : List ℕ} {total K B : ℕ} {t : List ℕ} {fs : List Open} {f : Open} {n d : ℕ} → State s total K B t fs f n d
    → n ≡ total → done f n ≡ true → AllDone fs n 0 d → Passed s
state-all {s} {fs = fs} {f = f} {n = n} {d = d} S e h a = by (ℕ_discrete d 0)
  where
    by : Dec (d ≡ 0) → Passed s
    by (yes z) = state-end S e z h
    by (no z) =
        let above : AllDone fs n 1 d = record { each = λ j l u. a.each j (omega arith) u } in
        let c = closed-to fs n f d 0 h (omega arith) above in
        state-end (state-closed S c) e refl (a.each 0 (omega arith) (omega arith))

-- node 0 is open, and node 1 is next
pub state-start : {s : List ℕ} {total K B : ℕ} {t : List ℕ} → Sizes s total K B t → {k w m a b c x y : ℕ} → Root s k w m a b c x y
    → (fs : List Open) → length fs ≡ 62 → State s total K B t fs (record { kind = k; count = m; passed = 0; end = w }) 1 0
state-start {s} S {k} {w} {m} R fs lf = record {
  sizes = S;
  passing =
      passing-start s (sizes-small S) (own s) fs k m w lf R.node.kind_is R.node.count_is R.node.few
      R.node.span_is R.self R.owns;
}

-- there is a node
pub root_some : {s : List ℕ} {total K B : ℕ} {t : List ℕ} → Sizes s total K B t → {k w m a b c x y : ℕ} → Root s k w m a b c x y
    → 1 ≤ total
root_some {s} S R =
    omega (arith, S.total-is, self-end s 0 (node_count s) R.self, self-some s 0 (node_count s) R.self)

-- node 0 is right by itself, by the tests of its words
pub root-right : {s : List ℕ} {total K B : ℕ} {t : List ℕ} → Sizes s total K B t → {k w m a b c x y : ℕ} → NodeIs s 0 k w m a b c x y
    → {r u f g : Bool} → (total ≡ 0 → ⊥) → (r ≡ true → Row t k m a b c) → u ≡ own_rule k m a b → (f ≡ true → Called s k m a)
    → (g ≡ true → Spaced s k x y) → (eqb w total && r && u && f && g) ≡ true → Root s k w m a b c x y
root-right {s} {total} {K} S {k} {w} {m} {a} {b} {c} v {r} {u} {f} {g} z row rule called spaced h =
    let four = (and-eq-true_iff (eqb w total && r && u && f) g).0 h in
    let three = (and-eq-true_iff (eqb w total && r && u) f).0 four.0 in
    let two = (and-eq-true_iff (eqb w total && r) u).0 three.0 in
    let one = (and-eq-true_iff (eqb w total) r).0 two.0 in
    let q = eqb-true w total one.0 in
    let space = spaced four.1 in
    let own = sizes-row S space (row one.1) in
    let t₁ = S.total-is in
    record {
      node = v;
      self = words-self s 0 v space (node_count s) own.bounds (sym rule ∙ two.1) (omega arith) (omega arith);
      owns = words-own s 0 v space K S.blocks-are own.numbers own.taken (called three.1);
    }

pub sizes-of : {s : List ℕ} {total K B x : ℕ} {t : List ℕ} → total ≡ node_count s → suc total ≤ 2 ^ 32 → K ≡ field_a s 0
    → suc K ≤ 2 ^ 32 → B ≡ field_b s 0
    → x ≡ text_count s → suc x ≤ 2 ^ 32 → t ≡ limits x K → header_words + node_words * total ≤ length s / 4 → Sizes s total K B t
sizes-of {s} {total} {K} {B} {x} ht st hK sK hB hx sx hl room = record {
  total-is = ht;
  small = st;
  blocks-are = hK;
  cases-are = hB;
  table_is = hl ∙ ap (λ y. limits y K) hx;
  texts-few = omega arith;
  blocks-few = omega arith;
  room = room;
}

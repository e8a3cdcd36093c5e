-- Laws of a node's words: where they stand, and what the tests on them say of the sheet.
use Prim.Native.Nat.{ℕ, suc, ◌+◌, ◌*◌, ◌^◌, ◌<◌, ◌≤◌}
use mathlib.Core.Path.{◌≡◌, refl, ap, sym, subst, ◌∙◌}
use mathlib.Core.Bool.{Bool, true, false, ◌&&◌, ◌||◌, not, true≢false, and-eq-true_iff, or-true}
use mathlib.Core.List.{List}
use native.Mathlib.Decide.{ℕ_discrete}
use native.Mathlib.Nat.{add-zero}
use native.Mathlib.Omega.{arith}
use lib.Dec.{leb, ltb, eqb}
use lib.ListN.{get_or}
use borrow.Author.Tests.{le-leb, leb-true, ltb-true, eqb-true, ne_eqb}
use Rattle.laws.proofs.Bool.{both}
use Rattle.text.specs.Keyword.{is_curry}
use Rattle.words.specs.Word.{word}
use Rattle.sheet.specs.Limits.{header_words, node_words}
use Rattle.sheet.specs.Sections.{text_count}
use Rattle.sheet.specs.Node.{field, kind, span, count, field_a, field_b, field_c, namespace_word, namespace_pos}
use Rattle.sheet.specs.Text.{text}
use Rattle.sheet.specs.Namespace.{may_have}
use Rattle.check_shape.specs.Kinds.{scalar, expression, child_kind}
use Rattle.check_shape.specs.Rows.{numbers, holds}
use Rattle.check_shape.specs.declared.Bounds.{Bounds}
use Rattle.check_shape.proofs.RowLaws.{leaf, row-at}
use Rattle.check_shape.proofs.KindsLaws.{child-other}
use Rattle.check_shape.specs.Shape.{own_rule, space_rule, self_by, child_words, within_bounds, self_ok, child_fits}
use Rattle.check_numbers.specs.Numbers.{exist, number_by, number_ok}
use Rattle.check_support.specs.Support.{refused_kind, supported_by, long_curry}
use Rattle.check_support.proofs.SupportLaws.{curry-call, curry-other}
use Rattle.check_pass.specs.Fine.{own}
use Rattle.check_pass.specs.Limits.{Row, Called, Spaced, Own}
use Rattle.check_pass.specs.Words.{NodeIs}

-- eight words in a row are those of node n, if they stand at its place
pub node-words : (s : List ℕ) (n : ℕ) {k w m a b c x y : ℕ}
    → k ≡ word s (header_words + node_words * n) → w ≡ word s (header_words + node_words * n + 1)
    → m ≡ word s (header_words + node_words * n + 2) → suc m ≤ 2 ^ 32
    → a ≡ word s (header_words + node_words * n + 3) → b ≡ word s (header_words + node_words * n + 4)
    → c ≡ word s (header_words + node_words * n + 5) → x ≡ word s (header_words + node_words * n + 6)
    → y ≡ word s (header_words + node_words * n + 7) → NodeIs s n k w m a b c x y
unfolding field
node-words s n hk hw hm few ha hb hc hx hy = record {
  kind_is = hk ∙ ap (word s) (sym (add-zero (header_words + node_words * n)));
  span_is = hw;
  count_is = hm;
  few = omega arith;
  a_is = ha;
  b_is = hb;
  c_is = hc;
  x_is = hx;
  y_is = hy;
}

pub not-false : {p q : Bool} → p ≡ not q → p ≡ true → q ≡ false
not-false {p} {q} e h = by q (sym e ∙ h)
  where
    by : (q : Bool) → not q ≡ true → q ≡ false
    by true f = absurd (true≢false (sym f))
    by false f = refl

-- the tests of a row, as they stand in the code
pub row-of : (rs : List Bounds) (k m a b c : ℕ) → k ≤ 25
    → holds (get_or rs k leaf) m a b c ≡ true → Row (numbers rs) k m a b c
unfolding holds
row-of rs k m a b c h e =
    let r = get_or rs k leaf in
    let five = (and-eq-true_iff (leb r.least m && leb m r.most && leb a r.a && leb b r.b) (leb c r.c)).0 e in
    let four = (and-eq-true_iff (leb r.least m && leb m r.most && leb a r.a) (leb b r.b)).0 five.0 in
    let three = (and-eq-true_iff (leb r.least m && leb m r.most) (leb a r.a)).0 four.0 in
    let two = (and-eq-true_iff (leb r.least m) (leb m r.most)).0 three.0 in
    let first = ap (λ i. get_or (numbers rs) i 0) (sym (add-zero (5 * k))) ∙ row-at rs k 0 (omega arith) in
    record {
      kind = h;
      least = subst (λ x. x ≤ m) (sym first) (leb-true _ _ two.0);
      most = subst (λ x. m ≤ x) (sym (row-at rs k 1 (omega arith))) (leb-true _ _ two.1);
      most-a = subst (λ x. a ≤ x) (sym (row-at rs k 2 (omega arith))) (leb-true _ _ three.1);
      most-b = subst (λ x. b ≤ x) (sym (row-at rs k 3 (omega arith))) (leb-true _ _ four.1);
      most-c = subst (λ x. c ≤ x) (sym (row-at rs k 4 (omega arith))) (leb-true _ _ five.1);
    }

-- what a node's words show by themselves: of a Char, of an FnCall with over one argument, of any other
module _ (t s : List ℕ) (k m a b c x y : ℕ) (spaced : Spaced s k x y) (row : Row t k m a b c) where
  pub own-char : k ≡ 5 → scalar a ≡ true → Own t s k m a b c x y
  own-char q h = record {
    row = row;
    char = λ e. h;
    called = λ e. absurd (no_call (eqb-true k 13 ((and-eq-true_iff (eqb k 13) (ltb 1 m)).0 e).0));
    spaced = spaced;
  }
    where
      no_call : k ≡ 13 → ⊥
      no_call e = omega arith

  pub own-other : (k ≡ 5 → ⊥) → Called s k m a → Own t s k m a b c x y
  own-other ne h = record { row = row; char = λ q. absurd (ne q); called = h; spaced = spaced }

-- below a node of an expression's kind stand expressions
pub child-plain : (p a b i k : ℕ) → p < 19 → (leb 1 k && ltb k 19) ≡ true → child_kind p a b i k ≡ true
unfolding expression
child-plain p a b i k h e =
    let f = (and-eq-true_iff (leb 1 k) (ltb k 19)).0 e in
    child-other p a b i k (λ q. omega arith) (λ q. omega arith) (λ q. omega arith)
    ∙ ap (λ t. t || (leb 23 k && leb k 25)) (both f.0 (le-leb k 18 (omega (arith, ltb-true k 19 f.1))))

-- the tests of a child, on its words
pub words-child : (p a b e i j k w : ℕ) {q r : Bool} → q ≡ (leb 1 w && leb (j + w) e) → (r ≡ true → child_kind p a b i k ≡ true)
    → (q && r) ≡ true → child_words p a b e i j k w ≡ true
unfolding child_words
words-child p a b e i j k w {q} {r} hq f h =
    let g = (and-eq-true_iff q r).0 h in
    both (sym hq ∙ g.0) (f g.1)

pub words-fit : (s : List ℕ) (p a b e i j : ℕ) {k w m f g h x y : ℕ} → NodeIs s j k w m f g h x y → child_words p a b e i j k w ≡ true
    → child_fits s p a b e i j ≡ true
unfolding child_words
words-fit s p a b e i j {k} {w} v h = rw (← v.kind_is, ← v.span_is) h

-- the tests of a namespace's words, where the texts' number was read
pub space-read : (s : List ℕ) (k x y : ℕ) {r : Bool} {X : ℕ} → r ≡ space_rule k x y → X ≡ text_count s → (r && leb x X) ≡ true
    → Spaced s k x y
space-read s k x y {r} {X} hr hX h =
    let p = (and-eq-true_iff r (leb x X)).0 h in
    record { rule = sym hr ∙ p.0; there = subst (λ n. x ≤ n) hX (leb-true x X p.1) }

-- no namespace, and no position of one
pub no-space : (s : List ℕ) (k : ℕ) {x y : ℕ} → (eqb x 0 && eqb y 0) ≡ true → Spaced s k x y
unfolding space_rule
no-space s k {x} {y} h =
    let p = (and-eq-true_iff (eqb x 0) (eqb y 0)).0 h in
    let e = eqb-true x 0 p.0 in
    record {
      rule =
          both (ap (λ t. may_have k || t) p.0 ∙ or-true (may_have k)) (ap (λ t. not (eqb x 0) || t) p.1 ∙ or-true (not (eqb x 0)));
      there = omega arith;
    }

-- what a node's words show, of node n
module _ (s : List ℕ) (n : ℕ) {k w m a b c x y : ℕ} (v : NodeIs s n k w m a b c x y) (f : Spaced s k x y) where
  pub words-self : (total : ℕ) → within_bounds k m a b c ≡ true → own_rule k m a b ≡ true → 1 ≤ w → n + w ≤ total → self_ok s n total ≡ true
  unfolding self_by
  words-self total h r l u =
      let bounds : within_bounds (kind s n) (count s n) (field_a s n) (field_b s n) (field_c s n) ≡ true =
      rw (← v.kind_is, ← v.count_is, ← v.a_is, ← v.b_is, ← v.c_is) h in
      let rule : own_rule (kind s n) (count s n) (field_a s n) (field_b s n) ≡ true =
      rw (← v.kind_is, ← v.count_is, ← v.a_is, ← v.b_is) r in
      let space : space_rule (kind s n) (namespace_word s n) (namespace_pos s n) ≡ true =
      rw (← v.kind_is, ← v.x_is, ← v.y_is) f.rule in
      let some : leb 1 (span s n) ≡ true = rw (← v.span_is) (le-leb 1 w l) in
      let ends : leb (n + span s n) total ≡ true = rw (← v.span_is) (le-leb (n + w) total u) in
      both (both (both (both bounds rule) space) some) ends

  words-called : Called s k m a → long_curry s n ≡ false
  words-called q = by (eqb (kind s n) 13 && ltb 1 (count s n)) refl
    where
      by : (t : Bool) → (eqb (kind s n) 13 && ltb 1 (count s n)) ≡ t → long_curry s n ≡ false
      by true e = curry-call s n e ∙ (ap (λ z. is_curry (text s z)) (sym v.a_is) ∙ q (rw (v.kind_is, v.count_is) e))
      by false e = curry-other s n e

  pub words-own : (K : ℕ) → K ≡ field_a s 0 → exist (text_count s) K k a b c x ≡ true → refused_kind k ≡ false → Called s k m a
      → own s n ≡ true
  unfolding own supported_by number_by
  words-own K hK there taken q =
      let numbers : number_ok s n ≡ true = rw (← hK, ← v.kind_is, ← v.a_is, ← v.b_is, ← v.c_is, ← v.x_is) there in
      let kinds : not (refused_kind (kind s n)) ≡ true = ap not (ap refused_kind (sym v.kind_is) ∙ taken) in
      let names : not (long_curry s n) ≡ true = ap not (words-called q) in
      both numbers (both kinds names)

-- a Char is a scalar value; what is no Switch has no other rule
pub rule-child : (k m a b : ℕ) → (k ≡ 19 → ⊥) → (k ≡ 5 → scalar a ≡ true) → own_rule k m a b ≡ true
unfolding own_rule
rule-child k m a b ne char =
    both (by (ℕ_discrete k 5)) (ap (λ t. not t || leb (1 + 2 * a + b) m) (ne_eqb k 19 ne))
  where
    by : Dec (k ≡ 5) → (not (eqb k 5) || scalar a) ≡ true
    by (yes q) = ap (λ t. not (eqb k 5) || t) (char q) ∙ or-true (not (eqb k 5))
    by (no q) = ap (λ t. not t || scalar a) (ne_eqb k 5 q)

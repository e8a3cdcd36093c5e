-- A run of words of one level is at most x where its ends are and its parents on the level above.
use Prim.Native.Nat.{ℕ, ◌+◌, ◌*◌, ◌-◌, ◌/◌, ◌≤◌, ◌<◌}
use mathlib.Core.Path.{◌≡◌, refl, sym, ap, subst}
use mathlib.Core.Bool.{Bool, true, false}
use mathlib.Core.List.{List}
use native.Mathlib.Omega.{arith}
use borrow.Author.Tests.{eqb-true, eqb-false, leb-true, le-leb}
use lib.Dec.{eqb, leb}
use lib.ListN.{get_or}
use Rattle.words.proofs.CountLaws.{all-at, all_of}
use Rattle.image_maxima.specs.Tree.{leaf, Tree, leaves_up_to}

-- words l to r - 1 are at most x
pub record UpTo (t : List ℕ) (l r x : ℕ) : Type 0 where
  pub each : (k : ℕ) → l ≤ k → k < r → get_or t k 0 ≤ x

-- the run from l to r, on some level, is at most x just where the run from a to b is
pub record Level (t : List ℕ) (size a b x l r : ℕ) : Type 0 where
  pub positive : 0 < l
  pub inside : r ≤ 2 * size
  pub down : UpTo t l r x → UpTo t a b x
  pub up : UpTo t a b x → UpTo t l r x

pub level-first : (t : List ℕ) (size a b x : ℕ) → 0 < a → b ≤ 2 * size → Level t size a b x a b
level-first t size a b x p h = record { positive = p; inside = h; down = λ u. u; up = λ u. u }

module _ {t : List ℕ} {size a b x l r : ℕ} (T : Tree t size) (v : Level t size a b x l r) where
  -- a parent's children are in the run
  parents : UpTo t l r x → UpTo t ((l + 1) / 2) (r / 2) x
  parents u = record {
    each = λ k h g.
        let p : 0 < k = omega (arith, v.positive) in
        let s : k < size = omega (arith, v.inside) in
        omega (arith, T.greater k p s, u.each (2 * k) (omega arith) (omega arith), u.each (2 * k + 1) (omega arith) (omega arith));
  }

  -- all but the ends have their parent in the run above
  children : get_or t l 0 ≤ x → get_or t (r - 1) 0 ≤ x → UpTo t ((l + 1) / 2) (r / 2) x → UpTo t l r x
  children first last u = record { each = λ e h g. by e h g (eqb e l) refl (eqb e (r - 1)) refl }
    where
      half : (e : ℕ) → l < e → e + 1 < r → (k : ℕ) → k ≡ e / 2 → get_or t e 0 ≤ x
      half e h g k q = go (eqb e (2 * k)) refl
        where
          p : 0 < k
          p = omega (arith, v.positive)

          s : k < size
          s = omega (arith, v.inside)

          above : get_or t k 0 ≤ x
          above = u.each k (omega arith) (omega arith)

          go : (b : Bool) → eqb e (2 * k) ≡ b → get_or t e 0 ≤ x
          go true i = omega (arith, above, T.greater k p s, ap (λ (n : ℕ). get_or t n 0) (eqb-true e (2 * k) i))
          go false i =
              let other = eqb-false e (2 * k) i in
              let odd : e ≡ 2 * k + 1 = omega arith in
              omega (arith, above, T.greater k p s, ap (λ (n : ℕ). get_or t n 0) odd)

      by : (e : ℕ) → l ≤ e → e < r → (b : Bool) → eqb e l ≡ b → (c : Bool) → eqb e (r - 1) ≡ c → get_or t e 0 ≤ x
      by e h g true i c j = subst (λ (n : ℕ). get_or t n 0 ≤ x) (sym (eqb-true e l i)) first
      by e h g false i true j = subst (λ (n : ℕ). get_or t n 0 ≤ x) (sym (eqb-true e (r - 1) j)) last
      by e h g false i false j =
          let s = eqb-false e l i in
          let z = eqb-false e (r - 1) j in
          half e (omega arith) (omega arith) (e / 2) refl

  pub level-above : get_or t l 0 ≤ x → get_or t (r - 1) 0 ≤ x → Level t size a b x ((l + 1) / 2) (r / 2)
  level-above first last = record {
    positive = omega (arith, v.positive);
    inside = omega (arith, v.inside);
    down = λ u. v.down (children first last u);
    up = λ u. parents (v.up u);
  }

module _ {t : List ℕ} {size x l r : ℕ} (a b : ℕ) (v : Level t size (a + size) (b + size) x l r) where
  abbrev small : ℕ → Bool
  small j = leb (leaf t size (a + j)) x

  -- where a word of the run is above x, so is a leaf
  pub level-fails : (k : ℕ) → l ≤ k → k < r → x < get_or t k 0 → false ≡ leaves_up_to t size a b x
  unfolding leaves_up_to
  level-fails k h g f = by (leaves_up_to t size a b x) refl
    where
      by : (c : Bool) → leaves_up_to t size a b x ≡ c → false ≡ leaves_up_to t size a b x
      by false e = sym e
      by true e = absurd (omega (arith, (v.up first).each k h g))
        where
          first : UpTo t (a + size) (b + size) x
          first = record {
            each = λ m p q.
                let j = m - size - a in
                let at : size + (a + j) ≡ m = omega arith in
                subst (λ (n : ℕ). get_or t n 0 ≤ x) at (leb-true (leaf t size (a + j)) x (all-at small (b - a) j e (omega arith)));
          }

  -- where the run is empty, all leaves are at most x
  pub level-empty : r ≤ l → true ≡ leaves_up_to t size a b x
  unfolding leaves_up_to
  level-empty h =
      let u = v.down (record { each = λ k p q. absurd (omega arith) }) in
      sym (all_of small (b - a) (λ j q. le-leb (leaf t size (a + j)) x (u.each (size + (a + j)) (omega arith) (omega arith))))

pub no-leaves : (t : List ℕ) (size a b x : ℕ) → b ≤ a → true ≡ leaves_up_to t size a b x
unfolding leaves_up_to
no-leaves t size a b x h = sym (all_of (λ j. leb (leaf t size (a + j)) x) (b - a) (λ j q. absurd (omega arith)))

-- Laws of bytes with `!` added or not, in the shapes of the code.
use Prim.Native.Nat.{ℕ, suc, ◌+◌, ◌-◌, ◌<◌}
use mathlib.Core.Path.{◌≡◌, refl, sym, ap, ◌∙◌}
use mathlib.Core.Bool.{Bool, true, false, not, beq, false≢true}
use mathlib.Core.List.{List, [], ◌∷◌, ◌++◌, append-nil}
use native.Mathlib.Omega.{arith}
use lib.ListN.{length, get_or, take, length-append}
use lib.Seq.{take_all, take-suc, take-append_seam, get_or-append_seam, take_at}
use Rattle.text.specs.Same.{same}
use Rattle.text.proofs.SameLaws.{same_refl, same_true, same_false, same-lengths}
use Rattle.lowering.specs.Pools.{bang}
use Rattle.scratch_keys.specs.Keys.{mark_by, marked}
use Rattle.scratch_keys.specs.Bang.{with_bang}

marked-on : (x : List ℕ) → marked x true ≡ with_bang x
unfolding marked mark_by
marked-on x = refl

marked-off : (x : List ℕ) → marked x false ≡ x
unfolding marked mark_by
marked-off x = append-nil x

long : (x : List ℕ) → length (with_bang x) ≡ suc (length x)
long x = length-append x (bang ∷ []) ∙ omega arith

apart : (x y : List ℕ) → same x y ≡ false → x ≡ y → ⊥
apart x y h e = false≢true (sym h ∙ ap (same x) (sym e) ∙ same_refl x)

-- y without its last byte, and that byte
cut : (y : List ℕ) → 0 < length y → y ≡ take (length y - 1) y ++ (get_or y (length y - 1) 0 ∷ [])
cut y h =
    let n : length y ≡ suc (length y - 1) = omega arith in
    sym (take_all (suc (length y - 1)) y (omega arith)) ∙ take-suc y (length y - 1) 0 (omega arith)

module _ (x y : List ℕ) where
  -- x and `!`, against y
  pub bang-none : length y ≡ 0 → same (with_bang x) y ≡ false
  bang-none h = same-lengths (with_bang x) y (λ e. omega (arith, long x))

  bang-other : (length y ≡ 0 → ⊥) → (get_or y (length y - 1) 0 ≡ bang → ⊥) → same (with_bang x) y ≡ false
  bang-other h n =
      same_false (with_bang x) y
      (λ e.
      let l : length y - 1 ≡ length x = omega (arith, long x, ap length e) in
      n (ap (λ (z : List ℕ). get_or z (length y - 1) 0) (sym e)
      ∙ ap (λ (i : ℕ). get_or (with_bang x) i 0) l
      ∙ get_or-append_seam x bang [] 0))

  bang-last : (length y ≡ 0 → ⊥) → get_or y (length y - 1) 0 ≡ bang → same (with_bang x) y ≡ same x (take (length y - 1) y)
  bang-last h e = by (same x (take (length y - 1) y)) refl
    where
      by : (t : Bool) → same x (take (length y - 1) y) ≡ t → same (with_bang x) y ≡ t
      by true k =
          let q : with_bang x ≡ y =
          ap with_bang (same_true x (take (length y - 1) y) k)
          ∙ ap (λ (b : ℕ). take (length y - 1) y ++ (b ∷ [])) (sym e)
          ∙ sym (cut y (omega arith)) in
          ap (λ (z : List ℕ). same z y) q ∙ same_refl y
      by false k =
          same_false (with_bang x) y
          (λ q.
          let l : length x ≡ length y - 1 = omega (arith, long x, ap length q) in
          apart x (take (length y - 1) y) k (sym (take_at x (bang ∷ []) (length y - 1) l) ∙ ap (take (length y - 1)) q))

  -- the same where y is cut before its last byte
  module _ (front : List ℕ) (b : ℕ) (e : y ≡ front ++ (b ∷ [])) (l : length front + 1 ≡ length y) where
    last-at : length y - 1 ≡ length front
    last-at = omega arith

    last-is : get_or y (length y - 1) 0 ≡ b
    last-is =
        ap (λ (z : List ℕ). get_or z (length y - 1) 0) e
        ∙ ap (λ (i : ℕ). get_or (front ++ (b ∷ [])) i 0) last-at
        ∙ get_or-append_seam front b [] 0

    front-is : take (length y - 1) y ≡ front
    front-is =
        ap (λ (z : List ℕ). take (length y - 1) z) e
        ∙ ap (λ (i : ℕ). take i (front ++ (b ∷ []))) last-at
        ∙ take-append_seam front (b ∷ [])

    pub ends-other : (b ≡ bang → ⊥) → same (with_bang x) y ≡ false
    ends-other n = bang-other (λ z. omega arith) (λ q. n (sym last-is ∙ q))

    pub ends-bang : b ≡ bang → same (with_bang x) y ≡ same x front
    ends-bang q = bang-last (λ z. omega arith) (last-is ∙ q) ∙ ap (same x) front-is

  -- texts of one length
  pub texts-differ : (m n : Bool) → length x ≡ length y → same x y ≡ false → same (marked x m) (marked y n) ≡ false
  unfolding marked
  texts-differ m n l h =
      same_false (marked x m) (marked y n)
      (λ e. apart x y h (sym (take-append_seam x _) ∙ ap (take (length x)) e ∙ take_at y _ (length x) (sym l)))

  pub texts_same : (m n : Bool) → same x y ≡ true → same (marked x m) (marked y n) ≡ beq n m
  texts_same true true h = ap (λ (z : List ℕ). same (marked z true) (marked y true)) (same_true x y h) ∙ same_refl (marked y true)
  texts_same true false h =
      same-lengths (marked x true) (marked y false)
      (λ e. omega (arith, ap length (marked-on x), ap length (marked-off y), long x, ap length (same_true x y h)))
  texts_same false false h = ap (λ (z : List ℕ). same (marked z false) (marked y false)) (same_true x y h) ∙ same_refl (marked y false)
  texts_same false true h =
      same-lengths (marked x false) (marked y true)
      (λ e. omega (arith, ap length (marked-on y), ap length (marked-off x), long y, ap length (same_true x y h)))

  -- texts of different lengths: one of them has to have the mark, and the other not
  both-on : (length x ≡ length y → ⊥) → same (marked x true) (marked y true) ≡ false
  both-on n =
      same-lengths (marked x true) (marked y true)
      (λ e. n (omega (arith, ap length (marked-on x), ap length (marked-on y), long x, long y)))

  both-off : (length x ≡ length y → ⊥) → same (marked x false) (marked y false) ≡ false
  both-off n =
      same-lengths (marked x false) (marked y false)
      (λ e. n (omega (arith, ap length (marked-off x), ap length (marked-off y))))

  swap : (a b : List ℕ) → same a b ≡ same b a
  swap a b = by (same a b) refl
    where
      by : (t : Bool) → same a b ≡ t → t ≡ same b a
      by true h = sym (ap (λ (z : List ℕ). same b z) (same_true a b h) ∙ same_refl b)
      by false h = sym (same_false b a (λ e. apart a b h (sym e)))

  one_on : same (marked x true) (marked y false) ≡ same (with_bang x) y
  one_on = rw (marked-on x, marked-off y)

  one-off : same (marked x false) (marked y true) ≡ same (with_bang y) x
  one-off = rw (marked-off x, marked-on y) (swap x (with_bang y))

  pub longer-on : (n : Bool) → (length x ≡ length y → ⊥) → same (with_bang x) y ≡ true → same (marked x true) (marked y n) ≡ not n
  longer-on true l h = both-on l
  longer-on false l h = one_on ∙ h

  pub longer-on-not : (n : Bool) → (length x ≡ length y → ⊥) → same (with_bang x) y ≡ false → same (marked x true) (marked y n) ≡ false
  longer-on-not true l h = both-on l
  longer-on-not false l h = one_on ∙ h

  pub longer-off : (n : Bool) → (length x ≡ length y → ⊥) → same (with_bang y) x ≡ true → same (marked x false) (marked y n) ≡ n
  longer-off true l h = one-off ∙ h
  longer-off false l h = both-off l

  pub longer-off-not : (n : Bool) → (length x ≡ length y → ⊥) → same (with_bang y) x ≡ false → same (marked x false) (marked y n) ≡ false
  longer-off-not true l h = one-off ∙ h
  longer-off-not false l h = both-off l

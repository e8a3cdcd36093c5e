-- All rows of a table are come to, though rows that were seen before are passed over.
use Prim.Native.Nat.{ℕ, zero, suc, ◌+◌, ◌-◌, ◌≤◌, ◌<◌, max}
use mathlib.Core.Path.{◌≡◌, refl, sym, ap, ◌∙◌, subst}
use mathlib.Core.Bool.{Bool, true, false}
use mathlib.Core.List.{List}
use native.Mathlib.Omega.{arith}
use native.Mathlib.Numerals.{add-one}
use lib.Dec.{eqb, ltb}
use lib.ListN.{length, get_or, set, length-set, get_or-eq_default}
use lib.Seq.{get_or-set_same, get_or-set_other}
use borrow.Author.Tests.{eqb-true, eqb-false, ltb-true, ltb-false}
use Rattle.lowering.specs.Words.{word, switch_word}
use Rattle.lowering.specs.Run.{row_target}
use Rattle.image_rule.specs.Marks.{mark, come, comes}
use Rattle.image_rule.proofs.ComeLaws.{come-new, come-old, come-keeps, come-length, comes-keep}
use Rattle.image_rows.specs.AllRows.{row_of, first_row, Pooled}
use Rattle.image_rows.specs.Scratch.{Settled, Seen, Did, Does, Stepped}
use Rattle.image_rows.proofs.ReadLaws.{row-of}
use Rattle.image_rows.proofs.ScratchLaws.{come-past}

-- what is settled stays so, and changes nothing
settled-come : (m : ℕ) (l : List ℕ) (u t : ℕ) → Settled l t → Settled (come m l u) t
settled-come m l u t S h z = by (mark l t) refl
  where
    by : (d : ℕ) → mark l t ≡ d → ⊥
    by zero e = S (omega (arith, come-length m l u)) e
    by (suc d) e = omega (arith, come-keeps m l u t d e)

settled-comes : (m : ℕ) (f : ℕ → ℕ) (k : ℕ) (l : List ℕ) (t : ℕ) → Settled l t → Settled (comes m f k l) t
settled-comes m f k l t S = comes-keep (λ x. Settled x t) m f k (λ r b x T. settled-come m x (f r) t T) l S

-- a place that was come to is settled
pub settled-there : (m : ℕ) (l : List ℕ) (t : ℕ) → 0 < m → Settled (come m l t) t
settled-there m l t p h z = by (mark l t) refl
  where
    by : (d : ℕ) → mark l t ≡ d → ⊥
    by zero e =
        let new = get_or-set_same l t m 0 (omega (arith, come-length m l t)) in
        omega (arith, ap (λ (x : List ℕ). mark x t) (come-new m l t e))
    by (suc d) e = omega (arith, come-keeps m l t t d e)

-- all rows are settled once all were come to
settled-rows : (m : ℕ) (f : ℕ → ℕ) (k : ℕ) (l : List ℕ) → 0 < m → (r : ℕ) → r < k → Settled (comes m f k l) (f r)
unfolding comes
settled-rows m f zero l p r h = absurd (omega arith)
settled-rows m f (suc k) l p r h = by (settled-rows m f k l p) (ltb r k) refl
  where
    by : ((r : ℕ) → r < k → Settled (comes m f k l) (f r)) → (b : Bool) → ltb r k ≡ b → Settled (come m (comes m f k l) (f k)) (f r)
    by below true e = settled-come m (comes m f k l) (f k) (f r) (below r (ltb-true r k e))
    by below false e =
        let same : k ≡ r = omega (arith, ltb-false r k e) in
        subst (λ (j : ℕ). Settled (come m (comes m f k l) (f k)) (f j)) same (settled-there m (comes m f k l) (f k) p)

-- coming to a settled place changes nothing
pub come-settled : (m : ℕ) (l : List ℕ) (t : ℕ) → Settled l t → come m l t ≡ l
come-settled m l t S = by (ltb t (length l)) refl
  where
    by : (b : Bool) → ltb t (length l) ≡ b → come m l t ≡ l
    by true e = come-old m l t (S (ltb-true t (length l) e))
    by false e = come-past m l t (ltb-false t (length l) e)

-- one more row
comes-more : (m : ℕ) (f : ℕ → ℕ) (k : ℕ) (l : List ℕ) → comes m f (k + 1) l ≡ come m (comes m f k l) (f k)
unfolding comes
comes-more m f k l = rw add-one refl

-- rows that are settled may be passed over
comes-skip : (m : ℕ) (f : ℕ → ℕ) (k n : ℕ) (l : List ℕ) → ((r : ℕ) → k ≤ r → r < k + n → Settled (comes m f k l) (f r))
    → comes m f (k + n) l ≡ comes m f k l
unfolding comes
comes-skip m f k zero l S = let e : k + zero ≡ k = omega arith in ap (λ (j : ℕ). comes m f j l) e
comes-skip m f k (suc n) l S =
    let e : k + suc n ≡ suc (k + n) = omega arith in
    ap (λ (j : ℕ). comes m f j l) e
    ∙ ap (λ (x : List ℕ). come m x (f (k + n))) (comes-skip m f k n l (λ r a b. S r a (omega arith)))
    ∙ come-settled m (comes m f k l) (f (k + n)) (S (k + n) (omega arith) (omega arith))

-- rows with the same targets
pub comes-same : (m : ℕ) (f g : ℕ → ℕ) (k : ℕ) (l : List ℕ) → ((r : ℕ) → r < k → f r ≡ g r) → comes m f k l ≡ comes m g k l
unfolding comes
comes-same m f g zero l h = refl
comes-same m f g (suc k) l h =
    ap (λ (x : List ℕ). come m x (f k)) (comes-same m f g k l (λ r b. h r (omega arith))) ∙ ap (come m (comes m g k l)) (h k (omega arith))

-- what is read where v was stored is at most v
set-most : (l : List ℕ) (k v : ℕ) → get_or (set l k v) k 0 ≤ v
set-most l k v = by (ltb k (length l)) refl
  where
    by : (b : Bool) → ltb k (length l) ≡ b → get_or (set l k v) k 0 ≤ v
    by true e = omega (arith, get_or-set_same l k v 0 (ltb-true k (length l) e))
    by false e =
        let past : length (set l k v) ≤ k = omega (arith, length-set l k v, ltb-false k (length l) e) in
        omega (arith, get_or-eq_default (set l k v) 0 past)

-- the rows of the list, from one of them on
abbrev pub rows_from : List ℕ → ℕ → ℕ → ℕ
rows_from w first j = row_of w (first + j)

-- r rows of a table are passed, from the marks l₀ and the words n₀ on: the words of rows tell what will hold once all are
pub record Going (w : List ℕ) (m first rows : ℕ) (l₀ n₀ : List ℕ) (r : ℕ) (l n : List ℕ) : Type 0 where
  pub marks : l ≡ comes m (rows_from w first) r l₀
  pub ahead : (q : ℕ) → first + r ≤ q → word n q ≡ word n₀ q
  pub seen : (q j : ℕ) → q ≤ j → j < q + word n q → Settled (comes m (rows_from w first) rows l₀) (row_of w j)

module _ (w : List ℕ) (m first rows : ℕ) (l₀ n₀ : List ℕ) where
  -- no row is passed
  pub going_start : Seen w l₀ n₀ → Going w m first rows l₀ n₀ 0 l₀ n₀
  unfolding comes
  going_start S = record {
    marks = refl;
    ahead = λ q h. refl;
    seen = λ q j a b. settled-comes m (rows_from w first) rows l₀ (row_of w j) (S.seen q j a b);
  }

  module _ (r s : ℕ) (l n l' n' : List ℕ) (p : 0 < m) (S : Seen w l₀ n₀) (h : r < rows) (G : Going w m first rows l₀ n₀ r l n)
      (T : Stepped w m (first + r) (rows - r) s l n l' n') where
    -- what was noted of this row tells of the words n₀
    was : word n (first + r) ≡ word n₀ (first + r)
    was = G.ahead (first + r) (omega arith)

    -- a row, seen before or not: the marks
    step-marks : (b : Bool) → eqb (word n (first + r)) 0 ≡ b → (0 < s) × (l' ≡ comes m (rows_from w first) (r + s) l₀)
    step-marks true e =
        let t = T.fresh (eqb-true (word n (first + r)) 0 e) in
        let one : r + 1 ≡ r + s = omega (arith, t.0) in (
          omega (arith, t.0),
          t.1 ∙ ap (λ (x : List ℕ). come m x (row_of w (first + r))) G.marks
              ∙ sym (comes-more m (rows_from w first) r l₀) ∙ ap (λ (j : ℕ). comes m (rows_from w first) j l₀) one,
        )
    step-marks false e =
        let z = eqb-false (word n (first + r)) 0 e in
        let t = T.again z in
        let some : 0 < word n (first + r) = omega (arith, z) in (
          omega (arith, t.0),
          t.1 ∙ G.marks
              ∙ sym (comes-skip m (rows_from w first) r s l₀ (λ j a b.
              settled-comes m (rows_from w first) r l₀ (row_of w (first + j))
              (S.seen (first + r) (first + j) (omega arith) (omega (arith, t.0, was))))),
        )

    -- only the word of this row changes
    noted-else : (q : ℕ) → (q ≡ first + r → ⊥) → word n' q ≡ word n q
    noted-else q d =
        ap (λ (x : List ℕ). word x q) T.rest ∙ get_or-set_other n (first + r) q (max (word n (first + r)) (rows - r)) 0 d

    -- and it is at most the greater of the two
    noted_here : word n' (first + r) ≤ max (word n (first + r)) (rows - r)
    noted_here =
        subst (λ (x : List ℕ). word x (first + r) ≤ max (word n (first + r)) (rows - r)) (sym T.rest)
        (set-most n (first + r) (max (word n (first + r)) (rows - r)))

    -- what it tells holds once all rows are passed
    settled_here : (j : ℕ) → first + r ≤ j → j < first + r + word n' (first + r) → Settled (comes m (rows_from w first) rows l₀) (row_of w j)
    settled_here j a b = by (ltb j (first + rows)) refl
      where
        by : (t : Bool) → ltb j (first + rows) ≡ t → Settled (comes m (rows_from w first) rows l₀) (row_of w j)
        by true e =
            let inside = ltb-true j (first + rows) e in
            let same : first + (j - first) ≡ j = omega arith in
            subst (λ (i : ℕ). Settled (comes m (rows_from w first) rows l₀) (row_of w i)) same
            (settled-rows m (rows_from w first) rows l₀ p (j - first) (omega arith))
        by false e =
            let past = ltb-false j (first + rows) e in
            settled-comes m (rows_from w first) rows l₀ (row_of w j) (S.seen (first + r) j a (omega (arith, noted_here, was)))

    -- what all words of rows tell
    step-seen : (q j : ℕ) → q ≤ j → j < q + word n' q → Settled (comes m (rows_from w first) rows l₀) (row_of w j)
    step-seen q j a b = by (eqb q (first + r)) refl
      where
        by : (t : Bool) → eqb q (first + r) ≡ t → Settled (comes m (rows_from w first) rows l₀) (row_of w j)
        by true e =
            let same = eqb-true q (first + r) e in
            settled_here j (omega arith) (subst (λ (i : ℕ). j < i + word n' i) same b)
        by false e = G.seen q j a (subst (λ (x : ℕ). j < q + x) (noted-else q (eqb-false q (first + r) e)) b)

    -- s more rows are passed
    pub going_on : Going w m first rows l₀ n₀ (r + s) l' n'
    going_on =
        let t = step-marks (eqb (word n (first + r)) 0) refl in
        record {
          marks = t.1;
          ahead = λ q a. noted-else q (λ e. omega (arith, t.0)) ∙ G.ahead q (omega arith);
          seen = step-seen;
        }

  -- all rows are passed
  pub going_done : (i r : ℕ) (l n : List ℕ) → r ≡ rows → first ≡ first_row w i → rows ≡ switch_word w i 2 → Pooled w i
      → Going w m first rows l₀ n₀ r l n → Did w (comes m (row_target w i) (switch_word w i 2)) l₀ l n
  going_done i r l n e a b P G = record {
    marks = all ∙ ap (λ (k : ℕ). comes m (rows_from w first) k l₀) b ∙ comes-same m (rows_from w first) (row_target w i)
        (switch_word w i 2) l₀ (λ j h. ap (λ (x : ℕ). row_of w (x + j)) a ∙ sym (row-of w i j P h));
    seen = record { seen = λ q j c d. subst (λ (x : List ℕ). Settled x (row_of w j)) (sym all) (G.seen q j c d) };
  }
    where
      all : l ≡ comes m (rows_from w first) rows l₀
      all = G.marks ∙ ap (λ (k : ℕ). comes m (rows_from w first) k l₀) e

-- changes of the marks, one after another
pub did_none : (w l n : List ℕ) → Does w (λ a. a) l n l n
did_none w l n S = record { marks = refl; seen = S }

pub did-come : (w : List ℕ) (m t : ℕ) (l n l' : List ℕ) → l' ≡ come m l t → Does w (λ a. come m a t) l n l' n
did-come w m t l n l' e S = record {
  marks = e;
  seen = record { seen = λ q j a b. subst (λ (x : List ℕ). Settled x (row_of w j)) (sym e) (settled-come m l t (row_of w j) (S.seen q j a b)) };
}

pub did-both : (w : List ℕ) (F G : List ℕ → List ℕ) (l n l₁ n₁ l₂ n₂ : List ℕ) → Does w F l n l₁ n₁ → Does w G l₁ n₁ l₂ n₂
    → Does w (λ a. G (F a)) l n l₂ n₂
did-both w F G l n l₁ n₁ l₂ n₂ D E S =
    let d = D S in
    let e = E d.seen in
    record { marks = e.marks ∙ ap G d.marks; seen = e.seen }

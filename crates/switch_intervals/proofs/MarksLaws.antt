-- Marks of the pieces where some span starts or ends, put span by span. Shown: what is marked is what `changes_at` says.
-- Assumed: both numbers of a span are below the length.
use Prim.Native.Nat.{ℕ, ◌<◌, ◌≤◌}
use mathlib.Core.Path.{◌≡◌, refl, sym, ◌∙◌, ap}
use mathlib.Core.Bool.{Bool, true, false, ◌||◌, or-true, or-false}
use mathlib.Core.List.{List, [], ◌∷◌, ◌++◌}
use native.Mathlib.Omega.{arith}
use lib.Dec.{eqb}
use lib.ListN.{length, get_or, set, take, length-set}
use lib.Seq.{get_or-set_same, get_or-set_other, get_or-take, length-take-le}
use borrow.Author.Tests.{eqb-true, eqb-false}
use Rattle.switch_tables.specs.Spans.{Span, changes_at}
use Rattle.switch_intervals.specs.Marks.{Marked, with_marks}

or-over : (a b c d : Bool) → (a || ((b || c) || d)) ≡ (((a || b) || c) || d)
or-over true b c d = refl
or-over false b c d = refl

changes-snoc : (j : ℕ) (xs : List Span) (x : Span)
    → changes_at j (xs ++ (x ∷ [])) ≡ ((changes_at j xs || eqb x.first j) || eqb x.behind j)
unfolding changes_at
changes-snoc j [] x = or-false (eqb x.first j || eqb x.behind j)
changes-snoc j (y ∷ ys) x =
    ap (λ (t : Bool). (eqb y.first j || eqb y.behind j) || t) (changes-snoc j ys x)
    ∙ or-over (eqb y.first j || eqb y.behind j) (changes_at j ys) (eqb x.first j) (eqb x.behind j)

-- one mark more
mark-at : (m : List ℕ) (p j : ℕ) → p < length m → eqb (get_or (set m p 1) j 0) 1 ≡ (eqb (get_or m j 0) 1 || eqb p j)
mark-at m p j l = by (eqb p j) refl
  where
    by : (t : Bool) → eqb p j ≡ t → eqb (get_or (set m p 1) j 0) 1 ≡ (eqb (get_or m j 0) 1 || t)
    by true e = rw (← eqb-true p j e, get_or-set_same m p 1 0 l) (sym (or-true (eqb (get_or m p 0) 1)))
    by false e = rw (get_or-set_other m p j 1 0 (λ q. eqb-false p j e (sym q))) (sym (or-false (eqb (get_or m j 0) 1)))

pub marked_start : (m : List ℕ) → ((j : ℕ) → j < length m → get_or m j 0 ≡ 0) → Marked m []
unfolding changes_at
marked_start m h = record { marks = λ j l. ap (λ (v : ℕ). eqb v 1) (h j l) }

-- the first n pieces
pub marked-first : (m : List ℕ) (n : ℕ) (xs : List Span) → n ≤ length m → Marked m xs → Marked (take n m) xs
marked-first m n xs few c =
    let long : length (take n m) ≡ n = length-take-le n m few in
    record { marks = λ j l. ap (λ (v : ℕ). eqb v 1) (get_or-take n m j 0 (omega arith)) ∙ c.marks j (omega arith) }

pub marked-on : (m : List ℕ) (xs : List Span) → Marked m xs → (x : Span) → x.first < length m → x.behind < length m
    → Marked (with_marks m x) (xs ++ (x ∷ []))
unfolding with_marks
marked-on m xs c x f b =
    let one = set m x.first 1 in
    let long : length one ≡ length m = length-set m x.first 1 in
    let all : length (set one x.behind 1) ≡ length m = length-set one x.behind 1 ∙ long in
    record {
      marks = λ j l.
          mark-at one x.behind j (omega arith)
          ∙ ap (λ (t : Bool). t || eqb x.behind j)
          (mark-at m x.first j f ∙ ap (λ (t : Bool). t || eqb x.first j) (c.marks j (omega arith)))
          ∙ sym (changes-snoc j xs x);
    }

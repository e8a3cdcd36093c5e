-- Laws of a list that is written from a place on: parts one behind the other, and parts that do not fit.
use Prim.Native.Nat.{ℕ, ◌+◌, ◌-◌, ◌≤◌, ◌<◌}
use mathlib.Core.Path.{◌≡◌, sym, ap, ap₂, ◌∙◌}
use mathlib.Core.List.{List, ◌++◌, append_assoc}
use native.Mathlib.Omega.{arith}
use lib.ListN.{length, take, drop, length-append, length-drop}
use lib.Seq.{drop-drop, length-take-le}
use Rattle.write_sections.specs.Put.{put_part}
use Rattle.write_sections.proofs.PutLaws.{put-behind}
use Rattle.write_front.specs.Puts.{Puts}

-- the part that is written is as long as it should be
pub puts-part :
    (x : List ℕ) (at k : ℕ) (ws ys : List ℕ) → ws ≡ ys → length ys ≡ k → Puts x (put_part x at ((at + k) - at) ws) at (at + k) ys
puts-part x at k ws ys e n =
    let d : (at + k) - at ≡ length ys = omega arith in
    record { whole = λ h. ap₂ (λ (j : ℕ) (zs : List ℕ). put_part x at j zs) d e; end = λ h. omega arith }

-- what does not fit is left out
pub puts_none : (x : List ℕ) (at : ℕ) (ys : List ℕ) → length x < at + length ys → Puts x x at at ys
puts_none x at ys f = record { whole = λ h. absurd (omega arith); end = λ h. absurd (omega arith) }

-- the same words
pub puts-as : {x y : List ℕ} {at r : ℕ} (ys zs : List ℕ) → ys ≡ zs → Puts x y at r ys → Puts x y at r zs
puts-as ys zs e p = rw (sym e) p

put-length : (x ys : List ℕ) (at : ℕ) → at + length ys ≤ length x → length (put_part x at (length ys) ys) ≡ length x
put-length x ys at h =
    let d = drop (length ys) (drop at x) in
    omega (
      arith,
      length-append (take at x) (ys ++ d),
      length-append ys d,
      length-take-le at x (omega arith),
      length-drop (length ys) (drop at x),
      length-drop at x,
    )

-- one list behind another
module _ {x y z : List ℕ} {at m r : ℕ} (ys zs : List ℕ) (p : Puts x y at m ys) (q : Puts y z m r zs) where
  module _ (h : at + length ys + length zs ≤ length x) where
    first : y ≡ put_part x at (length ys) ys
    first = p.whole (omega arith)

    place : m ≡ at + length ys
    place = p.end (omega arith)

    room : m + length zs ≤ length y
    room = omega (arith, ap length first ∙ put-length x ys at (omega arith), place)

    done : length (take at x ++ ys) ≡ m
    done = omega (arith, length-append (take at x) ys, length-take-le at x (omega arith), place)

    both_end : r ≡ at + length (ys ++ zs)
    both_end = omega (arith, q.end room, place, length-append ys zs)

    both-whole : z ≡ put_part x at (length (ys ++ zs)) (ys ++ zs)
    both-whole =
        let t = take at x in
        let d = drop (length ys) (drop at x) in
        q.whole room
        ∙ put-behind y (t ++ ys) d zs m (length zs) (first ∙ sym (append_assoc t ys d)) done
        ∙ ap₂ (λ (l k : List ℕ). l ++ k) (append_assoc t ys zs)
        (drop-drop (length zs) (length ys) (drop at x) ∙ ap (λ (i : ℕ). drop i (drop at x)) (sym (length-append ys zs)))
        ∙ append_assoc t (ys ++ zs) (drop (length (ys ++ zs)) (drop at x))

  pub puts-next : Puts x z at r (ys ++ zs)
  puts-next =
      let n = length-append ys zs in
      record { whole = λ h. both-whole (omega arith); end = λ h. both_end (omega arith) }

-- what is written at the start
pub puts-start : {x y : List ℕ} {r : ℕ} (ys : List ℕ) → Puts x y 0 r ys → length ys ≤ length x → y ≡ ys ++ drop (length ys) x
puts-start ys p h = p.whole (omega arith)

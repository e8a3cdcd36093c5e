-- Laws of a list that is written in place: a part that is written leaves the rest, so parts that are written one after another are
-- followed by what stood behind them.
use Prim.Native.Nat.{ℕ, ◌+◌, ◌≤◌, ◌<◌}
use mathlib.Core.Path.{◌≡◌, refl, sym, ap, ap₂, ◌∙◌}
use mathlib.Core.List.{List, [], ◌∷◌, ◌++◌, append_assoc, append-nil}
use native.Mathlib.Omega.{arith}
use lib.ListN.{length, take, drop, set, length-append, length-drop}
use lib.Seq.{length-take-le, take_at, drop_at, drop-drop, drop-length, sets, sets-eq}
use Rattle.write_sections.specs.Written.{Written}
use Rattle.write_sections.specs.Put.{put_part}

-- ys in the place of k elements, behind what is done
pub put-behind : (x done rest ys : List ℕ) (a k : ℕ) → x ≡ done ++ rest → length done ≡ a → put_part x a k ys ≡ (done ++ ys) ++ drop k rest
put-behind x done rest ys a k e l =
    ap (λ (z : List ℕ). put_part z a k ys) e
    ∙ ap₂ (λ (p q : List ℕ). p ++ (ys ++ drop k q)) (take_at done rest a l) (drop_at done rest a l)
    ∙ sym (append_assoc done ys (drop k rest))

-- as many elements as before stand in a part
pub put-length :
    (x ys : List ℕ) (a k : ℕ) → a + k ≤ length x → length ys ≡ length (take k (drop a x)) → length (put_part x a k ys) ≡ length x
put-length x ys a k h e =
    let d = drop k (drop a x) in
    omega (
      arith,
      e,
      length-append (take a x) (ys ++ d),
      length-append ys d,
      length-take-le a x (omega arith),
      length-take-le k (drop a x) (omega (arith, length-drop a x)),
      length-drop k (drop a x),
      length-drop a x,
    )

-- nothing is written
pub written_none : (x : List ℕ) → Written x x []
written_none x = record { whole = refl; fits = omega arith }

-- one part more
pub written_next :
    {x₀ x done : List ℕ} → Written x₀ x done → (a k : ℕ) (ys : List ℕ) → length done ≡ a → length ys ≡ k → a + k ≤ length x₀
    → Written x₀ (put_part x a k ys) (done ++ ys)
written_next {x₀} {x} {done} w a k ys l m h =
    let n : length done + k ≡ length (done ++ ys) = omega (arith, length-append done ys) in
    record {
      whole =
          put-behind x done (drop (length done) x₀) ys a k w.whole l
          ∙ ap (λ (z : List ℕ). (done ++ ys) ++ z) (drop-drop k (length done) x₀ ∙ ap (λ (i : ℕ). drop i x₀) n);
      fits = omega arith;
    }

pub written-length : {x₀ x done : List ℕ} → Written x₀ x done → length x ≡ length x₀
written-length {x₀} {x} {done} w =
    ap length w.whole ∙ length-append done (drop (length done) x₀) ∙ omega (arith, length-drop (length done) x₀, w.fits)

-- all is written
pub written_all : {x₀ x done : List ℕ} → Written x₀ x done → length done ≡ length x₀ → x ≡ done
written_all {x₀} {x} {done} w l =
    w.whole ∙ ap (λ (z : List ℕ). done ++ z) (ap (λ (i : ℕ). drop i x₀) l ∙ drop-length x₀) ∙ append-nil done

-- a run of stores
pub puts : (vs l : List ℕ) (i k : ℕ) → length vs ≡ k → i + k ≤ length l → sets l i vs ≡ put_part l i k vs
puts vs l i k e h =
    sets-eq vs l i (omega arith)
    ∙ append_assoc (take i l) vs (drop (i + length vs) l)
    ∙ ap (λ (z : List ℕ). take i l ++ (vs ++ z)) (ap (λ (n : ℕ). drop (i + n) l) e ∙ sym (drop-drop k i l))

module _ (l : List ℕ) (i : ℕ) where
  put_one : (a : ℕ) → i + 1 ≤ length l → set l i a ≡ put_part l i 1 (a ∷ [])
  put_one a h = puts (a ∷ []) l i 1 refl h

-- one word more
pub written_one : {x₀ x done : List ℕ} → Written x₀ x done → (i v : ℕ) → length done ≡ i → i < length x₀
    → Written x₀ (set x i v) (done ++ (v ∷ []))
written_one {x₀} {x} {done} w i v l h =
    let n = written-length w in
    let r = written_next w i 1 (v ∷ []) l refl (omega arith) in
    record { whole = put_one x i v (omega arith) ∙ r.whole; fits = r.fits }

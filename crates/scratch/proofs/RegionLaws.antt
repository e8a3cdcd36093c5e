-- A part of the scratch after a word is written: before it and behind it nothing changes, at its end it grows.
use Prim.Native.Nat.{ℕ, suc, ◌+◌, ◌-◌, ◌≤◌, ◌<◌}
use mathlib.Core.Path.{◌≡◌, refl, sym, ap, ◌∙◌}
use mathlib.Core.List.{List, [], ◌∷◌, ◌++◌, append-nil}
use native.Mathlib.Omega.{arith}
use native.Mathlib.Decide.{dec_lt}
use native.Mathlib.Numerals.{add-one}
use native.Mathlib.Nat.{add-zero}
use lib.ListN.{length, get_or, set, take, drop, length-drop, length-set}
use lib.Seq.{sets, append_snoc, take-set-le, drop-set-lt, drop-set-add, take-suc-set}
use lib.Seq.{take-take, take_at, length-take-le, get_or-take, get_or-drop}
use Rattle.words.proofs.PartLaws.{part-between}
use Rattle.scratch.specs.Places.{region}

pub region-length : (at k : ℕ) (xs : List ℕ) → at + k ≤ length xs → length (region at k xs) ≡ k
unfolding region
region-length at k xs h = length-take-le k (drop at xs) (rw length-drop (omega arith))

pub region-at : (at k e : ℕ) (xs : List ℕ) → e < k → get_or (region at k xs) e 0 ≡ get_or xs (at + e) 0
unfolding region
region-at at k e xs h = get_or-take k (drop at xs) e 0 h ∙ get_or-drop at xs e 0

module _ (at k i v : ℕ) (xs : List ℕ) where
  pub region-before : i < at → region at k (set xs i v) ≡ region at k xs
  unfolding region
  region-before h = ap (take k) (drop-set-lt at xs i v h)

  pub region-behind : at + k ≤ i → region at k (set xs i v) ≡ region at k xs
  unfolding region
  region-behind h =
      let e : i ≡ at + (i - at) = omega arith in
      ap (λ (j : ℕ). take k (drop at (set xs j v))) e
      ∙ ap (take k) (drop-set-add at xs (i - at) v)
      ∙ take-set-le k (drop at xs) (i - at) v (omega arith)

  pub region-push : at + k ≡ i → i < length xs → region at (k + 1) (set xs i v) ≡ region at k xs ++ (v ∷ [])
  unfolding region
  region-push e h =
      ap (λ (j : ℕ). take (k + 1) (drop at (set xs j v))) (sym e)
      ∙ ap (take (k + 1)) (drop-set-add at xs k v)
      ∙ ap (λ (m : ℕ). take m (set (drop at xs) k v)) (add-one k)
      ∙ take-suc-set (drop at xs) k v (rw length-drop (omega arith))

-- a word that is none of the part's
pub region-off : (at k i v : ℕ) (xs : List ℕ) → ((e : ℕ) → e < k → at + e ≡ i → ⊥) → region at k (set xs i v) ≡ region at k xs
region-off at k i v xs off = by (dec_lt i at) (dec_lt i (at + k))
  where
    by : Dec (i < at) → Dec (i < at + k) → region at k (set xs i v) ≡ region at k xs
    by (yes l) m = region-before at k i v xs l
    by (no l) (yes m) = absurd (off (i - at) (omega arith) (omega arith))
    by (no l) (no m) = region-behind at k i v xs (omega arith)

-- the front of a part
pub region-front : (at m k : ℕ) (xs ys zs : List ℕ) → region at k xs ≡ ys ++ zs → m ≤ k → length ys ≡ m → region at m xs ≡ ys
unfolding region
region-front at m k xs ys zs e h l =
    sym (take-take m k (drop at xs) h) ∙ ap (take m) e ∙ take_at ys zs m l

-- several words
pub regions-before : (at k i : ℕ) (vs xs : List ℕ) → i + length vs ≤ at → region at k (sets xs i vs) ≡ region at k xs
regions-before at k i [] xs h = refl
regions-before at k i (v ∷ vs) xs h =
    regions-before at k (suc i) vs (set xs i v) (omega arith) ∙ region-before at k i v xs (omega arith)

pub regions-push :
    (at k i : ℕ) (vs xs : List ℕ) → at + k ≡ i → i + length vs ≤ length xs
    → region at (k + length vs) (sets xs i vs) ≡ region at k xs ++ vs
regions-push at k i [] xs e h = rw (add-zero, append-nil)
regions-push at k i (v ∷ vs) xs e h =
    let n : k + suc (length vs) ≡ (k + 1) + length vs = omega arith in
    let room : suc i + length vs ≤ length (set xs i v) = rw length-set (omega arith) in
    ap (λ (m : ℕ). region at m (sets (set xs i v) (suc i) vs)) n
    ∙ regions-push at (k + 1) (suc i) vs (set xs i v) (omega arith) room
    ∙ ap (λ (l : List ℕ). l ++ vs) (region-push at k i v xs e (omega arith))
    ∙ append_snoc (region at k xs) v vs

-- a part by its start and its end
pub part-is : (p at n : ℕ) (xs : List ℕ) → p ≡ at → take ((p + n) - p) (drop p xs) ≡ region at n xs
unfolding region
part-is p at n xs e = part-between xs p n ∙ ap (λ (i : ℕ). take n (drop i xs)) e

-- The first key that passes a test, over the keys and over what they stand for.
use Prim.Native.Nat.{ℕ, zero, suc, ◌<◌}
use mathlib.Core.Path.{◌≡◌, refl, sym, ap, ◌∙◌}
use mathlib.Core.Bool.{Bool, true, false}
use mathlib.Core.List.{List, [], ◌∷◌, map}
use native.Mathlib.Omega.{arith}
use lib.ListN.{length, get_or}
use Rattle.lowering.proofs.FirstLaws.{first-here, first-later}
use Rattle.lowering.specs.Pools.{first_where}

-- over `map`
pub first-map : {A : Type 0} (test : A → Bool) (f : ℕ → A) (ks : List ℕ)
    → first_where test (map f ks) ≡ first_where (λ (k : ℕ). test (f k)) ks
unfolding first_where
first-map test f [] = refl
first-map test f (k ∷ ks) = by (test (f k)) refl (first-map test f ks)
  where
    by :
        (t : Bool) → test (f k) ≡ t → first_where test (map f ks) ≡ first_where (λ (x : ℕ). test (f x)) ks
        → first_where test (f k ∷ map f ks) ≡ first_where (λ (x : ℕ). test (f x)) (k ∷ ks)
    by true h r = first-here test (f k) (map f ks) h ∙ sym (first-here (λ (x : ℕ). test (f x)) k ks h)
    by false h r = first-later test (f k) (map f ks) h ∙ ap suc r ∙ sym (first-later (λ (x : ℕ). test (f x)) k ks h)

-- where none is found, no key passes
pub none_pass : (P : ℕ → Bool) (ks : List ℕ) → first_where P ks ≡ length ks → (i : ℕ) → i < length ks → P (get_or ks i 0) ≡ false
none_pass P [] e = λ i h. absurd (omega arith)
none_pass P (k ∷ ks) e = by (P k) refl (λ r. none_pass P ks r)
  where
    by :
        (t : Bool) → P k ≡ t → (first_where P ks ≡ length ks → (i : ℕ) → i < length ks → P (get_or ks i 0) ≡ false)
        → (i : ℕ) → i < length (k ∷ ks) → P (get_or (k ∷ ks) i 0) ≡ false
    by true h r i l = absurd (omega (arith, first-here P k ks h, e))
    by false h r zero l = h
    by false h r (suc i) l = r (omega (arith, first-later P k ks h, e)) i (omega arith)

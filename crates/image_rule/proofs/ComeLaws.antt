-- What coming to a place changes: at most the mark there, and no mark that is there already.
use Prim.Native.Nat.{ℕ, zero, suc, ◌<◌}
use mathlib.Core.Path.{◌≡◌, refl, sym, ap, ◌∙◌, subst}
use mathlib.Core.Bool.{Bool, true, false}
use mathlib.Core.List.{List}
use native.Mathlib.Omega.{arith}
use borrow.Author.Tests.{eqb-true, eqb-false, eq-eqb, ne_eqb, ltb-true, ltb-false}
use lib.Dec.{eqb, ltb}
use lib.ListN.{length, set, length-set, get_or-eq_default}
use lib.Seq.{get_or-set_same, get_or-set_other}
use Rattle.image_rule.specs.Marks.{mark, come, comes}

-- a place without a mark gets one
pub come-new : (m : ℕ) (l : List ℕ) (t : ℕ) → mark l t ≡ 0 → come m l t ≡ set l t m
unfolding come
come-new m l t e = rw (eq-eqb (mark l t) 0 e, come)

-- a place with a mark keeps it
pub come-old : (m : ℕ) (l : List ℕ) (t : ℕ) → (mark l t ≡ 0 → ⊥) → come m l t ≡ l
unfolding come
come-old m l t e = rw (ne_eqb (mark l t) 0 e, come)

-- a mark is what it was, or it is the new one
pub data Came (m : ℕ) (l : List ℕ) (t j : ℕ) : Type 0 where
  kept : mark (come m l t) j ≡ mark l j → Came m l t j
  new : j ≡ t → mark l j ≡ 0 → mark (come m l t) j ≡ m → Came m l t j

-- one of the two holds for each j
pub came : (m : ℕ) (l : List ℕ) (t j : ℕ) → Came m l t j
came m l t j = by (eqb (mark l t) 0) refl
  where
    by_length : mark l t ≡ 0 → j ≡ t → (b : Bool) → ltb t (length l) ≡ b → Came m l t j
    by_length z e true h =
        new e (subst (λ (k : ℕ). mark l k ≡ 0) (sym e) z)
        (subst (λ (k : ℕ). mark (come m l t) k ≡ m) (sym e)
        (ap (λ (x : List ℕ). mark x t) (come-new m l t z) ∙ get_or-set_same l t m 0 (ltb-true t (length l) h)))
    by_length z e false h =
        kept (subst (λ (k : ℕ). mark (come m l t) k ≡ mark l k) (sym e)
        (ap (λ (x : List ℕ). mark x t) (come-new m l t z)
        ∙ get_or-eq_default (set l t m) 0 (omega (arith, length-set l t m, ltb-false t (length l) h))
        ∙ sym z))

    by_place : mark l t ≡ 0 → (b : Bool) → eqb j t ≡ b → Came m l t j
    by_place z true h = by_length z (eqb-true j t h) (ltb t (length l)) refl
    by_place z false h =
        kept (ap (λ (x : List ℕ). mark x j) (come-new m l t z) ∙ get_or-set_other l t j m 0 (eqb-false j t h))

    by : (b : Bool) → eqb (mark l t) 0 ≡ b → Came m l t j
    by true h = by_place (eqb-true (mark l t) 0 h) (eqb j t) refl
    by false h = kept (ap (λ (x : List ℕ). mark x j) (come-old m l t (eqb-false (mark l t) 0 h)))

-- no other place changes
pub come-else : (m : ℕ) (l : List ℕ) (t j : ℕ) → (j ≡ t → ⊥) → mark (come m l t) j ≡ mark l j
come-else m l t j n = by (came m l t j)
  where
    by : Came m l t j → mark (come m l t) j ≡ mark l j
    by (kept e) = e
    by (new e z f) = absurd (n e)

-- no mark is lost
pub come-keeps : (m : ℕ) (l : List ℕ) (t j d : ℕ) → mark l j ≡ suc d → mark (come m l t) j ≡ suc d
come-keeps m l t j d h = by (came m l t j)
  where
    by : Came m l t j → mark (come m l t) j ≡ suc d
    by (kept e) = e ∙ h
    by (new e z f) = omega arith

-- where all who came before had the same depth, the mark is that depth
pub come-there : (l : List ℕ) (t d : ℕ) → t < length l → ((d' : ℕ) → mark l t ≡ suc d' → d' ≡ d) → mark (come (suc d) l t) t ≡ suc d
come-there l t d h same = by (mark l t) refl
  where
    by : (m : ℕ) → mark l t ≡ m → mark (come (suc d) l t) t ≡ suc d
    by zero e = ap (λ (x : List ℕ). mark x t) (come-new (suc d) l t e) ∙ get_or-set_same l t (suc d) 0 h
    by (suc d') e = come-keeps (suc d) l t t d' e ∙ ap suc (same d' e) ∙ refl

-- the list stays as long
pub come-length : (m : ℕ) (l : List ℕ) (t : ℕ) → length (come m l t) ≡ length l
come-length m l t = by (eqb (mark l t) 0) refl
  where
    by : (b : Bool) → eqb (mark l t) 0 ≡ b → length (come m l t) ≡ length l
    by true h = ap length (come-new m l t (eqb-true (mark l t) 0 h)) ∙ length-set l t m
    by false h = ap length (come-old m l t (eqb-false (mark l t) 0 h))

-- what each coming keeps, they all keep
pub comes-keep :
    (P : List ℕ → Type 0) (m : ℕ) (f : ℕ → ℕ) (k : ℕ)
    → ((r : ℕ) → r < k → (x : List ℕ) → P x → P (come m x (f r)))
    → (l : List ℕ) → P l
    → P (comes m f k l)
unfolding comes
comes-keep P m f zero g l h = h
comes-keep P m f (suc k) g l h = g k (omega arith) (comes m f k l) (comes-keep P m f k (λ r b. g r (omega arith)) l h)

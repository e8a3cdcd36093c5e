-- The tests of an instruction's words, and of all sections, in the code's shapes: one law for each way through the code.
use Prim.Native.Nat.{ℕ, ◌+◌, ◌/◌, ◌%◌, ◌≤◌, ◌<◌}
use mathlib.Core.Path.{◌≡◌, refl, ap, ◌∙◌}
use mathlib.Core.Bool.{Bool, false, ◌&&◌}
use mathlib.Core.List.{List}
use lib.Dec.{leb, ltb, eqb}
use lib.ListN.{get_or}
use borrow.Author.Tests.{eq-eqb, ne_eqb, lt-ltb, le-ltb}
use Rattle.words.specs.Count.{all_below}
use Rattle.sheet.specs.Sections.{local_count}
use Rattle.image_rule.specs.Rules.{constants, names, tables, chains, residuals}
use Rattle.image_rule.specs.Test.{code_right, consts_right, names_right, tokens_right, residuals_right}
use Rattle.image_rule.specs.Test.{chains_right, steps_right, switches_right, cases_right, ranges_right}
use Rattle.image_fields.specs.Fields.{fields_right, bounds_by, code_bounds, ref_fits, rest_fits, code_fits}

-- the bounds by the sizes that were read
pub bounds-read : (s w : List ℕ) {consts locals names' tables' chains' residuals' : ℕ} → consts ≡ constants w → locals ≡ local_count s
    → names' ≡ names w → tables' ≡ tables w → chains' ≡ chains w → residuals' ≡ residuals w
    → bounds_by consts locals names' tables' chains' residuals' ≡ code_bounds s w
unfolding code_bounds
bounds-read s w c l n t h e = cc

module _ (t : List ℕ) (b c : ℕ) where
  -- c of CallRef, by the receiver in b
  pub ref-none : 2 < b / 256 → false ≡ ref_fits t b c
  unfolding ref_fits
  ref-none h = rw (lt-ltb 2 (b / 256) h, ref_fits) refl

  pub ref-some : b / 256 ≤ 2 → (leb 1 (b % 256) && ltb c (get_or t (4 + b / 256) 0)) ≡ ref_fits t b c
  unfolding ref_fits
  ref-some h = rw (le-ltb 2 (b / 256) h, ref_fits) refl

module _ (t : List ℕ) (tokens k b c : ℕ) where
  -- b and c, by the kind
  pub rest-call : k ≡ 12 → (ltb (b / 256) 2 && leb c tokens) ≡ rest_fits t tokens k b c
  unfolding rest_fits
  rest-call e = rw (eq-eqb k 12 e, rest_fits) refl

  pub rest-ref : {r : Bool} → (k ≡ 12 → ⊥) → k ≡ 13 → r ≡ ref_fits t b c → r ≡ rest_fits t tokens k b c
  unfolding rest_fits
  rest-ref h e q = rw (ne_eqb k 12 h, eq-eqb k 13 e, rest_fits) q

  pub rest-ptr : (k ≡ 12 → ⊥) → (k ≡ 13 → ⊥) → k ≡ 17 → (leb b 1 && eqb c 0) ≡ rest_fits t tokens k b c
  unfolding rest_fits
  rest-ptr h g e = rw (ne_eqb k 12 h, ne_eqb k 13 g, eq-eqb k 17 e, rest_fits) refl

  pub rest-else : (k ≡ 12 → ⊥) → (k ≡ 13 → ⊥) → (k ≡ 17 → ⊥) → (eqb b 0 && eqb c 0) ≡ rest_fits t tokens k b c
  unfolding rest_fits
  rest-else h g f = rw (ne_eqb k 12 h, ne_eqb k 13 g, ne_eqb k 17 f, rest_fits) refl

  -- all three words
  pub code-none : (a : ℕ) → 24 < k → false ≡ code_fits t tokens k a b c
  unfolding code_fits
  code-none a h = rw (lt-ltb 24 k h, code_fits) refl

  pub code-some : (a : ℕ) {r : Bool} → k ≤ 24 → r ≡ rest_fits t tokens k b c → (ltb a (get_or t k 0) && r) ≡ code_fits t tokens k a b c
  unfolding code_fits
  code-some a h e = rw (le-ltb 24 k h, code_fits) (ap (λ (x : Bool). ltb a (get_or t k 0) && x) e)

-- a section of which each record was tested
pub section : (f : ℕ → Bool) {n m : ℕ} {r : Bool} → r ≡ all_below n f → n ≡ m → r ≡ all_below m f
section f e q = e ∙ ap (λ (k : ℕ). all_below k f) q

-- all sections
pub all-right : (s w : List ℕ) {code consts named tokened residual chained stepped tabled cased ranged : Bool}
    → code ≡ code_right s w → consts ≡ consts_right s w → named ≡ names_right s w → tokened ≡ tokens_right w → residual ≡ residuals_right s w
    → chained ≡ chains_right s w → stepped ≡ steps_right w → tabled ≡ switches_right w → cased ≡ cases_right w → ranged ≡ ranges_right w
    → (code && consts && named && tokened && residual && chained && stepped && tabled && cased && ranged) ≡ fields_right s w
unfolding fields_right
all-right s w h₀ h₁ h₂ h₃ h₄ h₅ h₆ h₇ h₈ h₉ = cc

-- When a record of so many words obeys its rules, over the words that were read.
use Prim.Native.Nat.{ℕ, ◌+◌}
use mathlib.Core.Path.{◌≡◌, refl, sym, ap, ap₂, ◌∙◌}
use mathlib.Core.Bool.{Bool, false, ◌&&◌}
use mathlib.Core.List.{List, [], ◌∷◌}
use native.Mathlib.Omega.{arith}
use native.Mathlib.Nat.{add-zero}
use lib.ListN.{length, get_or}
use Rattle.words.specs.Count.{all_below}
use Rattle.words.proofs.CountLaws.{all-suc, all-fails}
use Rattle.lowering.specs.Words.{word}
use Rattle.image_rule.specs.Rules.{Rule, free}
use Rattle.image_rule.specs.Test.{fits, obeys}

-- a test of so many numbers
module _ (f : ℕ → Bool) where
  all-1 : all_below 1 f ≡ f 0
  unfolding all_below
  all-1 = refl

  all-2 : all_below 2 f ≡ (f 0 && f 1)
  all-2 = all-suc f 1 ∙ ap (λ (x : Bool). x && f 1) all-1

  all-3 : all_below 3 f ≡ (f 0 && f 1 && f 2)
  all-3 = all-suc f 2 ∙ ap (λ (x : Bool). x && f 2) all-2

  all-4 : all_below 4 f ≡ (f 0 && f 1 && f 2 && f 3)
  all-4 = all-suc f 3 ∙ ap (λ (x : Bool). x && f 3) all-3

  all-6 : all_below 6 f ≡ (f 0 && f 1 && f 2 && f 3 && f 4 && f 5)
  all-6 = all-suc f 5 ∙ ap (λ (x : Bool). x && f 5) (all-suc f 4 ∙ ap (λ (x : Bool). x && f 4) all-4)

-- a record of so many words, its first word x₀ at `at`
module _ (w : List ℕ) (at : ℕ) {x₀ : ℕ} (e₀ : x₀ ≡ word w at) where
  first_fits : (r : Rule) → fits r x₀ ≡ fits r (word w (at + 0))
  first_fits r = ap (fits r) (e₀ ∙ ap (word w) (sym (add-zero at)))

  pub obeys-1 : (r₀ : Rule) → fits r₀ x₀ ≡ obeys (r₀ ∷ []) w at
  unfolding obeys
  obeys-1 r₀ = first_fits r₀ ∙ sym (all-1 (λ f. fits (get_or (r₀ ∷ []) f free) (word w (at + f))))

  pub obeys-2 : (r₀ r₁ : Rule) {x₁ : ℕ} → x₁ ≡ word w (at + 1) → (fits r₀ x₀ && fits r₁ x₁) ≡ obeys (r₀ ∷ r₁ ∷ []) w at
  unfolding obeys
  obeys-2 r₀ r₁ e₁ =
      ap₂ ◌&&◌ (first_fits r₀) (ap (fits r₁) e₁) ∙ sym (all-2 (λ f. fits (get_or (r₀ ∷ r₁ ∷ []) f free) (word w (at + f))))

  pub obeys-3 : (r₀ r₁ r₂ : Rule) {x₁ x₂ : ℕ} → x₁ ≡ word w (at + 1) → x₂ ≡ word w (at + 2)
      → (fits r₀ x₀ && fits r₁ x₁ && fits r₂ x₂) ≡ obeys (r₀ ∷ r₁ ∷ r₂ ∷ []) w at
  unfolding obeys
  obeys-3 r₀ r₁ r₂ e₁ e₂ =
      ap₂ ◌&&◌ (ap₂ ◌&&◌ (first_fits r₀) (ap (fits r₁) e₁)) (ap (fits r₂) e₂)
      ∙ sym (all-3 (λ f. fits (get_or (r₀ ∷ r₁ ∷ r₂ ∷ []) f free) (word w (at + f))))

  pub obeys-4 : (r₀ r₁ r₂ r₃ : Rule) {x₁ x₂ x₃ : ℕ} → x₁ ≡ word w (at + 1) → x₂ ≡ word w (at + 2) → x₃ ≡ word w (at + 3)
      → (fits r₀ x₀ && fits r₁ x₁ && fits r₂ x₂ && fits r₃ x₃) ≡ obeys (r₀ ∷ r₁ ∷ r₂ ∷ r₃ ∷ []) w at
  unfolding obeys
  obeys-4 r₀ r₁ r₂ r₃ e₁ e₂ e₃ =
      ap₂ ◌&&◌ (ap₂ ◌&&◌ (ap₂ ◌&&◌ (first_fits r₀) (ap (fits r₁) e₁)) (ap (fits r₂) e₂)) (ap (fits r₃) e₃)
      ∙ sym (all-4 (λ f. fits (get_or (r₀ ∷ r₁ ∷ r₂ ∷ r₃ ∷ []) f free) (word w (at + f))))

  pub obeys-6 : (r₀ r₁ r₂ r₃ r₄ r₅ : Rule) {x₁ x₂ x₃ x₄ x₅ : ℕ}
      → x₁ ≡ word w (at + 1) → x₂ ≡ word w (at + 2) → x₃ ≡ word w (at + 3) → x₄ ≡ word w (at + 4) → x₅ ≡ word w (at + 5)
      → (fits r₀ x₀ && fits r₁ x₁ && fits r₂ x₂ && fits r₃ x₃ && fits r₄ x₄ && fits r₅ x₅)
      ≡ obeys (r₀ ∷ r₁ ∷ r₂ ∷ r₃ ∷ r₄ ∷ r₅ ∷ []) w at
  unfolding obeys
  obeys-6 r₀ r₁ r₂ r₃ r₄ r₅ e₁ e₂ e₃ e₄ e₅ =
      ap₂ ◌&&◌ (ap₂ ◌&&◌ (ap₂ ◌&&◌ (ap₂ ◌&&◌ (ap₂ ◌&&◌ (first_fits r₀) (ap (fits r₁) e₁)) (ap (fits r₂) e₂)) (ap (fits r₃) e₃))
      (ap (fits r₄) e₄)) (ap (fits r₅) e₅)
      ∙ sym (all-6 (λ f. fits (get_or (r₀ ∷ r₁ ∷ r₂ ∷ r₃ ∷ r₄ ∷ r₅ ∷ []) f free) (word w (at + f))))

  -- where the first word does not fit the others do not matter
  pub obeys-none : (r₀ : Rule) (rs : List Rule) → fits r₀ x₀ ≡ false → false ≡ obeys (r₀ ∷ rs) w at
  unfolding obeys
  obeys-none r₀ rs h =
      sym (all-fails (λ f. fits (get_or (r₀ ∷ rs) f free) (word w (at + f))) (length (r₀ ∷ rs)) 0 (omega arith) (sym (first_fits r₀) ∙ h))

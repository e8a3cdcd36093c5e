-- docs/PORT.md names these laws of two chains that are walked at once; the loops that used them are gone.
-- LoopLaws has a `same_ends` of its own.
use Prim.Native.Nat.{ℕ, ◌-◌, ◌<◌}
use mathlib.Core.Path.{◌≡◌, refl, sym, ap, ap₂, ◌∙◌}
use mathlib.Core.Bool.{Bool, true, false, not}
use mathlib.Core.List.{List, [], ◌∷◌}
use native.Mathlib.Omega.{arith}
use Rattle.lowering.proofs.ChainNodesLaws.{links-more, links-last}
use Rattle.lowering.specs.Flatten.{rest_of, goes_on, links}
use Rattle.expr_chains.specs.Same.{same_step, same_steps, same_links}
use Rattle.expr_chains.proofs.LoopLaws.{same-on}

module _ (s : List ℕ) where
  -- at least one link
  record Linked (left c : ℕ) : Type 0 where
    rest : List ℕ
    whole : links left s c ≡ c ∷ rest

  linked : (left c : ℕ) → 0 < left → Linked left c
  linked left c h = by (goes_on s c) refl
    where
      by : (g : Bool) → goes_on s c ≡ g → Linked left c
      by true g = record { rest = links (left - 1) s (rest_of s c); whole = links-more s left c h g }
      by false g = record { rest = []; whole = links-last s left c h g }

  pub same_more : (left c d : ℕ) → 0 < left → same_step s c d ≡ true → goes_on s c ≡ true → goes_on s d ≡ true
      → same_links left s c d ≡ same_links (left - 1) s (rest_of s c) (rest_of s d)
  unfolding same_links
  same_more left c d h t g e =
      ap₂ (same_steps s) (links-more s left c h g) (links-more s left d h e)
      ∙ same-on s c d (links (left - 1) s (rest_of s c)) (links (left - 1) s (rest_of s d)) t

  -- one goes on and the other does not
  pub same_parts : (left c d : ℕ) → 0 < left → same_step s c d ≡ true → (left - 1 ≡ 0 → ⊥) → goes_on s c ≡ true → goes_on s d ≡ false
      → same_links left s c d ≡ false
  unfolding same_links same_steps
  same_parts left c d h t z g e =
      let m = linked (left - 1) (rest_of s c) (omega arith) in
      ap₂ (same_steps s) (links-more s left c h g ∙ ap (λ (l : List ℕ). c ∷ l) m.whole) (links-last s left d h e)
      ∙ same-on s c d (rest_of s c ∷ m.rest) [] t

  pub same_ends : (left c d : ℕ) → 0 < left → same_step s c d ≡ true → (left - 1 ≡ 0 → ⊥) → goes_on s c ≡ false
      → same_links left s c d ≡ not (goes_on s d)
  unfolding same_links same_steps
  same_ends left c d h t z g = by (goes_on s d) refl
    where
      by : (e : Bool) → goes_on s d ≡ e → same_links left s c d ≡ not (goes_on s d)
      by true e =
          let m = linked (left - 1) (rest_of s d) (omega arith) in
          ap₂ (same_steps s) (links-last s left c h g) (links-more s left d h e ∙ ap (λ (l : List ℕ). d ∷ l) m.whole)
          ∙ same-on s c d [] (rest_of s d ∷ m.rest) t
          ∙ sym (ap not e)
      by false e =
          ap₂ (same_steps s) (links-last s left c h g) (links-last s left d h e) ∙ same-on s c d [] [] t ∙ sym (ap not e)

-- docs/PORT.md names these laws; the code writes a part of any length in one way.
use Prim.Native.Nat.{ℕ, suc, ◌+◌, ◌*◌, ◌≤◌}
use mathlib.Core.Path.{◌≡◌, refl, sym, ap, ap₂, ◌∙◌}
use mathlib.Core.List.{List, [], ◌∷◌}
use native.Mathlib.Omega.{arith}
use native.Mathlib.Numerals.{add-one}
use lib.ListN.{length, set}
use lib.Seq.{take_all}
use Rattle.lowering.proofs.Decode as Decode
use Rattle.lowering.specs.Limits.{step_width}
use Rattle.lowering.specs.Pools.{Name, steps_words}
use Rattle.expr_chains.specs.Steps.{chain_steps, link_count}
use Rattle.expr_chains.proofs.KeptLaws.{steps-length}
use Rattle.write_sections.specs.Written.{Written}
use Rattle.write_sections.specs.Put.{put_part}
use Rattle.write_sections.proofs.PutLaws.{written_all, puts}
use Rattle.write_sections.proofs.StepRows.{step_rows}

module _ (l : List ℕ) (i : ℕ) where
  pub put_two : (a b : ℕ) → i + 2 ≤ length l → set (set l i a) (i + 1) b ≡ put_part l i 2 (a ∷ b ∷ [])
  put_two a b h = ap (λ (n : ℕ). set (set l i a) n b) (add-one i) ∙ puts (a ∷ b ∷ []) l i 2 refl h

  pub put_three : (a b c : ℕ) → i + 3 ≤ length l → set (set (set l i a) (i + 1) b) (i + 2) c ≡ put_part l i 3 (a ∷ b ∷ c ∷ [])
  put_three a b c h =
      let two : i + 2 ≡ suc (suc i) = omega arith in
      ap₂ (λ (n m : ℕ). set (set (set l i a) n b) m c) (add-one i) two ∙ puts (a ∷ b ∷ c ∷ []) l i 3 refl h

-- all steps of a chain are written
pub all_words :
    (s : List ℕ) (ns : List Name) (j : ℕ) {x₀ x : List ℕ} (i : ℕ) → length x₀ ≡ step_width * link_count s j → link_count s j ≤ i
    → Written x₀ x (step_rows s ns j i) → x ≡ steps_words (chain_steps s ns j)
all_words s ns j i e h v =
    let n = steps-length s ns j in
    let all = ap steps_words (take_all i (chain_steps s ns j) (omega (arith, n))) in
    written_all v (ap length all ∙ Decode.steps-length (chain_steps s ns j) ∙ ap (λ (m : ℕ). step_width * m) n ∙ sym e) ∙ all

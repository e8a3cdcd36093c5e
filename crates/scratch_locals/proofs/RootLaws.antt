-- The root of a chain: whether it is a local, by the code's answer.
use Rattle.std.proofs.Common.{◌≡◌, ℕ, Bool, List, refl, ap, ◌∙◌}
use mathlib.Core.Option as Search
use mathlib.Core.Option.{none, some}
use Rattle.std.specs.Prelude as Prelude
use Rattle.std.specs.Prelude.{Option}
use Rattle.scratch_index.proofs.ChainHashLaws.{root-variable}
use Rattle.sheet.specs.Node.{field_a, child}
use Rattle.sheet.specs.Namespace.{role}
use Rattle.sheet.specs.Text.{text}
use Rattle.lowering.specs.Kinds.{variable_kind}
use Rattle.lowering.specs.Slots.{resolve}
use Rattle.expr_slots.specs.Found.{found}
use Rattle.expr_chains.specs.Same.{is_some, is_local, RootLocal}

is-at : (o : Search.Option ℕ) → Prelude.is_some (found o) ≡ is_some o
unfolding is_some found
is-at none = refl
is-at (some slot) = refl

-- the answers of the code, for root v of the chain of node j
module _ {s : List ℕ} (j : ℕ) {v : ℕ} (v-is : v ≡ child j) where
  pub root_told :
      {b : Bool} {f : Option ℕ} → b ≡ Prelude.is_some f → f ≡ found (resolve s (text s (field_a s v))) → RootLocal s (child j) b
  unfolding is_local
  root_told {b} {f} e h = record {
    tells = λ k. e ∙ ap Prelude.is_some h ∙ is-at (resolve s (text s (field_a s v))) ∙ ap (is_local s) v-is;
  }

  pub root-other : {b : Bool} {k : ℕ} → k ≡ role s v → (k ≡ variable_kind → ⊥) → RootLocal s (child j) b
  root-other {b} {k} e ne = record {
    tells = λ h. absurd (ne (e ∙ ap (role s) v-is ∙ root-variable (role s (child j)) h));
  }

-- The outcome for a sheet and the lengths of the image and of the scratch, in words: the refusal that fits first, or the image's words.
use Rattle.std.specs.Prelude.{ℕ, ◌+◌, ◌*◌, true, false, List, ltb, eqb, length, Ok, Err}
use Rattle.sheet.specs.Sections.{node_count}
use Rattle.sheet.specs.Node.{kind}
use Rattle.checks.specs.Checked.{Verdict, checked}
use Rattle.refusals.specs.declared.Refusal.{Refusal}
use Rattle.refusals.specs.declared.Refusal.TheVariants.{Eval, Emitted, ScratchShort, ImageLong}
use Rattle.lowering.specs.Limits.{max_levels, max_emitted, scratch_per_emitted, scratch_per_node, scratch_besides}
use Rattle.lowering.specs.Kinds.{switch_kind}
use Rattle.lowering.specs.Pools.{Pools, no_pools}
use Rattle.lowering.specs.Expression.{expression}
use Rattle.lowering.specs.Program.{Program, plain}
use Rattle.lowering.specs.Switch.{switch}
use Rattle.lowering.specs.Image.{words}

pub data Outcome : Type 0 where
  refused : Refusal → Outcome
  image : List ℕ → Outcome

-- node 0 is a Switch or an expression; its nodes are lowered down to so many levels
abbrev pub lower_with : ℕ → List ℕ → Program
lower_with levels s =
    elim (eqb (kind s 0) switch_kind) [
      | true ↦ switch s (expression levels s)
      | false ↦ plain (expression levels s 0 0 0 no_pools)
    ]

-- with the levels that suffice for a checked sheet (Levels)
unfoldable pub lower : List ℕ → Program
lower s = lower_with max_levels s

unfoldable pub scratch_needed : List ℕ → Pools → ℕ
scratch_needed s p = scratch_per_emitted * p.emitted + scratch_per_node * node_count s + scratch_besides

-- 9 to 12, in 01's order
unfoldable pub lowered : List ℕ → ℕ → ℕ → Program → Outcome
lowered s image_length scratch_length r =
    elim r.pools.defeated [
      | true ↦ refused Eval
      | false ↦
          elim (ltb max_emitted r.pools.emitted) [
            | true ↦ refused Emitted
            | false ↦
                elim (ltb scratch_length (scratch_needed s r.pools)) [
                  | true ↦ refused ScratchShort
                  | false ↦
                      elim (ltb image_length (length (words r))) [ true ↦ refused ImageLong | false ↦ image (words r) ]
                ]
          ]
    ]

-- a sheet that the check of 1 to 8 accepts is lowered
unfoldable pub outcome_after : List ℕ → ℕ → ℕ → Verdict → Outcome
outcome_after s image_length scratch_length (Ok x) = lowered s image_length scratch_length (lower s)
outcome_after s image_length scratch_length (Err r) = refused r

unfoldable pub outcome : List ℕ → ℕ → ℕ → Outcome
outcome s image_length scratch_length = outcome_after s image_length scratch_length (checked s)

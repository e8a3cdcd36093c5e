-- The counts of a sheet, cut off as the code has them, and the refusals by counts. The need of a sheet does not speak of these.
use Rattle.std.specs.Prelude.{ℕ, ◌+◌, ◌*◌, ◌≤◌, min, ◌≡◌, Bool, true, false, List, ltb, Ok, Err}
use Rattle.sheet.specs.Sections.{node_count}
use Rattle.lowering.specs.Limits.{max_emitted, scratch_per_emitted, scratch_per_node, scratch_besides}
use Rattle.refusals.specs.declared.Refusal.TheVariants.{Eval, Emitted, ScratchShort}
use Rattle.expr_count.specs.declared.tallies.Tally.{Tally}
use Rattle.expr_count.specs.Limits.{cap}
use Rattle.expr_count.specs.Tally.{taken_back, capped}
use Rattle.switch_count.specs.Total.{total, switch_total}
use Rattle.switch_tables.specs.Planned.{Tables, Placed}
use Rattle.checks.specs.Checked.{Verdict}

-- locals beside which each receiver's name is looked up for a count
abbrev pub few_locals : ℕ
few_locals = 64

-- t has what the sheet emits, and whether it reaches an `eval`
pub record Counts (s : List ℕ) (t : Tally) : Type 0 where
  pub is : taken_back t ≡ capped (taken_back (total s))

-- the refusal whatever is lent: d that an `eval` is reached, e instructions
unfoldable pub over : Bool → ℕ → Verdict
over d e = elim d [ true ↦ Err Eval | false ↦ elim (ltb max_emitted e) [ true ↦ Err Emitted | false ↦ Ok tt ] ]

-- the refusal by counts: m words of scratch, n nodes besides
unfoldable pub early : Bool → ℕ → ℕ → ℕ → Verdict
early d e m n =
    elim d [
      | true ↦ Err Eval
      | false ↦
          elim (ltb max_emitted e) [
            | true ↦ Err Emitted
            | false ↦ elim (ltb m (scratch_per_emitted * e + scratch_per_node * n + scratch_besides)) [
              | true ↦ Err ScratchShort
              | false ↦ Ok tt
            ]
          ]
    ]

-- the counts t decide as the sheet's own do, with m words of scratch: the same refusal, and room for what is emitted
pub record Decides (s : List ℕ) (m : ℕ) (t : Tally) : Type 0 where
  pub refusal_is : early t.defeated t.emitted m (node_count s) ≡ early (total s).defeated (total s).emitted m (node_count s)
  pub enough : min (total s).emitted cap ≤ t.emitted

-- the table w of a Switch is read and counted, by the switch's own locals
pub record Exact (s w : List ℕ) : Type 0 where
  pub tables : Tables s w
  pub placed : (switch_total s).len ≤ max_emitted → Placed s w

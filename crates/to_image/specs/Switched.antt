-- A Switch on its way into the scratch: what is known before it is lowered by the flat table, and what the scratch and the table have then.
use Rattle.std.specs.Prelude.{ℕ, ◌≤◌, ◌≡◌, List}
use Rattle.sheet.specs.Limits.{max_entries}
use Rattle.sheet.specs.Sections.{node_count}
use Rattle.sheet.specs.Node.{kind}
use Rattle.check_switches.specs.Switch.{case_count}
use Rattle.bytecode.specs.Switch.{case_words, range_words}
use Rattle.lowering.specs.Limits.{max_bands}
use Rattle.lowering.specs.Kinds.{switch_kind}
use Rattle.lowering.specs.Image.{section}
use Rattle.lowering.specs.Outcome.{lower}
use Rattle.expr_model.specs.Made.{made}
use Rattle.scratch.specs.declared.Layout.{Layout}
use Rattle.scratch_store.specs.declared.State.{State}
use Rattle.scratch_store.specs.Holds.{Holds}
use Rattle.switch_tables.specs.Columns.{bands_at, default_at, fallback_at, cell}
use Rattle.switch_tables.specs.Planned.{Tables, Placed}
use Rattle.write_rows.specs.TableRows.{rows_to, tables_of, case_words_in, range_words_in}
use Rattle.to_image.specs.Making.{Ready}

-- nothing refuses, m words of scratch are lent, and the table w is read and counted
pub record Planned (s : List ℕ) (l : Layout) (m : ℕ) (w : List ℕ) : Type 0 where
  pub ready : Ready s l.most m
  pub switch : kind s 0 ≡ switch_kind
  pub nodes : l.nodes ≡ node_count s
  pub tables : Tables s w
  pub placed : Placed s w

-- the scratch holds the code and the pools of the definition, and the table has its rows
pub record Settled (s : List ℕ) (l : Layout) (zs : List ℕ) (st : State) (w : List ℕ) : Type 0 where
  pub holds : Holds s l zs st (made (lower s).code (lower s).pools 1)
  pub few_cases : case_count s ≤ max_entries
  pub few_bands : cell w bands_at ≤ max_bands
  pub switches : tables_of (case_count s) (cell w fallback_at) (cell w bands_at) (cell w default_at) ≡ (lower s).switches
  pub cases : section case_words (lower s).cases ≡ rows_to (case_words_in w) (case_count s)
  pub ranges : section range_words (lower s).ranges ≡ rows_to (range_words_in w) (cell w bands_at)

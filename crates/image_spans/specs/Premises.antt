-- What the caller has tested before: sizes, the runs of chains, the runs of tables.
use Rattle.std.specs.Prelude.{ℕ, ◌+◌, ◌≤◌, ◌<◌, ◌≡◌, List, length}
use Rattle.bytecode.specs.Effect.{table}
use Rattle.lowering.specs.Limits.{max_elements}
use Rattle.lowering.specs.Words.{instructions, a_at, chain_word, switch_word}
use Rattle.image_rule.specs.Rules.{chains, steps, tables, rows_there, end_at}
use Rattle.image_rule.specs.Marks.{flow_at}

-- the image has the length that its sizes say, and the scratch has at least as many words
pub record Sized (w l : List ℕ) : Type 0 where
  pub ends : length w ≡ end_at w
  pub room : length w ≤ length l

pub record ChainsLie (w : List ℕ) : Type 0 where
  pub runs : (i : ℕ) → i < chains w → chain_word w i 3 + chain_word w i 4 ≤ steps w
  pub operands : (i : ℕ) → i < chains w → chain_word w i 5 ≤ max_elements

pub record RowsLie (w : List ℕ) : Type 0 where
  pub runs : (i : ℕ) → i < tables w → switch_word w i 1 + switch_word w i 2 ≤ rows_there w (switch_word w i 0)
  pub named : (p : ℕ) → p < instructions w → flow_at w p ≡ table → a_at w p < tables w

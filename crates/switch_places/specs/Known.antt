-- What the pass over the guards writes of one. Definitions; assume nothing.
use Rattle.std.specs.Prelude.{ℕ, ◌+◌, List, set}
use Rattle.expr_count.specs.Count.{Rec}
use Rattle.switch_tables.specs.Columns.{guard_at, guard_len_at, guard_emitted_at, guard_node_at}
use Rattle.switch_tables.specs.Table.{Known, known_of}

-- guard k is x
unfoldable pub with_known : List ℕ → ℕ → Known → List ℕ
with_known w k x = set (set (set w (guard_at + k) x.kind) (guard_len_at + k) x.len) (guard_emitted_at + k) x.emitted

-- guard k is that at node j, where t is the tally of a node
unfoldable pub with_guard : List ℕ → Rec → List ℕ → ℕ → ℕ → List ℕ
with_guard s t w k j = with_known (set w (guard_node_at + k) j) k (known_of s t j)

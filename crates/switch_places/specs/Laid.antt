-- What the passes that count leave in the table: each chain and each body has its place, as far as counts are not cut off. t is the
-- tally of a node.
use Rattle.std.specs.Prelude.{ℕ, ◌+◌, ◌<◌, min, ◌≡◌, ◌||◌, List, [], length, get_or}
use Rattle.lowering.specs.SwitchSheet.{block_count}
use Rattle.expr_count.specs.declared.tallies.Tally.{Tally}
use Rattle.expr_count.specs.Limits.{cap}
use Rattle.expr_count.specs.Tally.{plus, capped}
use Rattle.expr_count.specs.Count.{Rec}
use Rattle.switch_count.specs.Arms.{any_wants, arms_tally}
use Rattle.switch_count.specs.Bodies.{bodies_from, bodies_tally}
use Rattle.switch_count.specs.Place.{body_from}
use Rattle.switch_tables.specs.Columns.{cell, body_at}
use Rattle.switch_tables.specs.Planned.{exit_of, chain_place, want_in}

-- the chains of the lists ls behind b: from the table w to v, places in the column `at`, exits in the column `out`
pub record Laid (s : List ℕ) (t : Rec) (ls : List (List ℕ)) (at out : ℕ) (b : Tally) (w v : List ℕ) (r : Tally) : Type 0 where
  pub sum : r ≡ capped (plus b (arms_tally s t ls))
  pub places : (q : ℕ) → q < length ls → cell v (at + q) ≡ min (chain_place s t ls b.len q) cap
  pub exits : (q : ℕ) → q < length ls → cell v (out + q) ≡ exit_of s (get_or ls q [])
  pub wanted : (k : ℕ) → k < block_count s → want_in v k ≡ (want_in w k || any_wants s k ls)

-- the bodies of n blocks behind b, of those that lists ls reach and of the default (plus 1)
pub record BodiesLaid (s : List ℕ) (t : Rec) (ls : List (List ℕ)) (def n : ℕ) (b : Tally) (v : List ℕ) (r : Tally) : Type 0 where
  pub sum : r ≡ capped (plus b (bodies_tally s t (bodies_from s ls def n 0)))
  pub places : (k : ℕ) → k < n → cell v (body_at + k) ≡ min (body_from s t k b.len (bodies_from s ls def n 0)) cap

-- A body, if its block is wanted: its place and what it adds. Definitions; assume nothing.
use Rattle.std.specs.Prelude.{ℕ, Bool, true, false}
use Rattle.expr_count.specs.declared.tallies.Tally.{Tally}
use Rattle.expr_count.specs.Tally.{instructions, nothing, plus, capped}
use Rattle.expr_count.specs.Count.{Rec}

unfoldable pub place_if : Bool → ℕ → ℕ
place_if true p = p
place_if false p = 0

-- the body at node j with its jump, where t is the tally of a node
unfoldable pub body_if : Rec → ℕ → Bool → Tally
body_if t j true = capped (plus (t j) (instructions 1))
body_if t j false = nothing

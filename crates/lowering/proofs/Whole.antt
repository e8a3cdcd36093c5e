-- A whole program whose depths are right, and of which every place is reached: what the lowering is shown to give, and what runs of the
-- image's words are shown right from.
use Prim.Native.Nat.{ℕ, zero, suc}
use mathlib.Core.Bool.{true, false}
use mathlib.Core.List.{List, [], ◌∷◌, ◌++◌, map}
use lib.Dec.{eqb}
use lib.ListN.{length, get_or, take, drop}
use Rattle.bytecode.specs.declared.Switch.{Switch}
use Rattle.bytecode.specs.declared.SwitchCase.{SwitchCase}
use Rattle.bytecode.specs.declared.SwitchRange.{SwitchRange}
use Rattle.lowering.specs.Code.{Code}
use Rattle.lowering.specs.Program.{Program}
use Rattle.lowering.proofs.Effect.{Context}
use Rattle.lowering.proofs.Typed.{Typed, Starts}
use Rattle.lowering.proofs.Linked.{Closed, Reached}

abbrev pub no_switch : Switch
no_switch = record { ranged = 0; first = 0; rows = 0; default = 0 }

-- the targets of a table's rows
unfoldable pub row_targets : Program → Switch → List ℕ
row_targets r t =
    elim (eqb t.ranged 0) [
      | true ↦ map (λ (c : SwitchCase). c.target) (take t.rows (drop t.first r.cases))
      | false ↦ map (λ (c : SwitchRange). c.target) (take t.rows (drop t.first r.ranges))
    ]

-- the targets of table i: its rows, then its default
unfoldable pub targets_of : Program → ℕ → List ℕ
targets_of r i = let t = get_or r.switches i no_switch in row_targets r t ++ (t.default ∷ [])

abbrev pub context_of : Program → Context
context_of r = record { chains = r.pools.chains; tables = length r.switches; table = targets_of r }

-- the depth before the instruction at a place; 1 at the end
abbrev pub depth_at : Code → ℕ → ℕ
depth_at [] p = 1
depth_at (i ∷ c) zero = i.depth
depth_at (i ∷ c) (suc p) = depth_at c p

pub record WellTyped (r : Program) : Type 0 where
  pub starts : Starts 0 1 r.code
  pub typed : Typed (context_of r) (depth_at r.code) (length r.code) 0 r.code

pub record AllReached (r : Program) : Type 1 where
  pub reached : (R : ℕ → Type 0) → Closed (context_of r) R 0 r.code → R 0 → Reached R 0 r.code

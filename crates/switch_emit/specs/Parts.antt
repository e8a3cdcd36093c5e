-- The parts of a switch as the code has them.
use Rattle.std.specs.Prelude.{ℕ, ◌+◌, ◌%◌, ◌<◌, ◌≡◌, Bool, true, false, List, Option, None, Some, MatchOption, nat_lt, eqb}
use Rattle.sheet.specs.Node.{position}
use Rattle.bytecode.specs.declared.Op.TheVariants.{JumpIfTrue}
use Rattle.expr_model.specs.Made.{Made, emit}
use Rattle.expr_model.specs.Construct.{Low}
use Rattle.scratch_store.specs.declared.State.{State}
use Rattle.switch_model.specs.Change as change
use Rattle.switch_tables.specs.Columns.{case_exit_at, body_at, default_at, end_at, fallback_at, cell}

-- one more emitted, no code
abbrev pub dropped_in : State → State
dropped_in st = record st { emitted = (st.emitted + 1) % 4294967296 }

-- where the body of block k stands, and the targets of all jumps
abbrev pub place_in : List ℕ → ℕ → ℕ
place_in w k = cell w (body_at + k)

abbrev pub targets_in : List ℕ → change.Targets
targets_in w = record { body = place_in w; fallback = cell w fallback_at; default = cell w default_at; end = cell w end_at }

-- head q of the cases has a chain
abbrev pub chain_in : List ℕ → ℕ → Bool
chain_in w q = nat_lt (cell w (case_exit_at + q)) 2

-- the last number below n that passes a test, if one does
abbrev pub LastBelow : (ℕ → Bool) → ℕ → Option ℕ → Type 0
LastBelow test n r =
    MatchOption r ((k : ℕ) → k < n → test k ≡ false)
    (λ i. (i < n) × (test i ≡ true) × ((k : ℕ) → i < k → k < n → test k ≡ false))

-- it is number i, if there is one
abbrev pub is_at : Option ℕ → ℕ → Bool
is_at None i = false
is_at (Some k) i = eqb k i

-- where a jump to a place goes, if it is not dropped
abbrev pub goes : Bool → ℕ → Option ℕ
goes true place = None
goes false place = Some place

-- the guard at node g, and the jump
unfoldable pub try_one : List ℕ → Low → ℕ → ℕ → Made → Made
try_one s low to g a = emit (JumpIfTrue to) (position s g) 0 (low g a)

-- the end of a chain, if a guard was tried
unfoldable pub end_arm : Bool → Bool → ℕ → Made → Made
end_arm any drop to a = elim any [ true ↦ change.jump_to drop to a | false ↦ a ]

-- the body of block k, if it is wanted
unfoldable pub body_if : (ℕ → Bool) → List ℕ → Low → ℕ → Bool → ℕ → Made → Made
body_if want s low end drop k a = elim (want k) [ true ↦ change.body_to s low end drop k a | false ↦ a ]

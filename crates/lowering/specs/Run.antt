-- A run of an image. It is fed the image and the way each branch goes; its state is a place and a depth, and both start at 0.
use Rattle.std.specs.Prelude.{ℕ, zero, suc, ◌+◌, ◌-◌, true, false, List, ltb, eqb}
use Rattle.bytecode.specs.Effect.{effect, Flow, on, jump, branch, table, popped, kept}
use Rattle.lowering.specs.Words.{instructions, kind_at, a_at, b_at, chain_word, switch_word, case_word, range_word}

pub record State : Type 0 where
  pub place : ℕ
  pub depth : ℕ

abbrev pub start : State
start = record { place = 0; depth = 0 }

-- what chain i takes: its operands, and one more for a Temporary root (3)
unfoldable pub chain_takes : List ℕ → ℕ → ℕ
chain_takes w i = chain_word w i 5 + elim (eqb (chain_word w i 0) 3) [ true ↦ 1 | false ↦ 0 ]

-- what the instruction at place p pops, pushes, and needs to find
unfoldable pub pops : List ℕ → ℕ → ℕ
pops w p = let e = effect (kind_at w p) in e.pops + popped e.count (a_at w p) (b_at w p) (chain_takes w (a_at w p))

unfoldable pub pushes : List ℕ → ℕ → ℕ
pushes w p = (effect (kind_at w p)).pushes

unfoldable pub needs : List ℕ → ℕ → ℕ
needs w p = let e = effect (kind_at w p) in pops w p + e.keeps + kept e.count (a_at w p)

-- where row r of table i goes; r counts from 0 in the table, and a number past its rows stands for the default
unfoldable pub row_target : List ℕ → ℕ → ℕ → ℕ
row_target w i r =
    elim (eqb (switch_word w i 0) 0) [
      | true ↦ case_word w (switch_word w i 1 + r) 0
      | false ↦ range_word w (switch_word w i 1 + r) 5
    ]

unfoldable pub table_target : List ℕ → ℕ → ℕ → ℕ
table_target w i r = elim (ltb r (switch_word w i 2)) [ true ↦ row_target w i r | false ↦ switch_word w i 3 ]

-- a branch goes on at way 0, to its target at any other
unfoldable pub branch_target : ℕ → ℕ → ℕ → ℕ
branch_target zero target p = p + 1
branch_target (suc way) target p = target

-- the place after p. `way` is the way that a branch goes, or the number of a Switch's row
unfoldable pub goes_to : Flow → List ℕ → ℕ → ℕ → ℕ
goes_to on w way p = p + 1
goes_to jump w way p = a_at w p
goes_to branch w way p = branch_target way (a_at w p) p
goes_to table w way p = table_target w (a_at w p) way

unfoldable pub next : List ℕ → ℕ → ℕ → ℕ
next w way p = goes_to (effect (kind_at w p)).flow w way p

-- one step: the depth loses the pops and gains the pushes
unfoldable pub step : List ℕ → ℕ → State → State
step w way st =
    record { place = next w way st.place; depth = st.depth - pops w st.place + pushes w st.place }

-- a run that has ended, with its place at the instruction count, stays there
unfoldable pub step_on : List ℕ → ℕ → State → State
step_on w way st = elim (ltb st.place (instructions w)) [ true ↦ step w way st | false ↦ st ]

-- the state after n steps; the n-th step goes by `ways n`
unfoldable pub run : List ℕ → (ℕ → ℕ) → ℕ → State
run w ways zero = start
run w ways (suc n) = step_on w (ways n) (run w ways n)

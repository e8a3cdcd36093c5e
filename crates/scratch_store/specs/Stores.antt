-- What is done on a store, from one to another: the words and the counts of both.
use Rattle.std.specs.Prelude.{ℕ, List}
use Rattle.expr_model.specs.Made.{Made}
use Rattle.scratch.specs.declared.Layout.{Layout}
use Rattle.scratch_store.specs.declared.Store.{Store}
use Rattle.scratch_store.specs.Holds.{Holds}
use Rattle.scratch_store.specs.Does.{Does, Adds, AddsChain}

-- the store holds what has been made
abbrev pub Held : List ℕ → Layout → Store → Made → Type 0
Held s l it a = Holds s l it.scratch.now it.state a

abbrev pub Done : List ℕ → Layout → Store → Store → (Made → Made) → Type 0
Done s l old new F = Does s l old.scratch.now old.state new.scratch.now new.state F

abbrev pub Added : List ℕ → Layout → Store → Store → ℕ → Type 0 → (Made → Made) → (Made → ℕ) → Type 0
Added s l old new at Asked F P = Adds s l old.scratch.now old.state new.scratch.now new.state at Asked F P

abbrev pub AddedChain : List ℕ → Layout → Store → Store → ℕ → ℕ → Type 0
AddedChain s l old new at j = AddsChain s l old.scratch.now old.state new.scratch.now new.state at j

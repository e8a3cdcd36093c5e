-- A change done on the scratch where two instructions have been emitted, so that the depth may start again at 1 or 2.
use Rattle.std.specs.Prelude.{ℕ, ◌≤◌, List}
use Rattle.expr_model.specs.Made.{Made}
use Rattle.scratch.specs.declared.Layout.{Layout}
use Rattle.scratch_store.specs.declared.State.{State}
use Rattle.scratch_store.specs.declared.Store.{Store}
use Rattle.scratch_store.specs.Holds.{Holds}
use Rattle.scratch_store.specs.Does.{Fits}

-- two instructions have been emitted
abbrev pub Begun : Made → Type 0
Begun a = 2 ≤ a.pools.emitted

pub record From (s : List ℕ) (l : Layout) (xs : List ℕ) (st : State) (ys : List ℕ) (r : State) (F : Made → Made) : Type 0 where
  pub holds : (a : Made) → Begun a → Holds s l xs st a → Fits l (F a) → Holds s l ys r (F a)

-- from one store to another: the words and the counts of both
abbrev pub DoneFrom : List ℕ → Layout → Store → Store → (Made → Made) → Type 0
DoneFrom s l old new F = From s l old.scratch.now old.state new.scratch.now new.state F

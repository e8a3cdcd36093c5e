-- A change of what has been made, done on the scratch: `Does` says that a call has done it, `Left` says what is left of it to do on the
-- way. Both ask that what is emitted in the end has its room, and the way there needs no more than that.
use Rattle.std.specs.Prelude.{◌≡◌, ℕ, ◌≤◌, List}
use Rattle.expr_chains.specs.Pooled.{Pooled}
use Rattle.scratch_keys.specs.Used.{ChainKey}
use Rattle.expr_model.specs.Made.{Made}
use Rattle.expr_model.specs.Construct.{add_chain, chain_place}
use Rattle.scratch.specs.declared.Layout.{Layout}
use Rattle.scratch_store.specs.declared.State.{State}
use Rattle.scratch_store.specs.Holds.{Holds}

-- what is emitted has its room
abbrev pub Fits : Layout → Made → Type 0
Fits l a = a.pools.emitted ≤ l.most

-- a change that takes back no count of what is emitted
pub record Growing (F : Made → Made) : Type 0 where
  pub each : (a : Made) → a.pools.emitted ≤ (F a).pools.emitted

-- F is done on the way from (xs, st) to (ys, r)
pub record Does (s : List ℕ) (l : Layout) (xs : List ℕ) (st : State) (ys : List ℕ) (r : State) (F : Made → Made) : Type 0 where
  pub holds : (a : Made) → Holds s l xs st a → Fits l (F a) → Holds s l ys r (F a)

-- something is held whose G is F of what was held
pub record Rest (s : List ℕ) (l : Layout) (ys : List ℕ) (r : State) (G : Made → Made) (z : Made) : Type 0 where
  pub now : Made
  pub held : Holds s l ys r now
  pub same : G now ≡ z

-- F is to be done from (xs, st); what is left to do at (ys, r) is G
pub record Left (s : List ℕ) (l : Layout) (xs : List ℕ) (st : State) (F : Made → Made) (ys : List ℕ) (r : State)
    (G : Made → Made) : Type 0 where
  pub each : (a : Made) → Holds s l xs st a → Fits l (F a) → Rest s l ys r G (F a)

-- an entry added to a pool on the way from (xs, st) to (ys, r), and its place there; Asked is what is asked of the node
pub record Adds
    (s : List ℕ) (l : Layout) (xs : List ℕ) (st : State) (ys : List ℕ) (r : State) (at : ℕ) (Asked : Type 0) (F : Made → Made)
    (P : Made → ℕ)
    : Type 0 where
  pub does : Asked → Does s l xs st ys r F
  pub place : (a : Made) → Holds s l xs st a → at ≡ P a

-- the same for the chain of node j, where its names are pooled
pub record AddsChain (s : List ℕ) (l : Layout) (xs : List ℕ) (st : State) (ys : List ℕ) (r : State) (at j : ℕ) : Type 0 where
  pub holds : ChainKey s j → (a : Made) → Holds s l xs st a → Pooled s a.pools.names j → Holds s l ys r (add_chain s j a)
  pub place : (a : Made) → Holds s l xs st a → Pooled s a.pools.names j → at ≡ chain_place s j a

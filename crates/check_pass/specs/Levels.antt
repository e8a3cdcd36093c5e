-- The open nodes of the pass, and which of them are closed where a node is next.
use Rattle.std.specs.Prelude.{ℕ, suc, ◌≤◌, ◌<◌, Bool, true, ◌&&◌, ◌≡◌, List, leb, eqb, get_or}
use Rattle.check_pass.specs.declared.Open.{Open}

-- its children are passed, and n is the first node behind it
unfoldable pub done : Open → ℕ → Bool
done o n = leb o.count o.passed && eqb o.end n

-- where there is none
abbrev pub no_node : Open
no_node = record { kind = 0; count = 0; passed = 0; end = 0 }

-- the nodes from level k on, below d, are done
pub record AllDone (around : List Open) (n k d : ℕ) : Type 0 where
  pub each : (j : ℕ) → k ≤ j → j < d → done (get_or around j no_node) n ≡ true

-- from `top` with d nodes around it, nodes that are done where n is next are closed one after the other
pub data Closed (around : List Open) (n : ℕ) (top : Open) (d : ℕ) : Open → ℕ → Type 0 where
  stay : Closed around n top d top d
  close : {o : Open} {k : ℕ} → Closed around n top d o (suc k) → done o n ≡ true → Closed around n top d (get_or around k no_node) k

-- The state of the pass: the innermost open node, those around it in an array, node n next.
use Prim.Native.Nat.{ℕ, ◌^◌, ◌<◌, ◌≤◌}
use mathlib.Core.Path.{◌≡◌}
use mathlib.Core.Bool.{Bool, true}
use mathlib.Core.List.{List, [], ◌∷◌}
use lib.ListN.{length, get_or}
use Rattle.words.specs.Count.{all_below}
use Rattle.sheet.specs.Sections.{node_count}
use Rattle.sheet.specs.Node.{kind, count}
use Rattle.check_shape.specs.Shape.{node_ok}
use Rattle.check_depth.specs.Depth.{within}
use Rattle.check_pass.specs.Fine.{own}
use Rattle.check_pass.specs.Sizes.{Sizes}
use Rattle.check_pass.specs.Levels.{no_node}
use Rattle.check_pass.specs.declared.Open.{Open}
use Rattle.check_pass.proofs.Places.{Place, end, Left}

-- f is what the code holds of an open node; only node 0 is a Switch
pub record Frame (s : List ℕ) (o : Place) (f : Open) : Type 0 where
  pub place_is : f.passed ≡ o.passed
  pub kind_is : f.kind ≡ kind s o.node
  pub count_is : f.count ≡ count s o.node
  pub few : f.count < 2 ^ 32
  pub end_is : f.end ≡ end s o.node
  pub inside : end s o.node ≤ node_count s
  pub root : kind s o.node ≡ 19 → o.node ≡ 0

-- the array holds the open nodes, the innermost last
abbrev pub Held : List ℕ → List Open → List Place → Type 0
Held s fs [] = Unit {0}
Held s fs (o ∷ os) = Frame s o (get_or fs (length os) no_node) × Held s fs os

-- all nodes below n are right by their own test g
pub record Passing (s : List ℕ) (g : ℕ → Bool) (fs : List Open) (f : Open) (n d : ℕ) : Type 0 where
  pub top : Place
  pub under : List Place
  pub size : length under ≡ d
  pub level : d ≤ 62
  pub room : length fs ≡ 62
  pub frame : Frame s top f
  pub held : Held s fs under
  pub each : all_below n g ≡ true
  pub so : Left s n (top ∷ under) → (all_below n (node_ok s) ≡ true) × (within 64 s 0 ≡ true)

-- the state of the loop
pub record State (s : List ℕ) (total K B : ℕ) (t : List ℕ) (fs : List Open) (f : Open) (n d : ℕ) : Type 0 where
  pub sizes : Sizes s total K B t
  pub passing : Passing s (own s) fs f n d

-- What the pass shows of a sheet: nothing of refusals 2, 4 (of nodes), 5 and 8.
use Rattle.std.specs.Prelude.{ℕ, ◌≡◌, Bool, true, ◌&&◌, List}
use Rattle.words.specs.Count.{all_below}
use Rattle.sheet.specs.Limits.{max_depth}
use Rattle.sheet.specs.Sections.{node_count}
use Rattle.check_shape.specs.Shape.{node_ok, shape_ok}
use Rattle.check_depth.specs.Depth.{within, depth_ok}
use Rattle.check_numbers.specs.Numbers.{number_ok, node_numbers_ok}
use Rattle.check_support.specs.Support.{supported, supported_ok}

pub record Fine (s : List ℕ) : Type 0 where
  pub shape : shape_ok s ≡ true
  pub depth : depth_ok s ≡ true
  pub numbers : node_numbers_ok s ≡ true
  pub support : supported_ok s ≡ true

-- a node's own tests besides those of its shape
unfoldable pub own : List ℕ → ℕ → Bool
own s n = number_ok s n && supported s n

-- what the pass shows by itself
pub record Passed (s : List ℕ) : Type 0 where
  pub nodes : all_below (node_count s) (node_ok s) ≡ true
  pub deep : within max_depth s 0 ≡ true
  pub each : all_below (node_count s) (own s) ≡ true

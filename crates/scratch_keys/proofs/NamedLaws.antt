-- docs/PORT.md names this law of a name that is marked.
use Prim.Native.Nat.{ℕ}
use mathlib.Core.Path.{◌≡◌, ap}
use mathlib.Core.Bool.{true}
use mathlib.Core.List.{List}
use Rattle.scratch_keys.specs.Keys.{key_node, key_field, is_marked, mark_by, mark_of, name_of}

pub mark_on : (s : List ℕ) → (k : ℕ) → is_marked s (key_node k) (key_field k) ≡ true → (name_of s k).mark ≡ 1
unfolding name_of mark_of mark_by
mark_on s k h = ap mark_by h

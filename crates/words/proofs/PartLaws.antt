-- Laws of a part of a list, `take n (drop at s)`, that is cut short where the list ends. The left sides are as `&s[a..e]` gives them.
use Prim.Native.Nat.{ℕ, ◌+◌, ◌-◌, ◌≤◌}
use mathlib.Core.Path.{◌≡◌, ap, sym, ◌∙◌}
use mathlib.Core.List.{List, []}
use native.Mathlib.Omega.{arith}
use lib.ListN.{length, take, drop, length-drop, drop_of_length-le}
use lib.Seq.{take_all, take-nil}

-- a part that starts at the end or past it is empty
part-past : (s : List ℕ) (at n : ℕ) → length s ≤ at → take n (drop at s) ≡ []
part-past s at n h = rw (drop_of_length-le s h) (take-nil n)

pub part-empty : (s : List ℕ) (at n : ℕ) → length s ≤ at → take (length s - length s) (drop (length s) s) ≡ take n (drop at s)
part-empty s at n h = part-past s (length s) (length s - length s) (omega arith) ∙ sym (part-past s at n h)

-- a part by its start and its end
pub part-between : (s : List ℕ) (at n : ℕ) → take ((at + n) - at) (drop at s) ≡ take n (drop at s)
part-between s at n = let e : (at + n) - at ≡ n = omega arith in ap (λ m. take m (drop at s)) e

-- a count past the end gives all that is left
pub part-rest : (s : List ℕ) (at n : ℕ) → length s - at ≤ n → take (length s - at) (drop at s) ≡ take n (drop at s)
part-rest s at n h =
    take_all (length s - at) (drop at s) (rw length-drop (omega arith)) ∙ sym (take_all n (drop at s) (rw length-drop h))

-- A part of a list put in place of as many elements.
use Rattle.std.specs.Prelude.{ℕ, List, ◌++◌, take, drop}

-- what the k elements from the a-th on become
abbrev pub put_part : List ℕ → ℕ → ℕ → List ℕ → List ℕ
put_part x a k ys = take a x ++ (ys ++ drop k (drop a x))

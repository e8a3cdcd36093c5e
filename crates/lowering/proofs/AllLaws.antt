-- Facts of all entries of a list: by lookup, and by membership.
use Prim.Native.Nat.{ℕ, zero, suc}
use mathlib.Core.List.{List, [], ◌∷◌, ◌++◌}
use lib.ListN.{get_or}
use Rattle.lowering.specs.All.{All}

-- a fact of each entry, and of each lookup
pub all-at : (P : ℕ → Type 0) (xs : List ℕ) (d : ℕ) → All P (xs ++ (d ∷ [])) → (n : ℕ) → P (get_or (xs ++ (d ∷ [])) n d)
all-at P [] d h zero = h.0
all-at P [] d h (suc n) = h.0
all-at P (x ∷ xs) d h zero = h.0
all-at P (x ∷ xs) d h (suc n) = all-at P xs d h.1 n

pub all_from : (P : ℕ → Type 0) (xs : List ℕ) (d : ℕ) → ((n : ℕ) → P (get_or xs n d)) → All P xs
all_from P [] d h = tt
all_from P (x ∷ xs) d h = (h zero, all_from P xs d (λ n. h (suc n)))

-- members, and facts of all members
pub all_map : (P Q : ℕ → Type 0) (xs : List ℕ) → ((q : ℕ) → P q → Q q) → All P xs → All Q xs
all_map P Q [] f h = tt
all_map P Q (x ∷ xs) f h = (f x h.0, all_map P Q xs f h.1)

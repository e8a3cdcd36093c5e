-- A table has a row for each case, or for each split range.
use Prim.Native.Nat.{ℕ, suc}
use mathlib.Core.Path.{◌≡◌, refl, ap}
use mathlib.Core.List.{List, [], ◌∷◌}
use lib.ListN.{length}
use Rattle.switch_split.specs.Split as Split
use Rattle.lowering.specs.Pools.{Pools}
use Rattle.lowering.specs.SwitchLaid.{SwitchLaid}
use Rattle.lowering.specs.SwitchTables.{case_rows, range_rows}

pub case-rows-length : (s : List ℕ) (l : SwitchLaid) (fallback : ℕ) (cs : List ℕ) (p : Pools)
    → length (case_rows s l fallback cs p) ≡ length cs
unfolding case_rows
case-rows-length s l fallback [] p = refl
case-rows-length s l fallback (c ∷ cs) p = ap suc (case-rows-length s l fallback cs _)

pub range-rows-length : (l : SwitchLaid) (fallback : ℕ) (es : List Split.Entry) → length (range_rows l fallback es) ≡ length es
unfolding range_rows
range-rows-length l fallback [] = refl
range-rows-length l fallback (e ∷ es) = ap suc (range-rows-length l fallback es)

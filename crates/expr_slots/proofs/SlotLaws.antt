-- Laws of the search among the first n locals: the last of them is next.
use Prim.Native.Nat.{ℕ, suc}
use mathlib.Core.Path.{◌≡◌}
use mathlib.Core.Bool.{true, false}
use mathlib.Core.Option.{some}
use mathlib.Core.List.{List}
use Rattle.text.specs.Same.{same}
use Rattle.sheet.specs.Node.{local_text}
use Rattle.sheet.specs.Text.{text}
use Rattle.lowering.specs.Slots.{resolve_below}

module _ (s name : List ℕ) where
  pub takes-last : (n : ℕ) → same (text s (local_text s n)) name ≡ true → resolve_below (suc n) s name ≡ some n
  unfolding resolve_below
  takes-last n h = rw (h, resolve_below)

  pub passes-last : (n : ℕ) → same (text s (local_text s n)) name ≡ false → resolve_below (suc n) s name ≡ resolve_below n s name
  unfolding resolve_below
  passes-last n h = rw (h, resolve_below)

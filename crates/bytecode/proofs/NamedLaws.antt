-- docs/PORT.md names these laws; the code's counts are an enum now, and here they are by their numbers.
use Prim.Native.Nat.{ℕ, ◌%◌}
use mathlib.Core.Path.{◌≡◌, refl}
use mathlib.Core.Bool.{true, false}
use lib.Dec.{eqb}
use borrow.Author.Tests.{ne_eqb}
use Rattle.bytecode.specs.Effect.{ref_argc, Count, fixed, argc, argc_ref, pops_a, needs_a, operands, popped}
use Rattle.bytecode.specs.Table.{count_number}

-- the count that is popped on top, by its number, where chain a takes n
unfoldable pub counted : ℕ → ℕ → ℕ → ℕ → ℕ
counted which a b n =
    elim (eqb which 1) [
      | true ↦ b % 256
      | false ↦
          elim (eqb which 2) [
            | true ↦ ref_argc b
            | false ↦ elim (eqb which 3) [ true ↦ a | false ↦ elim (eqb which 5) [ true ↦ n | false ↦ 0 ] ]
          ]
    ]

-- what is counted by its number is what the definition says
pub counted_is : (c : Count) (a b n : ℕ) → counted (count_number c) a b n ≡ popped c a b n
unfolding counted count_number popped
counted_is fixed a b n = refl
counted_is argc a b n = refl
counted_is argc_ref a b n = refl
counted_is pops_a a b n = refl
counted_is needs_a a b n = refl
counted_is operands a b n = refl

pub counted_none : (which a b n : ℕ) → (which ≡ 1 → ⊥) → (which ≡ 2 → ⊥) → (which ≡ 3 → ⊥) → (which ≡ 5 → ⊥) → 0 ≡ counted which a b n
unfolding counted
counted_none which a b n h1 h2 h3 h5 = rw (ne_eqb which 1 h1, ne_eqb which 2 h2, ne_eqb which 3 h3, ne_eqb which 5 h5, counted)

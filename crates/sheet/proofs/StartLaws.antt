-- Laws of the start position, in the shapes of the code.
use Rattle.std.proofs.Common.{◌≡◌, ℕ, zero, suc, ◌-◌, true, false, List, refl, sub-one, arith}
use Rattle.sheet.specs.Node.{kind, child}
use Rattle.sheet.specs.Start.{starts_inside, start_within, own_start}

pub start-spent : (left : ℕ) (s : List ℕ) (n : ℕ) → left ≡ 0 → own_start s n ≡ start_within left s n
unfolding start_within
start-spent zero s n e = refl
start-spent (suc left) s n e = absurd (omega arith)

pub start-inside : (left : ℕ) (s : List ℕ) (n : ℕ) → (left ≡ 0 → ⊥) → starts_inside (kind s n) ≡ true
    → start_within (left - 1) s (child n) ≡ start_within left s n
unfolding start_within
start-inside zero s n ne e = absurd (ne refl)
start-inside (suc left) s n ne e = rw (sub-one, start_within, e)

pub start-own : (left : ℕ) (s : List ℕ) (n : ℕ) → starts_inside (kind s n) ≡ false → own_start s n ≡ start_within left s n
unfolding start_within
start-own zero s n e = refl
start-own (suc left) s n e = rw (e, start_within)

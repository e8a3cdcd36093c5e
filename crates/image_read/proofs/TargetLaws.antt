-- A table's row goes to the target of its row of the pool.
use Prim.Native.Nat.{ℕ, ◌+◌, ◌*◌}
use mathlib.Core.Path.{◌≡◌, refl, sym, ap}
use mathlib.Core.Bool.{Bool, true, false}
use mathlib.Core.List.{List}
use native.Mathlib.Omega.{arith}
use lib.Dec.{eqb}
use Rattle.lowering.specs.Limits.{case_width, range_width, range_target}
use Rattle.lowering.specs.Words.{word, cases_at, ranges_at, case_word, range_word, switch_word}
use Rattle.lowering.specs.Run.{row_target}
use Rattle.image_read.specs.Targets.{targets_at, apart, target_of}

target-case : (w : List ℕ) (kind j : ℕ) → eqb kind 0 ≡ true → target_of w kind j ≡ case_word w j 0
unfolding target_of targets_at apart case_word
target-case w kind j e =
    let same : cases_at w + case_width * j ≡ cases_at w + case_width * j + 0 = omega arith in
    rw (e, targets_at, apart) (ap (word w) same)

pub target-range : (w : List ℕ) (kind j : ℕ) → eqb kind 0 ≡ false → target_of w kind j ≡ range_word w j 5
unfolding target_of targets_at apart range_word
target-range w kind j e =
    let same : ranges_at w + range_target + range_width * j ≡ ranges_at w + range_width * j + range_target = omega arith in
    rw (e, targets_at, apart) (ap (word w) same)

pub row-target : (w : List ℕ) (i r : ℕ) → row_target w i r ≡ target_of w (switch_word w i 0) (switch_word w i 1 + r)
unfolding row_target
row-target w i r = by (eqb (switch_word w i 0) 0) refl
  where
    j : ℕ
    j = switch_word w i 1 + r

    by : (b : Bool) → eqb (switch_word w i 0) 0 ≡ b → row_target w i r ≡ target_of w (switch_word w i 0) (switch_word w i 1 + r)
    by true e = rw (e, row_target) (sym (target-case w (switch_word w i 0) j e))
    by false e = rw (e, row_target) (sym (target-range w (switch_word w i 0) j e))

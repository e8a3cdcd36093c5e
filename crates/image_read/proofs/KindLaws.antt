-- Words that are no kind.
use Prim.Native.Nat.{ℕ, ◌<◌}
use mathlib.Core.Path.{◌≡◌, refl}
use native.Mathlib.Omega.{arith}
use borrow.Author.Tests.{ne_eqb}
use Rattle.std.specs.Prelude.{None}
use Rattle.image_read.specs.Kinds.{root_of, step_of}

pub root-past : (k : ℕ) → 3 < k → root_of k ≡ None
unfolding root_of
root-past k h =
    rw (ne_eqb k 0 (λ e. omega arith), ne_eqb k 1 (λ e. omega arith), ne_eqb k 2 (λ e. omega arith), ne_eqb k 3 (λ e. omega arith), root_of) refl

pub step-past : (k : ℕ) → 2 < k → step_of k ≡ None
unfolding step_of
step-past k h = rw (ne_eqb k 0 (λ e. omega arith), ne_eqb k 1 (λ e. omega arith), ne_eqb k 2 (λ e. omega arith), step_of) refl

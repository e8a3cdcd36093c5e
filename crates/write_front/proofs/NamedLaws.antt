-- docs/PORT.md names these laws; `omega` finds them where they were used, or the section is written by a closure.
use Prim.Native.Nat.{ℕ, ◌+◌, ◌*◌, ◌^◌, ◌≤◌, ◌<◌}
use mathlib.Core.List.{List}
use native.Mathlib.Omega.{arith}
use lib.ListN.{length}
use mir.Syntax.{w32, w64}
use mir.Val.{Fits}
use Rattle.lowering.specs.Limits.{op_width}
use Rattle.lowering.specs.Code.{code_words}
use Rattle.expr_model.specs.Made.{Made}
use Rattle.scratch.specs.declared.Layout.{Layout}
use Rattle.scratch.specs.Places.{region}
use Rattle.scratch_store.specs.declared.State.{State}
use Rattle.scratch_store.specs.Holds.{Holds}
use Rattle.write_front.specs.Puts.{Puts}
use Rattle.write_front.proofs.PutsLaws.{puts-as}

-- a part starts before its end
pub from_start : (b n : ℕ) → b ≤ b + n
from_start b n = omega arith

-- two of a word fit two words
pub two_fits : (n : ℕ) (f : Fits w32 n) → Fits w64 (2 * n)
two_fits n f = let few = f.fits in record { fits = omega arith }

-- a part of n words from b on, of m
module _ (m b n : ℕ) (h : b + n ≤ m) where
  pub end_fits : m < 2 ^ 64 → Fits w64 (b + n)
  end_fits r = record { fits = omega arith }

  -- it does not reach beyond the slice
  pub inside : m < b + n → ⊥
  inside l = omega arith

-- the words of the code are put
pub code_put :
    {s : List ℕ} {l : Layout} {xs : List ℕ} {st : State} {a : Made} (h : Holds s l xs st a) {x y : List ℕ} {at r : ℕ}
    → (0 + op_width * st.code ≤ length xs → Puts x y at r (region 0 (op_width * st.code) xs)) → Puts x y at r (code_words a.code)
code_put {s} {l} {xs} {st} {a} h f =
    let room : 0 + op_width * st.code ≤ length xs = omega (arith, h.fit.space, h.counts.standing, h.counts.within) in
    puts-as (region 0 (op_width * st.code) xs) (code_words a.code) h.emitted.code (f room)

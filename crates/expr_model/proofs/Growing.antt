-- No change lowers the count of instructions emitted, and none takes the depth or the length of the code above it.
use Prim.Native.Nat.{ℕ, ◌≤◌}
use mathlib.Core.List.{List}
use native.Mathlib.Omega.{arith}
use Rattle.bytecode.specs.declared.Receiver.{Receiver}
use Rattle.lowering.specs.Pools.{no_pools}
use Rattle.expr_model.specs.Made.{Made, nothing, place, defeated, at_depth, lowered}
use Rattle.expr_model.specs.Made as Made
use Rattle.expr_model.specs.Construct.{Low, call_ref, rotate, call_as, call_end, property, steps, root_name, close_chain}
use Rattle.expr_model.proofs.Rising.{
  Grown,
  Rising,
  as-rises,
  call-end-rises,
  close-rises,
  defeated-rises,
  lowered-rises,
  property-rises,
  ref-rises,
  residual-rises,
  root-name-rises,
  rotate-rises,
  steps-rise,
}

abbrev pub Growing : (Made → Made) → Type 0
Growing F = (a : Made) → a.pools.emitted ≤ (F a).pools.emitted

-- so is the length of the code
abbrev pub Short : Made → Type 0
Short a = place a ≤ a.pools.emitted

pub nothing-short : Short nothing
unfolding nothing no_pools
nothing-short = omega arith

pub grown-short : {a x : Made} → Grown a x → Short a → Short x
grown-short g h = omega (arith, g.emitted, g.place)

-- ---- the count, change by change

pub defeated-grows : Growing defeated
defeated-grows a = (defeated-rises a).emitted

pub depth-grows : (d : ℕ) → Growing (at_depth d)
unfolding at_depth
depth-grows d a = omega arith

pub residual-grows : (j : ℕ) → Growing (Made.residual j)
residual-grows j a = (residual-rises j a).emitted

pub lowered-grows : (levels : ℕ) (s : List ℕ) (j : ℕ) → Growing (lowered levels s j)
lowered-grows levels s j a = (lowered-rises levels s j a).emitted

module _ (s : List ℕ) (j : ℕ) where
  pub ref-grows : (r : Receiver) → Growing (call_ref s j r)
  ref-grows r a = (ref-rises s j r a).emitted

  pub as-grows : (op capture : ℕ) → Growing (call_as s j op capture)
  as-grows op capture a = (as-rises s j op capture a).emitted

  pub call-end-grows : Growing (call_end s j)
  call-end-grows a = (call-end-rises s j a).emitted

pub rotate-grows : (others : ℕ) → Growing (rotate others)
rotate-grows others a = (rotate-rises others a).emitted

module _ (s : List ℕ) where
  pub property-grows : (x : ℕ) → Growing (property s x)
  property-grows x a = (property-rises s x a).emitted

  pub root-name-grows : (v : ℕ) → Growing (root_name s v)
  root-name-grows v a = (root-name-rises s v a).emitted

  pub close-grows : (j : ℕ) → Growing (close_chain s j)
  close-grows j a = (close-rises s j a).emitted

module _ (s : List ℕ) (low : Low) (L : (j : ℕ) → Rising (low j)) where
  pub steps-grow : (cs : List ℕ) → Growing (steps s low cs)
  steps-grow cs a = (steps-rise s low L cs a).emitted

-- Every change adds to the count of instructions emitted, and at least as much as to the code and to the depth.
use Prim.Native.Nat.{ℕ, zero, suc, ◌+◌, ◌≤◌}
use mathlib.Core.Path.{◌≡◌, refl, ap}
use mathlib.Core.Bool.{Bool, true, false}
use mathlib.Core.List.{List, [], ◌∷◌}
use native.Mathlib.Omega.{arith}
use lib.Dec.{eqb}
use lib.ListN.{length, length-append}
use Rattle.sheet.specs.Node.{count, field_a, field_b, field_c, position, child}
use Rattle.sheet.specs.Namespace.{role}
use Rattle.sheet.specs.Walk.{skip}
use Rattle.bytecode.specs.declared.Receiver.{Receiver}
use Rattle.bytecode.specs.declared.Root.{Root}
use Rattle.bytecode.specs.declared.Step.{Step}
use Rattle.bytecode.specs.declared.Op.{Op}
use Rattle.lowering.specs.Kinds.{variable_kind}
use Rattle.lowering.specs.Code.{ins, no_pos}
use Rattle.lowering.specs.Pools.{
  Const,
  Name,
  Pools,
  emits,
  defeat,
  push_const,
  push_name,
  push_token,
  push_residual,
  name,
  chain_at,
  new_chain,
  push_chain,
}
use Rattle.lowering.specs.Call.{stores_token}
use Rattle.lowering.specs.Flatten as Flatten
use Rattle.lowering.specs.Flatten.{StepRule, step_rule, operand_of}
use Rattle.lowering.specs.Expression.{expression}
use Rattle.expr_chains.specs.Steps.{chain_root, chain_steps, chain_operands}
use Rattle.expr_chains.specs.Lowers.{step_lowers}
use Rattle.expr_count.specs.Link.{temporary}
use Rattle.expr_count.proofs.CountLaws.{tally-length, tally-emitted}
use Rattle.expr_model.specs.Made.{Made, place, after, emit, add_const, add_name, add_token, add_residual, defeated, lowered}
use Rattle.expr_model.specs.Made as Made
use Rattle.expr_model.specs.Construct.{
  Low,
  operands,
  call_ref,
  rotate,
  call_as,
  call_token,
  call_end,
  property,
  method,
  step_by,
  steps,
  root_name,
  add_chain,
  close_chain,
}
use Rattle.expr_model.proofs.AfterLaws.{after-least}
use Rattle.expr_model.proofs.TallyLaws.{tally-some, tally-within}

-- x is behind a
pub record Grown (a x : Made) : Type 0 where
  pub emitted : a.pools.emitted ≤ x.pools.emitted
  pub depth : x.depth + a.pools.emitted ≤ x.pools.emitted + a.depth
  pub place : place x + a.pools.emitted ≤ x.pools.emitted + place a

abbrev pub Rising : (Made → Made) → Type 0
Rising F = (a : Made) → Grown a (F a)

-- ---- what has been made so far

pub grown-refl : (a : Made) → Grown a a
grown-refl a = record { emitted = omega arith; depth = omega arith; place = omega arith }

pub grown-trans : {a x y : Made} → Grown a x → Grown x y → Grown a y
grown-trans g h =
    record {
      emitted = omega (arith, g.emitted, h.emitted);
      depth = omega (arith, g.depth, h.depth);
      place = omega (arith, g.place, h.place);
    }

-- a change behind another
rise-more : (F : Made → Made) → Rising F → {a : Made} (x : Made) → Grown a x → Grown a (F x)
rise-more F f x g = grown-trans g (f x)

-- one instruction
pub emit-counts : (op : Op) (pos n : ℕ) (a : Made) → (emit op pos n a).pools.emitted ≡ a.pools.emitted + 1
unfolding emit emits
emit-counts op pos n a = refl

emit-depth : (op : Op) (pos n : ℕ) (a : Made) → (emit op pos n a).depth ≡ after op n a.depth
unfolding emit
emit-depth op pos n a = refl

emit-place : (op : Op) (pos n : ℕ) (a : Made) → place (emit op pos n a) ≡ place a + 1
unfolding emit
emit-place op pos n a = length-append a.code (ins op a.depth pos ∷ [])

pub emit-rises : (op : Op) (pos n : ℕ) → Rising (emit op pos n)
emit-rises op pos n a =
    let e = emit-counts op pos n a in
    let d = emit-depth op pos n a in
    let l = after-least op n a.depth in
    let p = emit-place op pos n a in
    record { emitted = omega arith; depth = omega arith; place = omega arith }

pub emit-more : (op : Op) (pos n : ℕ) {a : Made} (x : Made) → Grown a x → Grown a (emit op pos n x)
emit-more op pos n x g = grown-trans g (emit-rises op pos n x)

-- pools that take something up
pools-rise : (a : Made) {x : Made} → x.pools.emitted ≡ a.pools.emitted → x.depth ≡ a.depth → x.code ≡ a.code → Grown a x
pools-rise a e d c = let l = ap length c in record { emitted = omega arith; depth = omega arith; place = omega arith }

pub const-rises : (s : List ℕ) (c : Const) → Rising (add_const s c)
unfolding add_const push_const
const-rises s c a = pools-rise a refl refl refl

name-rises : (s : List ℕ) (n : Name) → Rising (add_name s n)
unfolding add_name push_name
name-rises s n a = pools-rise a refl refl refl

token-rises : (t : ℕ) → Rising (add_token t)
unfolding add_token push_token
token-rises t a = pools-rise a refl refl refl

add-residual-rises : (j : ℕ) → Rising (add_residual j)
unfolding add_residual push_residual
add-residual-rises j a = pools-rise a refl refl refl

pub defeated-rises : Rising defeated
unfolding defeated defeat
defeated-rises a = pools-rise a refl refl refl

push-stays : (root : Root) (xs : List Step) (n : ℕ) (p : Pools) → (push_chain root xs n p).emitted ≡ p.emitted
unfolding push_chain new_chain
push-stays root xs n p = by (eqb (chain_at root xs n p) (length p.chains)) refl
  where
    by : (t : Bool) → eqb (chain_at root xs n p) (length p.chains) ≡ t → (push_chain root xs n p).emitted ≡ p.emitted
    by true h = rw (h, push_chain)
    by false h = rw (h, push_chain)

chain-stays : (s : List ℕ) (j : ℕ) (a : Made) → (add_chain s j a).pools.emitted ≡ a.pools.emitted
unfolding add_chain
chain-stays s j a = let ns = a.pools.names in push-stays (chain_root s ns j) (chain_steps s ns j) (chain_operands s j) a.pools

chain-deep : (s : List ℕ) (j : ℕ) (a : Made) → (add_chain s j a).depth ≡ a.depth
unfolding add_chain
chain-deep s j a = refl

chain-code : (s : List ℕ) (j : ℕ) (a : Made) → (add_chain s j a).code ≡ a.code
unfolding add_chain
chain-code s j a = refl

pub residual-rises : (j : ℕ) → Rising (Made.residual j)
unfolding Made.residual
residual-rises j a = emit-more _ no_pos 0 (add_residual j a) (add-residual-rises j a)

-- a node lowered
pub lowered-rises : (levels : ℕ) (s : List ℕ) (j : ℕ) → Rising (lowered levels s j)
unfolding lowered
lowered-rises levels s j a =
    let e = tally-emitted levels s j (place a) a.depth a.pools in
    let l = tally-some levels s j in
    let o = expression levels s j (place a) a.depth a.pools in
    let n = tally-length levels s j (place a) a.depth a.pools in
    let w = tally-within levels s j in
    let p = length-append a.code o.code in
    record { emitted = omega arith; depth = omega arith; place = omega arith }

-- ---- calls, without their arguments

module _ (s : List ℕ) (j : ℕ) where
  pub ref-rises : (r : Receiver) → Rising (call_ref s j r)
  unfolding call_ref
  ref-rises r a = emit-more _ (position s j) 0 (add_name s (name (field_a s j) 0) a) (name-rises s (name (field_a s j) 0) a)

  pub as-rises : (op capture : ℕ) → Rising (call_as s j op capture)
  unfolding call_as
  as-rises op capture a =
      emit-more _ (position s j) 0 (add_name s (name (field_a s j) capture) a) (name-rises s (name (field_a s j) capture) a)

  call-token-rises : Rising (call_token s j)
  unfolding call_token
  call-token-rises a = rise-more (call_as s j _ 0) (as-rises _ 0) (add_token (field_c s j) a) (token-rises (field_c s j) a)

  pub call-end-rises : Rising (call_end s j)
  unfolding call_end
  call-end-rises a = by (stores_token s j) refl
    where
      by : (t : Bool) → stores_token s j ≡ t → Grown a (call_end s j a)
      by true h = rw (h, call_end) (call-token-rises a)
      by false h = rw (h, call_end) (as-rises 0 (field_b s j) a)

pub rotate-rises : (others : ℕ) → Rising (rotate others)
unfolding rotate
rotate-rises others a = by (eqb others 0) refl
  where
    by : (t : Bool) → eqb others 0 ≡ t → Grown a (rotate others a)
    by true h = rw (h, rotate) (grown-refl a)
    by false h = rw (h, rotate) (emit-rises (Op.Rotate others) no_pos 0 a)

-- ---- chains, without their operands

module _ (s : List ℕ) where
  pub property-rises : (x : ℕ) → Rising (property s x)
  unfolding property
  property-rises x a =
      let y = add_name s (name (field_a s x) 0) a in
      let z = add_name s (name (field_b s x) 0) y in
      rise-more (add_name s (name (field_c s x) 0)) (name-rises s (name (field_c s x) 0)) z
      (rise-more (add_name s (name (field_b s x) 0)) (name-rises s (name (field_b s x) 0)) y (name-rises s (name (field_a s x) 0) a))

  pub root-name-rises : (v : ℕ) → Rising (root_name s v)
  unfolding root_name
  root-name-rises v a = by (eqb (role s v) variable_kind) refl
    where
      by : (t : Bool) → eqb (role s v) variable_kind ≡ t → Grown a (root_name s v a)
      by true h = rw (h, root_name) (name-rises s (name (field_a s v) 0) a)
      by false h = rw (h, root_name) (grown-refl a)

  add-chain-rises : (j : ℕ) → Rising (add_chain s j)
  add-chain-rises j a = pools-rise a (chain-stays s j a) (chain-deep s j a) (chain-code s j a)

  pub close-rises : (j : ℕ) → Rising (close_chain s j)
  unfolding close_chain
  close-rises j a = emit-more _ (position s j) (chain_operands s j + temporary s (child j)) (add_chain s j a) (add-chain-rises j a)

-- ---- constructs, with a lowering of nodes that does the same

module _ (s : List ℕ) (low : Low) (L : (j : ℕ) → Rising (low j)) where
  operands-rise : (n j : ℕ) → Rising (operands s low n j)
  unfolding operands
  operands-rise zero j a = grown-refl a
  operands-rise (suc n) j a = rise-more (low (skip s n j)) (L (skip s n j)) (operands s low n j a) (operands-rise n j a)

  -- the steps of a chain
  method-rises : (x : ℕ) → Rising (method s low x)
  unfolding method
  method-rises x a =
      let n = name (field_a s x) 0 in
      rise-more (add_name s n) (name-rises s n) (operands s low (count s x) (child x) a) (operands-rise (count s x) (child x) a)

  step-rises : (r : StepRule) (c : ℕ) → Rising (step_by r s low c)
  unfolding step_by
  step-rises Flatten.index c a = L (operand_of s c) a
  step-rises Flatten.property c a = property-rises s (operand_of s c) a
  step-rises Flatten.method c a = method-rises (operand_of s c) a
  step-rises Flatten.none c a = grown-refl a

  pub steps-rise : (cs : List ℕ) → Rising (steps s low cs)
  unfolding steps
  steps-rise [] a = grown-refl a
  steps-rise (c ∷ cs) a = by (step_lowers s c) refl (steps-rise cs)
    where
      by : (t : Bool) → step_lowers s c ≡ t → Rising (steps s low cs) → Grown a (steps s low (c ∷ cs) a)
      by true h more = rw (h, steps) (rise-more (steps s low cs) more (step_by (step_rule s c) s low c a) (step-rises (step_rule s c) c a))
      by false h more = rw (h, steps) (grown-refl a)

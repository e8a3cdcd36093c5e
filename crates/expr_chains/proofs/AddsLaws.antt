-- The lowering of an expression only adds to the pools.
use Prim.Native.Nat.{ℕ, ◌≤◌}
use mathlib.Core.Path.{◌≡◌, refl}
use mathlib.Core.Bool.{Bool, true, false}
use mathlib.Core.List.{List, [], ◌∷◌}
use native.Mathlib.Omega.{arith}
use lib.Dec.{eqb}
use lib.ListN.{length}
use Rattle.bytecode.specs.declared.Root.{Root}
use Rattle.bytecode.specs.declared.Step.{Step}
use Rattle.lowering.specs.Pools.{Pools, Const, Name, emits, defeat, same_const, same_name, push_const, push_name, push_token, push_residual}
use Rattle.lowering.specs.Pools.{chain_at, new_chain, push_chain}
use Rattle.lowering.specs.Expression.{expression}
use Rattle.expr_chains.proofs.Grow.{Grows, grows-refl, grows-trans}
use Rattle.expr_chains.proofs.FindLaws.{added-grows}
use Rattle.expr_chains.proofs.WalkLaws.{NamesGrow}
use Rattle.expr_chains.proofs.SteadyLaws.{Steady, expression-follows}

-- each pool has grown, and so has the count of instructions emitted
pub record Adds (p q : Pools) : Type 0 where
  pub consts : Grows p.consts q.consts
  pub names : Grows p.names q.names
  pub tokens : Grows p.tokens q.tokens
  pub residuals : Grows p.residuals q.residuals
  pub chains : Grows p.chains q.chains
  pub steps : Grows p.steps q.steps
  pub emitted : p.emitted ≤ q.emitted

adds_none : (p : Pools) → Adds p p
adds_none p = record {
  consts = grows-refl p.consts;
  names = grows-refl p.names;
  tokens = grows-refl p.tokens;
  residuals = grows-refl p.residuals;
  chains = grows-refl p.chains;
  steps = grows-refl p.steps;
  emitted = omega arith;
}

adds_then : {p q r : Pools} → Adds p q → Adds q r → Adds p r
adds_then g h = record {
  consts = grows-trans g.consts h.consts;
  names = grows-trans g.names h.names;
  tokens = grows-trans g.tokens h.tokens;
  residuals = grows-trans g.residuals h.residuals;
  chains = grows-trans g.chains h.chains;
  steps = grows-trans g.steps h.steps;
  emitted = omega (arith, g.emitted, h.emitted);
}

adds-emits : (n : ℕ) (p : Pools) → Adds p (emits n p)
unfolding emits
adds-emits n p = record {
  consts = grows-refl p.consts;
  names = grows-refl p.names;
  tokens = grows-refl p.tokens;
  residuals = grows-refl p.residuals;
  chains = grows-refl p.chains;
  steps = grows-refl p.steps;
  emitted = omega arith;
}

adds-defeat : (p : Pools) → Adds p (defeat p)
unfolding defeat
adds-defeat p = record {
  consts = grows-refl p.consts;
  names = grows-refl p.names;
  tokens = grows-refl p.tokens;
  residuals = grows-refl p.residuals;
  chains = grows-refl p.chains;
  steps = grows-refl p.steps;
  emitted = omega arith;
}

adds-const : (s : List ℕ) (c : Const) (p : Pools) → Adds p (push_const s c p)
unfolding push_const
adds-const s c p = record {
  consts = added-grows (same_const s c) c p.consts;
  names = grows-refl p.names;
  tokens = grows-refl p.tokens;
  residuals = grows-refl p.residuals;
  chains = grows-refl p.chains;
  steps = grows-refl p.steps;
  emitted = omega arith;
}

adds-name : (s : List ℕ) (n : Name) (p : Pools) → Adds p (push_name s n p)
unfolding push_name
adds-name s n p = record {
  consts = grows-refl p.consts;
  names = added-grows (same_name s n) n p.names;
  tokens = grows-refl p.tokens;
  residuals = grows-refl p.residuals;
  chains = grows-refl p.chains;
  steps = grows-refl p.steps;
  emitted = omega arith;
}

adds-token : (t : ℕ) (p : Pools) → Adds p (push_token t p)
unfolding push_token
adds-token t p = record {
  consts = grows-refl p.consts;
  names = grows-refl p.names;
  tokens = added-grows (eqb t) t p.tokens;
  residuals = grows-refl p.residuals;
  chains = grows-refl p.chains;
  steps = grows-refl p.steps;
  emitted = omega arith;
}

adds-residual : (j : ℕ) (p : Pools) → Adds p (push_residual j p)
unfolding push_residual
adds-residual j p = record {
  consts = grows-refl p.consts;
  names = grows-refl p.names;
  tokens = grows-refl p.tokens;
  residuals = record { more = j ∷ []; whole = refl };
  chains = grows-refl p.chains;
  steps = grows-refl p.steps;
  emitted = omega arith;
}

adds-new : (r : Root) (xs : List Step) (n : ℕ) (p : Pools) → Adds p (new_chain r xs n p)
unfolding new_chain
adds-new r xs n p = record {
  consts = grows-refl p.consts;
  names = grows-refl p.names;
  tokens = grows-refl p.tokens;
  residuals = grows-refl p.residuals;
  chains = record { more = _; whole = refl };
  steps = record { more = xs; whole = refl };
  emitted = omega arith;
}

adds-chain : (r : Root) (xs : List Step) (n : ℕ) (p : Pools) → Adds p (push_chain r xs n p)
unfolding push_chain
adds-chain r xs n p = by (eqb (chain_at r xs n p) (length p.chains)) refl
  where
    by : (t : Bool) → eqb (chain_at r xs n p) (length p.chains) ≡ t → Adds p (push_chain r xs n p)
    by true e = rw (e, push_chain) (adds-new r xs n p)
    by false e = rw (e, push_chain) (adds_none p)

adds-steady : (s : List ℕ) → Steady s Adds
adds-steady s = record {
  stays = adds_none;
  joins = adds_then;
  by-emits = adds-emits;
  by-defeat = adds-defeat;
  by-const = adds-const s;
  by_name = adds-name s;
  by_token = adds-token;
  by-residual = adds-residual;
  by_chain = adds-chain;
}

expression-adds : (s : List ℕ) (levels j b d : ℕ) (p : Pools) → Adds p (expression levels s j b d p).pools
expression-adds s levels j b d p = (expression-follows s Adds (adds-steady s) levels).follows j b d p

-- names only grow, as the walk along a chain asks
pub names-grow : (s : List ℕ) (levels : ℕ) → NamesGrow (expression levels s)
names-grow s levels = record { grows = λ j b d p. (expression-adds s levels j b d p).names }

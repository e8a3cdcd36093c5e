-- What a construct adds to a pool, it adds right: constants, names, tokens, residuals, chains. The entry is there afterwards.
use Prim.Native.Nat.{ℕ, ◌+◌, ◌≤◌, ◌<◌}
use mathlib.Core.Path.{◌≡◌, refl, sym, subst}
use mathlib.Core.Bool as Truth
use mathlib.Core.Bool.{true, false}
use mathlib.Core.List.{List, [], ◌∷◌}
use native.Mathlib.Omega.{arith}
use lib.Dec.{eqb}
use lib.ListN.{length, length-append, get_or-append}
use lib.Seq.{get_or-append-add}
use Rattle.sheet.specs.Sections.{node_count, text_count}
use Rattle.bytecode.specs.declared.Root.{Root}
use Rattle.bytecode.specs.declared.Step.{Step}
use Rattle.bytecode.specs.declared.Chain as ChainRecord
use Rattle.lowering.specs.Limits.{max_elements}
use Rattle.lowering.specs.Pools.{Pools, Const, Name, same_const, const_at, push_const, name, same_name, name_at, push_name, token_at}
use Rattle.lowering.specs.Pools.{push_token, push_residual, chain_at, new_chain, push_chain}
use Rattle.lowering.specs.Nodes.{Valid}
use Rattle.lowering.proofs.ChainPool.{push-new, push-old}
use Rattle.image_made.proofs.Listed.{ConstOk, NameOk, TokenOk, RootOk, StepOk, StepIn, no_step, ChainOk, AllIn, all-in-at, PoolsOk}
use Rattle.image_made.proofs.Gives.{Gives, all_append, all_more, all_map, steps-more, chains-more, gives_none, added-right}

-- a name without mark and namespace
pub bare-name : (s : List ℕ) {x : ℕ} → x < text_count s → NameOk s (name x 0)
bare-name s h = (h, omega arith, omega arith)

module _ (s : List ℕ) (T : ℕ) (p : Pools) (G : PoolsOk s p) where
  -- what is pushed is right, and what is looked for is there: constants, names, tokens, residuals
  pub const-pushed : (c : Const) → ConstOk s c → Gives s T p [] (push_const s c p)
  unfolding push_const
  const-pushed c h =
      let a = added-right (ConstOk s) (same_const s c) c p.consts G.consts h in
      record {
        good = record {
          consts = a.good;
          names = G.names;
          tokens = G.tokens;
          residuals = G.residuals;
          chains = chains-more s p (push_const s c p) (omega arith) refl G.chains;
          steps = G.steps;
        };
        more = omega (arith, a.more);
        code = tt;
      }

  pub const-there : (c : Const) → ConstOk s c → const_at s c p < length (push_const s c p).consts
  unfolding const_at push_const
  const-there c h = (added-right (ConstOk s) (same_const s c) c p.consts G.consts h).there

  pub name-pushed : (n : Name) → NameOk s n → Gives s T p [] (push_name s n p)
  unfolding push_name
  name-pushed n h =
      let a = added-right (NameOk s) (same_name s n) n p.names G.names h in
      record {
        good = record {
          consts = G.consts;
          names = a.good;
          tokens = G.tokens;
          residuals = G.residuals;
          chains = chains-more s p (push_name s n p) a.more refl G.chains;
          steps = steps-more (length p.names) (length (push_name s n p).names) a.more p.steps G.steps;
        };
        more = omega (arith, a.more);
        code = tt;
      }

  pub name-there : (n : Name) → NameOk s n → name_at s n p < length (push_name s n p).names
  unfolding name_at push_name
  name-there n h = (added-right (NameOk s) (same_name s n) n p.names G.names h).there

  pub token-pushed : (t : ℕ) → TokenOk t → Gives s T p [] (push_token t p)
  unfolding push_token
  token-pushed t h =
      let a = added-right TokenOk (eqb t) t p.tokens G.tokens h in
      record {
        good = record {
          consts = G.consts;
          names = G.names;
          tokens = a.good;
          residuals = G.residuals;
          chains = chains-more s p (push_token t p) (omega arith) refl G.chains;
          steps = G.steps;
        };
        more = omega (arith, a.more);
        code = tt;
      }

  pub token-there : (t : ℕ) → TokenOk t → token_at t p < length (push_token t p).tokens
  unfolding token_at push_token
  token-there t h = (added-right TokenOk (eqb t) t p.tokens G.tokens h).there

  pub residual-pushed : (j : ℕ) → Valid s j → Gives s T p [] (push_residual j p)
  unfolding push_residual
  residual-pushed j h = record {
    good = record {
      consts = G.consts;
      names = G.names;
      tokens = G.tokens;
      residuals = all_more (λ j. j < node_count s) p.residuals j G.residuals h;
      chains = chains-more s p (push_residual j p) (omega arith) refl G.chains;
      steps = G.steps;
    };
    more = omega (arith, length-append p.residuals (j ∷ []));
    code = tt;
  }

-- a chain with n operands whose root and steps are right
module _ (s : List ℕ) (T : ℕ) (p : Pools) (G : PoolsOk s p) (root : Root) (xs : List Step) (n : ℕ) (R : RootOk s (length p.names) root)
    (X : AllIn (StepOk (length p.names)) xs) (I : AllIn (StepIn n) xs) (few : n ≤ max_elements) where
  abbrev new : ChainRecord.Chain
  new = record { root = root; first = length p.steps; steps = length xs; operands = n }

  -- the chains before it have their steps where they had them
  old-chain : (c : ChainRecord.Chain) → ChainOk s p c → ChainOk s (new_chain root xs n p) c
  unfolding new_chain
  old-chain c h = record {
    root = h.root;
    run = omega (arith, h.run, length-append p.steps xs);
    few = h.few;
    inside = λ i b.
        subst (StepIn c.operands) (sym (get_or-append p.steps xs no_step (c.first + i) (omega (arith, h.run)))) (h.inside i b);
  }

  -- the new one is right
  new-chain : ChainOk s (new_chain root xs n p) new
  unfolding new_chain
  new-chain = record {
    root = R;
    run = omega (arith, length-append p.steps xs);
    few = few;
    inside = λ i b. subst (StepIn n) (sym (get_or-append-add p.steps xs i no_step)) (all-in-at (StepIn n) xs no_step I i b);
  }

  -- and all pools
  new-gives : Gives s T p [] (new_chain root xs n p)
  unfolding new_chain
  new-gives =
      let Ok = ChainOk s (new_chain root xs n p) in
      record {
        good = record {
          consts = G.consts;
          names = G.names;
          tokens = G.tokens;
          residuals = G.residuals;
          chains = all_more Ok p.chains new (all_map (ChainOk s p) Ok p.chains old-chain G.chains) new-chain;
          steps = all_append (StepOk (length p.names)) p.steps xs G.steps X;
        };
        more = omega (arith, length-append p.chains (new ∷ []));
        code = tt;
      }

  -- the same where a chain like it is there already
  pub chain-pushed : Gives s T p [] (push_chain root xs n p)
  chain-pushed = by (eqb (chain_at root xs n p) (length p.chains)) refl
    where
      by : (b : Truth.Bool) → eqb (chain_at root xs n p) (length p.chains) ≡ b → Gives s T p [] (push_chain root xs n p)
      by true e = rw (push-new root xs n p e) new-gives
      by false e = rw (push-old root xs n p e) (gives_none G)

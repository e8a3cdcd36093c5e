-- A residual: the instruction, and the node kept behind the others. The depth where a jump comes in, the code taken back, and the start.
use Rattle.std.proofs.Common.{◌≡◌, ℕ, ◌+◌, ◌*◌, ◌%◌, ◌<◌, ◌≤◌, List, [], ◌∷◌, ◌++◌, length, set, sym, refl, ap, ◌∙◌, subst, append_assoc}
use Rattle.std.proofs.Common.{arith, length-append, length-set}
use Rattle.lowering.proofs.Decode.{code-length, positions-length}
use Rattle.bytecode.specs.declared.Op.TheVariants.{EvalAst}
use Rattle.bytecode.specs.Op.{op_words}
use Rattle.lowering.specs.Limits.{op_width, names_per_node}
use Rattle.lowering.specs.Code.{Code, code_words, positions, greatest}
use Rattle.lowering.specs.Pools.{no_pools, emits, defeat, push_residual}
use Rattle.expr_chains.proofs.Grow.{Grows}
use Rattle.expr_chains.proofs.KeptLaws.{kept-residual, kept-defeat, kept-none}
use Rattle.expr_model.specs.Made.{Made, nothing, emit, add_residual, residual, defeated, at_depth, take_back}
use Rattle.scratch.specs.declared.Layout.{Layout}
use Rattle.scratch_index.specs.Indexes.{Indexes}
use Rattle.scratch_index.proofs.IndexesLaws.{indexes-before}
use Rattle.scratch_store.specs.declared.State.{State}
use Rattle.scratch.specs.Places.{positions_at, residuals_at, consts_at, tokens_at, chains_at, names_at, region}
use Rattle.scratch.proofs.RegionLaws.{region-behind, region-push, region-front}
use Rattle.scratch_store.specs.Holds.{Keys, Fit, Holds}
use Rattle.scratch_store.specs.States as states
use Rattle.scratch_store.specs.Does.{Fits, Does}
use Rattle.scratch_store.proofs.DoesLaws.{laid-is}
use Rattle.scratch_store.proofs.FrameLaws.{fit_same, laid_same, pools-same, pools-counts, same_keys}

-- one residual more, where more is emitted than is kept
module _ {s : List ℕ} {l : Layout} {xs : List ℕ} {st : State} {a : Made} (j : ℕ) (h : Holds s l xs st a)
    (f : st.residuals < st.emitted) where
  push-residual : Holds s l (set xs (residuals_at l + st.residuals) j) (states.with_residual st) (add_residual j a)
  unfolding add_residual push_residual
  push-residual =
      let c = h.counts in
      let few = h.fit.few in
      let space = h.fit.space in
      let at = residuals_at l + st.residuals in
      let more = length-append a.pools.residuals (j ∷ []) in
      let count : (st.residuals + 1) % 4294967296 ≡ st.residuals + 1 = let w = c.within in omega arith in
      record {
        fit = fit_same (length-set xs at j) h.fit;
        counts = record {
          code = c.code;
          residuals = let q = c.residuals in omega arith;
          emitted = c.emitted;
          depth = c.depth;
          deepest = c.deepest;
          standing = c.standing;
          kept = omega arith;
          low = c.low;
          within = c.within;
        };
        laid = laid_same (states.with_residual st) (add_residual j a) refl refl (omega arith) refl h.laid;
        emitted = record {
          code = region-behind 0 (op_width * st.code) at j xs (omega arith) ∙ h.emitted.code;
          positions = region-behind (positions_at l) st.code at j xs (omega arith) ∙ h.emitted.positions;
          residuals =
              ap (λ (m : ℕ). region (residuals_at l) m (set xs at j)) count
              ∙ region-push (residuals_at l) st.residuals at j xs refl (omega arith)
              ∙ ap (λ (z : List ℕ). z ++ (j ∷ [])) h.emitted.residuals;
        };
        pooled =
            pools-counts (states.with_residual st) (record { consts = refl; tokens = refl; chains = refl; names = refl })
            (pools-same
            (same_keys l st at j xs (omega arith))
            (record { consts = refl; tokens = refl; names = refl; chains = λ ks k. kept-residual s j a.pools k })
            h.pooled);
        index = indexes-before h.index at j (omega arith);
      }

-- the instruction first, and then the node
residual-is : (j : ℕ) (a : Made) → residual j a ≡ add_residual j (emit (EvalAst (length a.pools.residuals)) 0 0 a)
unfolding residual add_residual push_residual emit emits
residual-is j a = refl

module _ {s : List ℕ} {xs ys : List ℕ} {st : State} (c : State) (j p : ℕ) (zs : List ℕ) (t : State) where
  pub residual-does :
      ((l : Layout) → Does s l xs st ys c (emit (EvalAst st.residuals) 0 0))
      → p ≡ residuals_at (states.layout_of c) + c.residuals
      → zs ≡ set ys p j → t ≡ states.with_residual c → (l : Layout) → Does s l xs st zs t (residual j)
  unfolding emit emits add_residual push_residual
  residual-does does w e q l = record { holds = go }
    where
      go : (a : Made) → Holds s l xs st a → Fits l (residual j a) → Holds s l zs t (residual j a)
      go a h f =
          let op : EvalAst st.residuals ≡ EvalAst (length a.pools.residuals) = ap EvalAst h.counts.residuals in
          let room : Fits l (add_residual j (emit (EvalAst (length a.pools.residuals)) 0 0 a)) = subst (Fits l) (residual-is j a) f in
          let done : Holds s l ys c (emit (EvalAst st.residuals) 0 0 a) = (does l).holds a h (omega arith) in
          let d = done.counts in
          let k = h.counts in
          let less : c.residuals < c.emitted =
          let c1 = d.residuals in let c2 = d.emitted in let k1 = k.residuals in let k2 = k.emitted in let k3 = k.kept in omega arith in
          let at : p ≡ residuals_at l + c.residuals =
          w ∙ ap (λ (m : Layout). residuals_at m + c.residuals) (laid-is done) in
          rw (e, at, q, residual-is j a, sym op) (push-residual j done less)

-- the depth where a jump comes in
pub depth-holds : {s : List ℕ} {l : Layout} {xs : List ℕ} {st : State} {a : Made} (d : ℕ) → d ≤ a.pools.emitted → Holds s l xs st a
    → Holds s l xs (states.at_depth st d) (at_depth d a)
unfolding at_depth
depth-holds {st = st} {a} d f h =
    let c = h.counts in
    record {
      fit = h.fit;
      counts = record {
        code = c.code;
        residuals = c.residuals;
        emitted = c.emitted;
        depth = refl;
        deepest = c.deepest;
        standing = c.standing;
        kept = c.kept;
        low = let e = c.emitted in omega arith;
        within = c.within;
      };
      laid = laid_same (states.at_depth st d) (at_depth d a) refl refl (omega arith) refl h.laid;
      emitted = record { code = h.emitted.code; positions = h.emitted.positions; residuals = h.emitted.residuals };
      pooled =
          let k = h.pooled in
          record {
            const_keys = k.const_keys;
            token_keys = k.token_keys;
            chain_keys = k.chain_keys;
            name_keys = k.name_keys;
            consts = k.consts;
            tokens = k.tokens;
            names = k.names;
            chains = k.chains;
          };
      index = h.index;
    }

-- an eval that was reached is not looked at
pub defeated-holds : {s : List ℕ} {l : Layout} {xs : List ℕ} {st : State} {a : Made} → Holds s l xs st a → Holds s l xs st (defeated a)
unfolding defeated defeat
defeated-holds {s} {st = st} {a} h =
    let c = h.counts in
    let k = h.pooled in
    record {
      fit = h.fit;
      counts = record {
        code = c.code;
        residuals = c.residuals;
        emitted = c.emitted;
        depth = c.depth;
        deepest = c.deepest;
        standing = c.standing;
        kept = c.kept;
        low = c.low;
        within = c.within;
      };
      laid = laid_same st (defeated a) refl refl (omega arith) refl h.laid;
      emitted = record { code = h.emitted.code; positions = h.emitted.positions; residuals = h.emitted.residuals };
      pooled = record {
        const_keys = k.const_keys;
        token_keys = k.token_keys;
        chain_keys = k.chain_keys;
        name_keys = k.name_keys;
        consts = k.consts;
        tokens = k.tokens;
        names = k.names;
        chains = kept-defeat s a.pools k.chains;
      };
      index = h.index;
    }

-- the front of code
words-front : (c d : Code) → code_words (c ++ d) ≡ code_words c ++ code_words d
unfolding code_words
words-front [] d = refl
words-front (i ∷ c) d =
    ap (λ (l : List ℕ). op_words i.op ++ l) (words-front c d) ∙ sym (append_assoc (op_words i.op) (code_words c) (code_words d))

positions-front : (c d : Code) → positions (c ++ d) ≡ positions c ++ positions d
unfolding positions
positions-front [] d = refl
positions-front (i ∷ c) d = ap (λ (l : List ℕ). i.pos ∷ l) (positions-front c d)

-- the code and the depth as they were
pub back-holds : {s : List ℕ} {l : Layout} {xs xs₀ : List ℕ} {st saved : State} {a a₀ : Made} → Holds s l xs₀ saved a₀ → Holds s l xs st a
    → Grows a₀.code a.code → a₀.pools.emitted ≤ a.pools.emitted → Holds s l xs (states.taken_back st saved) (take_back a₀ a)
unfolding take_back
back-holds {l = l} {xs} {st = st} {saved} {a} {a₀} h₀ h g f =
    let c₀ = h₀.counts in
    let c = h.counts in
    let k = h.pooled in
    let whole = ap length g.whole ∙ length-append a₀.code g.more in
    let e₀ = c₀.emitted in
    let e = c.emitted in
    let n₀ = c₀.code in
    let n = c.code in
    let wl = code-length a₀.code in
    let pl = positions-length a₀.code in
    record {
      fit = h.fit;
      counts = record {
        code = n₀;
        residuals = c.residuals;
        emitted = c.emitted;
        depth = c₀.depth;
        deepest = c₀.deepest;
        standing = let z = c₀.standing in omega arith;
        kept = c.kept;
        low = let z = c₀.low in omega arith;
        within = c.within;
      };
      laid = laid_same (states.taken_back st saved) (take_back a₀ a) refl refl (omega arith) refl h.laid;
      emitted = record {
        code =
            region-front 0 (op_width * saved.code) (op_width * st.code) xs (code_words a₀.code) (code_words g.more)
            (h.emitted.code ∙ ap code_words g.whole ∙ words-front a₀.code g.more) (omega arith) (omega arith);
        positions =
            region-front (positions_at l) saved.code st.code xs (positions a₀.code) (positions g.more)
            (h.emitted.positions ∙ ap positions g.whole ∙ positions-front a₀.code g.more) (omega arith) (omega arith);
        residuals = h.emitted.residuals;
      };
      pooled = record {
        const_keys = k.const_keys;
        token_keys = k.token_keys;
        chain_keys = k.chain_keys;
        name_keys = k.name_keys;
        consts = k.consts;
        tokens = k.tokens;
        names = k.names;
        chains = k.chains;
      };
      index = h.index;
    }

-- the start
no_keys : (at n : ℕ) (xs : List ℕ) → Keys at n 0 xs
unfolding region
no_keys at n xs = record { distinct = tt; below = tt; count = refl }

pub start-holds : {s : List ℕ} {l : Layout} {xs : List ℕ} → Fit s l xs → Indexes s l 0 0 0 0 xs → Holds s l xs (states.start l) nothing
unfolding nothing no_pools code_words positions greatest region
start-holds {s} {l} {xs} fit index = record {
  fit = fit;
  counts = record {
    code = refl;
    residuals = refl;
    emitted = refl;
    depth = refl;
    deepest = refl;
    standing = omega arith;
    kept = omega arith;
    low = omega arith;
    within = omega arith;
  };
  laid = record { layout = refl; steps = refl; few = omega arith };
  emitted = record { code = refl; positions = refl; residuals = refl };
  pooled = record {
    const_keys = no_keys (consts_at l) l.nodes xs;
    token_keys = no_keys (tokens_at l) l.nodes xs;
    chain_keys = no_keys (chains_at l) l.nodes xs;
    name_keys = no_keys (names_at l) (names_per_node * l.nodes) xs;
    consts = refl;
    tokens = refl;
    names = refl;
    chains = kept-none s;
  };
  index = index;
}

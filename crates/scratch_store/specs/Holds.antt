-- What the scratch and the counts beside it stand for: the code, the pools and the depth that have been made.
use Rattle.std.specs.Prelude.{◌≡◌, ℕ, ◌*◌, ◌≤◌, List, map, length}
use Rattle.sheet.specs.Limits.{max_nodes, max_depth}
use Rattle.sheet.specs.Sections.{node_count}
use Rattle.sheet.specs.Node.{field_c}
use Rattle.lowering.specs.Limits.{max_emitted, op_width, names_per_node}
use Rattle.lowering.specs.Code.{greatest, code_words, positions}
use Rattle.lowering.specs.Pools.{const_of}
use Rattle.expr_chains.specs.Kept.{Kept}
use Rattle.scratch_keys.specs.Keys.{name_of}
use Rattle.expr_model.specs.Made.{Made}
use Rattle.scratch.specs.declared.Layout.{Layout}
use Rattle.scratch_index.specs.Indexes.{Indexes}
use Rattle.scratch_store.specs.declared.State.{State}
use Rattle.scratch.specs.Places.{positions_at, residuals_at, consts_at, tokens_at, chains_at, names_at, words_of, region}
use Rattle.scratch_store.specs.Distinct.{Distinct, Below}

-- k keys from place at on: different numbers below n
pub record Keys (at n k : ℕ) (xs : List ℕ) : Type 0 where
  pub distinct : Distinct (region at k xs)
  pub below : Below n (region at k xs)
  pub count : length (region at k xs) ≡ k

-- the lists fit into the scratch, and the sheet and the code keep their limits
pub record Fit (s : List ℕ) (l : Layout) (xs : List ℕ) : Type 0 where
  pub space : words_of l ≤ length xs
  pub few : l.most ≤ max_emitted
  pub nodes : l.nodes ≡ node_count s
  pub small : l.nodes ≤ max_nodes

-- the counts
pub record Counts (l : Layout) (st : State) (a : Made) : Type 0 where
  pub code : st.code ≡ length a.code
  pub residuals : st.residuals ≡ length a.pools.residuals
  pub emitted : st.emitted ≡ a.pools.emitted
  pub depth : st.depth ≡ a.depth
  pub deepest : st.deepest ≡ greatest a.code
  pub standing : st.code ≤ st.emitted
  pub kept : st.residuals ≤ st.emitted
  pub low : st.depth ≤ st.emitted
  pub within : st.emitted ≤ l.most

-- the code and the residuals
pub record CodeHeld (l : Layout) (xs : List ℕ) (st : State) (a : Made) : Type 0 where
  pub code : region 0 (op_width * st.code) xs ≡ code_words a.code
  pub positions : region (positions_at l) st.code xs ≡ positions a.code
  pub residuals : region (residuals_at l) st.residuals xs ≡ a.pools.residuals

-- the pools by the nodes that each entry was first met at; a name by its key
pub record PoolsHeld (s : List ℕ) (l : Layout) (xs : List ℕ) (st : State) (a : Made) : Type 0 where
  pub const_keys : Keys (consts_at l) l.nodes st.consts xs
  pub token_keys : Keys (tokens_at l) l.nodes st.tokens xs
  pub chain_keys : Keys (chains_at l) l.nodes st.chains xs
  pub name_keys : Keys (names_at l) (names_per_node * l.nodes) st.names xs
  pub consts : a.pools.consts ≡ map (const_of s) (region (consts_at l) st.consts xs)
  pub tokens : a.pools.tokens ≡ map (field_c s) (region (tokens_at l) st.tokens xs)
  pub names : a.pools.names ≡ map (name_of s) (region (names_at l) st.names xs)
  pub chains : Kept s a.pools (region (chains_at l) st.chains xs)

-- the layout, and the steps of the chains
pub record Laid (l : Layout) (st : State) (a : Made) : Type 0 where
  pub layout : st.layout ≡ l
  pub steps : st.steps ≡ length a.pools.steps
  pub few : st.steps ≤ max_depth * st.chains

-- what has been made, as lists
pub record Lists (s : List ℕ) (l : Layout) (xs : List ℕ) (st : State) (a : Made) : Type 0 where
  pub fit : Fit s l xs
  pub counts : Counts l st a
  pub laid : Laid l st a
  pub emitted : CodeHeld l xs st a
  pub pooled : PoolsHeld s l xs st a

-- and the indexes of the pools
pub record Holds (s : List ℕ) (l : Layout) (xs : List ℕ) (st : State) (a : Made) : Type 0 where
  pub fit : Fit s l xs
  pub counts : Counts l st a
  pub laid : Laid l st a
  pub emitted : CodeHeld l xs st a
  pub pooled : PoolsHeld s l xs st a
  pub index : Indexes s l st.consts st.tokens st.chains st.names xs

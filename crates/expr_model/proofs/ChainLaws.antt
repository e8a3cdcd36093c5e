-- Dot and Index: the change is what the definition gives, and a chain's names stand in the pool where it is closed.
use Prim.Native.Nat.{ℕ, suc, ◌+◌}
use mathlib.Core.Path.{◌≡◌, refl, sym, ap, ◌∙◌}
use mathlib.Core.Bool.{Bool, true, false}
use mathlib.Core.Option.{Option, none, some}
use mathlib.Core.List.{List, [], ◌∷◌, ◌++◌}
use native.Mathlib.Omega.{arith}
use lib.Dec.{eqb}
use lib.ListN.{length}
use Rattle.sheet.specs.Limits.{max_depth}
use Rattle.sheet.specs.Node.{field_a, position, child}
use Rattle.sheet.specs.Text.{text}
use Rattle.sheet.specs.Namespace.{role}
use Rattle.sheet.specs.Walk.{skip}
use Rattle.bytecode.specs.declared.Root.{Root}
use Rattle.bytecode.specs.declared.Root.TheVariants.{Local, Named, This, Temporary}
use Rattle.bytecode.specs.declared.Step.{Step}
use Rattle.bytecode.specs.declared.Op.TheVariants as Op
use Rattle.lowering.specs.Kinds.{variable_kind, this_kind}
use Rattle.lowering.specs.Code.{Code, ins}
use Rattle.lowering.specs.Pools.{Pools, name, name_at, chain_at, push_chain}
use Rattle.lowering.specs.Out.{Out, out, Rec, and_then, residual_expr}
use Rattle.lowering.specs.Slots.{resolve}
use Rattle.lowering.specs.Flatten.{links, flattens}
use Rattle.lowering.specs.Steps as Steps
use Rattle.lowering.specs.Steps.{Walked, walked}
use Rattle.lowering.specs.Chain as Chain
use Rattle.lowering.specs.Chain.{variable_root, root_of, root_pools, on_stack, root_code}
use Rattle.expr_chains.specs.Pooled.{Pooled}
use Rattle.expr_chains.specs.Lowers.{lowers}
use Rattle.expr_chains.proofs.LowersLaws.{walks, stops, lower-flat}
use Rattle.expr_chains.proofs.WalkLaws.{NamesGrow, ChainGives, root-pools-on, root-pools-off}
use Rattle.expr_chains.proofs.CloseLaws.{closing-gives}
use Rattle.expr_count.specs.Link.{temporary}
use Rattle.expr_model.specs.Made.{Made, place, after, with, emit, add_name, take_back}
use Rattle.expr_model.specs.Made as Made
use Rattle.expr_model.specs.Construct.{operands, steps, root_name, root_value, add_chain, chain_place, close_chain, chain}
use Rattle.expr_model.proofs.Put.{put, behind, low_of, made-path, put-none, put-emit, put-put, put-place}
use Rattle.expr_model.proofs.AfterLaws.{after-chain}
use Rattle.expr_model.proofs.LeafLaws.{residual-is}
use Rattle.expr_model.proofs.StepLaws.{steps-walked, steps-stopped}

-- ---- the root

pub root-name-is : (s : List ℕ) (v : ℕ) (a : Made) → root_name s v a ≡ with (root_pools s v) a
unfolding root_name add_name
root-name-is s v a = by (eqb (role s v) variable_kind) refl
  where
    by : (t : Bool) → eqb (role s v) variable_kind ≡ t → root_name s v a ≡ with (root_pools s v) a
    by true h = rw (h, root_name) (made-path refl (sym (root-pools-on s v a.pools h)) refl)
    by false h = rw (h, root_name) (made-path refl (sym (root-pools-off s v a.pools h)) refl)

module _ (s : List ℕ) (rec : Rec) (v : ℕ) where
  -- t values of root r, at node v, are lowered
  record Rooted (r : Root) (t : ℕ) : Type 0 where
    stack : on_stack r ≡ t
    gives : (x : Made) → operands s (low_of rec) t v x ≡ put (root_code rec r v (place x) x.depth x.pools) (x.depth + t) x

  rooted-local : (slot i : ℕ) → Rooted (Local slot i) 0
  unfolding on_stack root_code operands
  rooted-local slot i = record { stack = refl; gives = λ x. put-none x ∙ made-path refl refl (omega arith) }

  rooted-named : (i pos : ℕ) → Rooted (Named i pos) 0
  unfolding on_stack root_code operands
  rooted-named i pos = record { stack = refl; gives = λ x. put-none x ∙ made-path refl refl (omega arith) }

  rooted-this : (pos : ℕ) → Rooted (This pos) 0
  unfolding on_stack root_code operands
  rooted-this pos = record { stack = refl; gives = λ x. put-none x ∙ made-path refl refl (omega arith) }

  rooted-value : Rooted Temporary 1
  unfolding on_stack root_code operands skip
  rooted-value = record { stack = refl; gives = λ x. made-path refl refl (omega arith) }

  rooted-variable : (p : Pools) → Rooted (variable_root s v p) 0
  unfolding variable_root
  rooted-variable p = by (resolve s (text s (field_a s v))) refl
    where
      by : (o : Option ℕ) → resolve s (text s (field_a s v)) ≡ o → Rooted (variable_root s v p) 0
      by (some slot) h = rw (h, variable_root) (rooted-local slot (name_at s (name (field_a s v) 0) p))
      by none h = rw (h, variable_root) (rooted-named (name_at s (name (field_a s v) 0) p) (position s v))

  rooted : (p : Pools) → Rooted (root_of s v p) (temporary s v)
  unfolding root_of temporary
  rooted p = by (eqb (role s v) variable_kind) refl
    where
      by-this : (t : Bool) → eqb (role s v) this_kind ≡ t → eqb (role s v) variable_kind ≡ false → Rooted (root_of s v p) (temporary s v)
      by-this true h f = rw (f, h, root_of, temporary) (rooted-this (position s v))
      by-this false h f = rw (f, h, root_of, temporary) rooted-value

      by : (t : Bool) → eqb (role s v) variable_kind ≡ t → Rooted (root_of s v p) (temporary s v)
      by true h = rw (h, root_of, temporary) (rooted-variable p)
      by false h = by-this (eqb (role s v) this_kind) refl h

-- ---- the chain instruction

-- a chain with these parts, behind y
unfoldable close_with : List ℕ → ℕ → Root → List Step → ℕ → ℕ → Made → Made
close_with s j root xs n t y = emit (Op.Chain (chain_at root xs n y.pools)) (position s j) (n + t) (with (push_chain root xs n) y)

close-with : (s : List ℕ) (j : ℕ) (root : Root) (xs : List Step) (n : ℕ) (y : Made) → ChainGives s y.pools.names j root xs n
    → close_chain s j y ≡ close_with s j root xs n (temporary s (child j)) y
unfolding close_chain chain_place add_chain close_with
close-with s j root xs n y g = rw (g.root, g.steps, g.operands)

close-is : (s : List ℕ) (j : ℕ) (root : Root) (xs : List Step) (n t : ℕ) (o : Out) (d : ℕ) (a : Made)
    → close_with s j root xs n t (put o (d + n + t) a)
    ≡ put
    (and_then (out o.code (push_chain root xs n o.pools))
    (ins (Op.Chain (chain_at root xs n o.pools)) (d + n + t) (position s j) ∷ []))
    (suc d)
    a
unfolding close_with
close-is s j root xs n t o d a =
    let i = chain_at root xs n o.pools in
    let deep : d + n + t ≡ d + (n + t) = omega arith in
    put-emit (Op.Chain i) (position s j) (n + t) (out o.code (push_chain root xs n o.pools)) (d + n + t) a
    ∙ made-path refl refl (ap (after (Op.Chain i) (n + t)) deep ∙ after-chain (n + t) d i)

-- ---- the whole chain

module _ (s : List ℕ) (rec : Rec) (G : NamesGrow rec) (j : ℕ) (a : Made) where
  -- behind the root's name, the steps, and the root's value
  abbrev pub walked_to : Made
  walked_to = steps s (low_of rec) (links max_depth s j) (root_name s (child j) a)

  abbrev pub closed_at : Made
  closed_at = root_value s (low_of rec) (child j) walked_to

  abbrev answer : Walked
  answer = Steps.steps s rec (links max_depth s j) 0 (place a) a.depth (root_pools s (child j) a.pools)

  module _ (code : Code) (xs : List Step) (n : ℕ) (q : Pools) (e : answer ≡ walked code xs n q) where
    abbrev root_out : Out
    root_out = root_code rec (root_of s (child j) a.pools) (child j) (place a + length code) (a.depth + n) q

    walked-to : walked_to ≡ put (out code q) (a.depth + n) a
    walked-to =
        ap (steps s (low_of rec) (links max_depth s j)) (root-name-is s (child j) a)
        ∙ steps-walked s rec (links max_depth s j) (with (root_pools s (child j)) a) code xs n q e

    closed-at : closed_at ≡ put (out (code ++ root_out.code) root_out.pools) (a.depth + n + temporary s (child j)) a
    unfolding root_value
    closed-at =
        let d = a.depth + n in
        let t = temporary s (child j) in
        let root = root_of s (child j) a.pools in
        let x = put (out code q) d a in
        ap (root_value s (low_of rec) (child j)) walked-to
        ∙ (rooted s rec (child j) a.pools).gives x
        ∙ ap (λ b. put (root_code rec root (child j) b d q) (d + t) x) (put-place (out code q) d a)
        ∙ put-put (out code q) root_out d (d + t) a

    gives : ChainGives s root_out.pools.names j (root_of s (child j) a.pools) xs n
    gives = closing-gives s rec G j (place a) a.depth a.pools code xs n q e

    pooled-at : Pooled s closed_at.pools.names j
    pooled-at = rw closed-at gives.pooled

    closed_is : close_chain s j closed_at
        ≡ put (Chain.chain_of s rec (root_of s (child j) a.pools) j (place a) a.depth (walked code xs n q)) (suc a.depth) a
    unfolding Chain.chain_of and_then
    closed_is =
        let d = a.depth in
        let t = temporary s (child j) in
        let root = root_of s (child j) a.pools in
        let o = root_out in
        let i = chain_at root xs n o.pools in
        let y = put (out (code ++ o.code) o.pools) (d + n + t) a in
        let last : ℕ → Code = λ m. ins (Op.Chain i) (d + n + m) (position s j) ∷ [] in
        ap (close_chain s j) closed-at
        ∙ close-with s j root xs n y gives
        ∙ close-is s j root xs n t (out (code ++ o.code) o.pools) d a
        ∙ made-path (ap (λ m. a.code ++ ((code ++ o.code) ++ last m)) (sym (rooted s rec (child j) a.pools).stack)) refl refl

  -- a chain whose links all lower
  chain-def-on : flattens s (links max_depth s j) ≡ true
      → Chain.chain s rec j (place a) a.depth a.pools
      ≡ Chain.chain_of s rec (root_of s (child j) a.pools) j (place a) a.depth answer
  unfolding Chain.chain
  chain-def-on f = rw (f, Chain.chain)

  chain-closes : flattens s (links max_depth s j) ≡ true → lowers s j ≡ true → chain s (low_of rec) j a ≡ close_chain s j closed_at
  unfolding chain
  chain-closes f h = rw (f, h, chain)

  chain-returns : flattens s (links max_depth s j) ≡ true → lowers s j ≡ false
      → chain s (low_of rec) j a ≡ Made.residual j (take_back a walked_to)
  unfolding chain
  chain-returns f h = rw (f, h, chain)

  -- the names of a chain that is closed stand in the pool
  pub chain-pooled : lowers s j ≡ true → Pooled s closed_at.pools.names j
  unfolding lowers
  chain-pooled h =
      let w = walks s rec (links max_depth s j) 0 (place a) a.depth (root_pools s (child j) a.pools) h in
      pooled-at w.code w.steps w.operands w.pools w.is

  lowers_is : lowers s j ≡ true → chain s (low_of rec) j a ≡ behind (Chain.chain s rec j) a
  unfolding lowers Chain.chain_of
  lowers_is h =
      let w = walks s rec (links max_depth s j) 0 (place a) a.depth (root_pools s (child j) a.pools) h in
      let f = lower-flat s (links max_depth s j) h in
      let root = root_of s (child j) a.pools in
      chain-closes f h
      ∙ closed_is w.code w.steps w.operands w.pools w.is
      ∙ sym (ap (λ o. put o (suc a.depth) a) (chain-def-on f ∙ ap (Chain.chain_of s rec root j (place a) a.depth) w.is))

  fails-is : flattens s (links max_depth s j) ≡ true → lowers s j ≡ false → chain s (low_of rec) j a ≡ behind (Chain.chain s rec j) a
  unfolding lowers Chain.chain_of take_back
  fails-is f h =
      let p = root_pools s (child j) a.pools in
      let w = stops s rec (links max_depth s j) 0 (place a) a.depth p h in
      let root = root_of s (child j) a.pools in
      let x : walked_to.pools ≡ w.pools
      = ap (λ (y : Made). (steps s (low_of rec) (links max_depth s j) y).pools) (root-name-is s (child j) a)
      ∙ steps-stopped s rec (links max_depth s j) (with (root_pools s (child j)) a) w.pools w.is in
      chain-returns f h
      ∙ residual-is j (take_back a walked_to)
      ∙ ap (λ q. put (residual_expr j a.depth q) (suc a.depth) a) x
      ∙ sym (ap (λ o. put o (suc a.depth) a) (chain-def-on f ∙ ap (Chain.chain_of s rec root j (place a) a.depth) w.is))

  stays-is : flattens s (links max_depth s j) ≡ false → chain s (low_of rec) j a ≡ behind (Chain.chain s rec j) a
  unfolding chain Chain.chain
  stays-is f = rw (f, chain, Chain.chain) (residual-is j a)

  pub chain-is : chain s (low_of rec) j a ≡ behind (Chain.chain s rec j) a
  chain-is = by (flattens s (links max_depth s j)) refl
    where
      by-low : (t : Bool) → lowers s j ≡ t → flattens s (links max_depth s j) ≡ true
          → chain s (low_of rec) j a ≡ behind (Chain.chain s rec j) a
      by-low true h f = lowers_is h
      by-low false h f = fails-is f h

      by : (t : Bool) → flattens s (links max_depth s j) ≡ t → chain s (low_of rec) j a ≡ behind (Chain.chain s rec j) a
      by true f = by-low (lowers s j) refl f
      by false f = stays-is f

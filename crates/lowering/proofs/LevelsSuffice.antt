-- The levels of the lowering suffice: below a node with at most l levels, what the lowering does with none left is never asked for.
use Prim.Native.Nat.{ℕ, zero, suc, ◌+◌, ◌*◌, ◌≤◌, ◌<◌}
use mathlib.Core.Path.{◌≡◌, refl, sym, ap, ◌∙◌}
use mathlib.Core.Bool.{Bool, true, false, true≢false}
use mathlib.Core.List.{List, [], ◌∷◌}
use native.Mathlib.Omega.{arith}
use lib.Dec.{leb, eqb}
use borrow.Author.Tests.{eqb-true, leb-true}
use Rattle.laws.proofs.Bool.{lazy-true}
use Rattle.words.specs.Count.{all_below}
use Rattle.words.proofs.CountLaws.{all-at}
use Rattle.sheet.specs.Limits.{max_depth}
use Rattle.sheet.specs.Sections.{node_count}
use Rattle.sheet.specs.Node.{kind, count, child, next}
use Rattle.sheet.specs.Walk.{siblings_by, siblings, skip}
use Rattle.sheet.specs.Start.{starts_inside, own_start, start_within, start_of}
use Rattle.sheet.specs.Kinds.{last_kind}
use Rattle.check_shape.specs.Kinds.{bound}
use Rattle.check_depth.specs.Depth.{within_by, within, depth_by}
use Rattle.checks.specs.Checked.{verdict_number, checked}
use Rattle.lowering.specs.Limits.{max_levels}
use Rattle.lowering.specs.Kinds.{switch_kind}
use Rattle.lowering.specs.Pools.{Pools, no_pools}
use Rattle.lowering.specs.Out.{Rec}
use Rattle.lowering.specs.Flatten.{is_chain, rest_of, goes_on, operand_of, links}
use Rattle.lowering.specs.Expression as Expr
use Rattle.lowering.specs.Expression.{Rule, rule, by_rule, expression}
use Rattle.lowering.specs.Program.{plain}
use Rattle.lowering.specs.SwitchSheet.{guard_of, body_of}
use Rattle.lowering.specs.Switch.{switch}
use Rattle.lowering.specs.Outcome.{lower, lower_with}
use Rattle.lowering.specs.All.{All}
use Rattle.lowering.specs.Nodes.{Valid, Right}
use Rattle.lowering.proofs.NodesLaws.{node-bounds, children, child-is, child-valid, root-valid, switch-count}
use Rattle.lowering.proofs.ChainNodesLaws.{goes-chain, operand_on, operand-last, links-zero, links-on, links-stop, chain_link}
use Rattle.lowering.specs.Levels.{InTree, root, below, Statement}
use Rattle.lowering.proofs.LinkedCall.{rule-takes}
use Rattle.lowering.proofs.LinkedExpression.{least, rule-count}
use Rattle.lowering.proofs.LowerFits.{with-switch, with-plain, lower_switch, lower-plain}
use Rattle.checks.proofs.AcceptedLaws.{accepted-depth}
use Rattle.lowering.proofs.SwitchAccepted.{accepted-right, accepted-blocks}
use Rattle.lowering.proofs.LevelsSame.{Each, Agree, array_same, interpolated-same, short-same, coalesce-same, call_same}
use Rattle.lowering.proofs.LevelsChain.{Taken, chain_same}
use Rattle.lowering.proofs.LevelsSwitch.{switch-same}

-- ---- levels

-- a node with at most l levels
record Within (s : List ℕ) (l j : ℕ) : Type 0 where
  pub valid : Valid s j
  pub low : within l s j ≡ true

module _ (s : List ℕ) where
  siblings-at : (P : ℕ → Bool) (n j : ℕ) → siblings P s n j ≡ true → (i : ℕ) → i < n → P (skip s i j) ≡ true
  unfolding siblings_by skip
  siblings-at P zero j h i k = absurd (omega arith)
  siblings-at P (suc n) j h zero k = (lazy-true (P j) (siblings P s n (next s j)) h).0
  siblings-at P (suc n) j h (suc i) k =
      siblings-at P n (next s j) (lazy-true (P j) (siblings P s n (next s j)) h).1 i (omega arith)

  siblings-all : (P Q : ℕ → Bool) → ((i : ℕ) → P i ≡ true → Q i ≡ true) → (n j : ℕ) → siblings P s n j ≡ true → siblings Q s n j ≡ true
  unfolding siblings_by
  siblings-all P Q f zero j h = refl
  siblings-all P Q f (suc n) j h =
      let g = lazy-true (P j) (siblings P s n (next s j)) h in
      rw (f j g.0, siblings_by) (siblings-all P Q f n (next s j) g.1)

  within_more : (l j : ℕ) → within l s j ≡ true → within (suc l) s j ≡ true
  unfolding within_by
  within_more zero j h = absurd (true≢false (sym h))
  within_more (suc l) j h = siblings-all (within l s) (within (suc l) s) (within_more l) (count s j) (child j) h

  none_within : (j : ℕ) → Within s 0 j → ⊥
  unfolding within_by
  none_within j w = true≢false (sym w.low)

  one_more : (l j : ℕ) → Within s l j → Within s (suc l) j
  one_more l j w = record { valid = w.valid; low = within_more l j w.low }

module _ (s : List ℕ) (C : Right s) where
  children-within : (l j : ℕ) → Within s (suc l) j → Each s (Within s l) (count s j) (child j)
  unfolding within_by
  children-within l j w =
      record {
        each = λ i h. record {
          valid = (children s C j w.valid).each i h;
          low = siblings-at s (within l s) (count s j) (child j) w.low i h;
        };
      }

  children-here : (l j : ℕ) → Within s l j → Each s (Within s l) (count s j) (child j)
  children-here zero j w = absurd (none_within s j w)
  children-here (suc l) j w = record { each = λ i h. one_more s l _ ((children-within l j w).each i h) }

  first-within : (l j : ℕ) → Within s (suc l) j → 1 ≤ count s j → Within s l (child j)
  unfolding skip
  first-within l j w h = (children-within l j w).each 0 (omega arith)

  -- ---- chains

  rest-within : (l c : ℕ) → Within s (suc l) c → 2 ≤ count s c → Within s l (rest_of s c)
  unfolding rest_of skip
  rest-within l c w h = (children-within l c w).each 1 (omega arith)

  two-rest : (l c : ℕ) → Within s l (rest_of s c) → goes_on s c ≡ true → 2 ≤ count s (rest_of s c)
  two-rest l c w e = (chain_link s C (rest_of s c) w.valid (goes-chain s c e)).two

  operand-within : (l c : ℕ) → Within s (suc l) c → 2 ≤ count s c → Within s l (operand_of s c)
  unfolding skip
  operand-within l c w h = by (goes_on s c) refl
    where
      r : Within s l (rest_of s c)
      r = rest-within l c w h

      by : (t : Bool) → goes_on s c ≡ t → Within s l (operand_of s c)
      by true e = rw (operand_on s c e) ((children-here l (rest_of s c) r).each 0 (omega (arith, two-rest l c r e)))
      by false e = rw (operand-last s c e) r

  taken : (l c : ℕ) → Within s (suc l) c → 2 ≤ count s c → Taken s (Within s l) c
  taken l c w h = let o = operand-within l c w h in record { here = o; args = children-here l (operand_of s c) o }

  links-taken : (n l c : ℕ) → Within s (suc l) c → 2 ≤ count s c → All (Taken s (Within s l)) (links n s c)
  links-taken zero l c w h = rw (links-zero s c) tt
  links-taken (suc n) l c w h = by (goes_on s c) refl (links-taken n l (rest_of s c))
    where
      r : Within s l (rest_of s c)
      r = rest-within l c w h

      by : (t : Bool) → goes_on s c ≡ t
          → (Within s (suc l) (rest_of s c) → 2 ≤ count s (rest_of s c) → All (Taken s (Within s l)) (links n s (rest_of s c)))
          → All (Taken s (Within s l)) (links (suc n) s c)
      by true e more = rw (links-on s n c e) (taken l c w h, more (one_more s l (rest_of s c) r) (two-rest l c r e))
      by false e more = rw (links-stop s n c e) (taken l c w h, tt)

  -- no link is cut off
  links-agree : (l m n j : ℕ) → l ≤ m → l ≤ n → Within s l j → is_chain (kind s j) ≡ true → links m s j ≡ links n s j
  links-agree zero m n j h k w c = absurd (none_within s j w)
  links-agree (suc l) zero n j h k w c = absurd (omega arith)
  links-agree (suc l) (suc m) zero j h k w c = absurd (omega arith)
  links-agree (suc l) (suc m) (suc n) j h k w c =
      let r = rest-within l j w (chain_link s C j w.valid c).two in
      by (goes_on s j) refl (links-agree l m n (rest_of s j) (omega arith) (omega arith) r)
    where
      by : (t : Bool) → goes_on s j ≡ t → (is_chain (kind s (rest_of s j)) ≡ true → links m s (rest_of s j) ≡ links n s (rest_of s j))
          → links (suc m) s j ≡ links (suc n) s j
      by true e more = links-on s m j e ∙ ap (λ (xs : List ℕ). j ∷ xs) (more (goes-chain s j e)) ∙ sym (links-on s n j e)
      by false e more = links-stop s m j e ∙ sym (links-stop s n j e)

  -- ---- expressions

  rule-same : {l : ℕ} {rec rec' : Rec} → Agree (Within s l) rec rec' → (r : Rule) (j b d : ℕ) (p : Pools) → Within s (suc l) j
      → least r ≤ count s j → by_rule r s rec j b d p ≡ by_rule r s rec' j b d p
  unfolding by_rule
  rule-same A Expr.boolean j b d p w h = refl
  rule-same A Expr.unit j b d p w h = refl
  rule-same A Expr.constant j b d p w h = refl
  rule-same {l} A Expr.interpolated j b d p w h = interpolated-same s A j b d p (children-within l j w)
  rule-same {l} A Expr.array j b d p w h = array_same s A j b d p (children-within l j w)
  rule-same A Expr.variable j b d p w h = refl
  rule-same A Expr.this j b d p w h = refl
  rule-same {l} A Expr.fn_call j b d p w h = call_same s A j b d p (rule-takes s j) (children-within l j w)
  rule-same {l} A Expr.chain j b d p w h =
      chain_same s A j b d p (first-within l j w (omega arith)) (links-taken max_levels l j w h)
  rule-same {l} A Expr.and j b d p w h = short-same s A 0 j b d p (children-within l j w)
  rule-same {l} A Expr.or j b d p w h = short-same s A 1 j b d p (children-within l j w)
  rule-same {l} A Expr.coalesce j b d p w h = coalesce-same s A j b d p h (children-within l j w)
  rule-same A Expr.residual j b d p w h = refl

  -- any two counts of levels that a node does not pass
  levels-agree : (l m n : ℕ) → l ≤ m → l ≤ n → Agree (Within s l) (expression m s) (expression n s)
  unfolding expression
  levels-agree zero m n h k = record { at = λ j b d p w. absurd (none_within s j w) }
  levels-agree (suc l) zero n h k = absurd (omega arith)
  levels-agree (suc l) (suc m) zero h k = absurd (omega arith)
  levels-agree (suc l) (suc m) (suc n) h k =
      let A = levels-agree l m n (omega arith) (omega arith) in
      record { at = λ j b d p w. rule-same A (rule s j) j b d p w (rule-count s C j w.valid) }

-- ---- start positions

inside-bound : (k : ℕ) → k ≤ last_kind → starts_inside k ≡ true → 1 ≤ bound k 0
unfolding all_below bound
inside-bound k h e =
    let test : ℕ → Bool = λ k. elim (starts_inside k) [ true ↦ leb 1 (bound k 0) | false ↦ true ] in
    leb-true 1 (bound k 0) (rw e at (all-at test (suc last_kind) k refl (omega arith)))

module _ (s : List ℕ) where
  start-down : (m j : ℕ) → starts_inside (kind s j) ≡ true → start_within (suc m) s j ≡ start_within m s (child j)
  unfolding start_within
  start-down m j e = rw (e, start_within)

  start-here : (m j : ℕ) → starts_inside (kind s j) ≡ false → start_within (suc m) s j ≡ own_start s j
  unfolding start_within
  start-here m j e = rw (e, start_within)

  -- one step of two searches
  start-step : (m n j : ℕ) → (starts_inside (kind s j) ≡ true → start_within m s (child j) ≡ start_within n s (child j))
      → start_within (suc m) s j ≡ start_within (suc n) s j
  start-step m n j f = by (starts_inside (kind s j)) refl
    where
      by : (t : Bool) → starts_inside (kind s j) ≡ t → start_within (suc m) s j ≡ start_within (suc n) s j
      by true e = start-down m j e ∙ f e ∙ sym (start-down n j e)
      by false e = start-here m j e ∙ sym (start-here n j e)

module _ (s : List ℕ) (C : Right s) where
  inside-count : (j : ℕ) → Valid s j → starts_inside (kind s j) ≡ true → 1 ≤ count s j
  inside-count j v e = let h = node-bounds s C j v in omega (arith, inside-bound (kind s j) h.0 e)

  start-agree : (l m n j : ℕ) → l ≤ m → l ≤ n → Within s l j → start_within m s j ≡ start_within n s j
  start-agree zero m n j h k w = absurd (none_within s j w)
  start-agree (suc l) zero n j h k w = absurd (omega arith)
  start-agree (suc l) (suc m) zero j h k w = absurd (omega arith)
  start-agree (suc l) (suc m) (suc n) j h k w =
      start-step s m n j
      (λ e. start-agree l m n (child j) (omega arith) (omega arith) (first-within s C l j w (inside-count j w.valid e)))

  -- nor by as many steps as there are nodes behind j
  start-far : (m n j : ℕ) → Valid s j → node_count s ≤ j + m → node_count s ≤ j + n → start_within m s j ≡ start_within n s j
  start-far zero n j v h k = absurd (omega arith)
  start-far (suc m) zero j v h k = absurd (omega arith)
  start-far (suc m) (suc n) j v h k =
      let c = child-is s C j v in
      start-step s m n j (λ e. start-far m n (child j) (child-valid s C j v (inside-count j v e)) (omega arith) (omega arith))

-- ---- a sheet that passes the check

module _ (s : List ℕ) (a : verdict_number (checked s) ≡ 0) where
  C : Right s
  C = accepted-right s a

  root-within : Within s max_depth 0
  unfolding depth_by
  root-within = record { valid = root-valid s C; low = accepted-depth s a }

  tree-within : (j : ℕ) → InTree s j → Within s max_depth j
  tree-within j root = root-within
  tree-within j (below k i t h) = (children-here s C max_depth k (tree-within k t)).each i h

  -- all counts from max_levels on
  levels-more : (n : ℕ) → Agree (Within s max_depth) (expression (max_levels + n) s) (expression max_levels s)
  levels-more n = levels-agree s C max_depth (max_levels + n) max_levels (omega arith) (omega arith)

  switch-more : (n : ℕ) → kind s 0 ≡ switch_kind → switch s (expression (max_levels + n) s) ≡ switch s (expression max_levels s)
  unfolding guard_of body_of skip
  switch-more n e =
      let l = switch-count s C e in
      let kids = children-here s C max_depth 0 root-within in
      switch-same s (levels-more n) (accepted-blocks s a e)
      (λ k h. kids.each (1 + 2 * k) (omega arith))
      (kids.each 0 (omega arith))
      (λ k h. kids.each (2 + 2 * k) (omega arith))

  lower-more : (n : ℕ) → lower_with (max_levels + n) s ≡ lower s
  lower-more n = by (eqb (kind s 0) switch_kind) refl
    where
      by : (t : Bool) → eqb (kind s 0) switch_kind ≡ t → lower_with (max_levels + n) s ≡ lower s
      by true e = with-switch (max_levels + n) s e ∙ switch-more n (eqb-true (kind s 0) switch_kind e) ∙ sym (lower_switch s e)
      by false e =
          with-plain (max_levels + n) s e ∙ ap plain ((levels-more n).at 0 0 0 no_pools root-within) ∙ sym (lower-plain s e)

  start-more : (n j : ℕ) → Within s max_depth j → start_within (max_levels + n) s j ≡ start_of s j
  unfolding start_of
  start-more n j w =
      let m = max_levels + n + node_count s in
      start-agree s C max_depth (max_levels + n) m j (omega arith) (omega arith) w
      ∙ start-far s C m (node_count s) j w.valid (omega arith) (omega arith)

  expression-step : (m j b d : ℕ) (p : Pools) → expression (suc m) s j b d p ≡ by_rule (rule s j) s (expression m s) j b d p
  unfolding expression
  expression-step m j b d p = refl

  links-step : (m j : ℕ) → links (suc m) s j ≡ j ∷ elim (goes_on s j) [ true ↦ links m s (rest_of s j) | false ↦ [] ]
  unfolding links
  links-step m j = refl

  start-free : (j : ℕ) → Within s max_depth j
      → start_of s j ≡ elim (starts_inside (kind s j)) [ true ↦ start_of s (child j) | false ↦ own_start s j ]
  start-free j w = by (starts_inside (kind s j)) refl
    where
      here : start_of s j ≡ start_within (suc max_levels) s j
      here = sym (start-more 1 j w)

      first : starts_inside (kind s j) ≡ true → Within s max_depth (child j)
      first e = first-within s C max_depth j (one_more s max_depth j w) (inside-count s C j w.valid e)

      by : (t : Bool) → starts_inside (kind s j) ≡ t → start_of s j ≡ elim t [ true ↦ start_of s (child j) | false ↦ own_start s j ]
      by true e = here ∙ start-down s max_levels j e ∙ start-more 0 (child j) (first e)
      by false e = here ∙ start-here s max_levels j e

pub levels-suffice : Statement
levels-suffice s a =
    let C = accepted-right s a in
    let tree = tree-within s a in
    record {
      program_same = lower-more s a;
      links_same = λ n j t c. links-agree s C max_depth (max_levels + n) max_levels j (omega arith) (omega arith) (tree j t) c;
      start_same = λ n j t. start-more s a n j (tree j t);
      expression_is = λ j b d p t. sym ((levels-more s a 1).at j b d p (tree j t)) ∙ expression-step s a max_levels j b d p;
      links_is = λ j t c.
          links-agree s C max_depth max_levels (suc max_levels) j (omega arith) (omega arith) (tree j t) c ∙ links-step s a max_levels j;
      start_is = λ j t. start-free s a j (tree j t);
    }

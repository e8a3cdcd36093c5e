-- Laws of the chain pool by its nodes: it is kept by everything else that the lowering adds, a chain is found where a node with the same
-- chain is, and a chain that is pooled adds its node.
use Prim.Native.Nat.{ℕ, suc, ◌+◌}
use mathlib.Core.Path.{◌≡◌, refl, sym, ap, ap₂, ◌∙◌}
use mathlib.Core.Bool.{Bool, true, false, ◌&&◌, and-eq-true_iff}
use mathlib.Core.List.{List, [], ◌∷◌, ◌++◌, append_assoc, append-nil}
use native.Mathlib.Omega.{arith}
use native.Mathlib.Nat.{add-zero, add_assoc}
use lib.Dec.{eqb}
use lib.ListN.{length, length-append}
use lib.Seq.{take_at, drop_at}
use borrow.Author.Tests.{eq-eqb}
use Rattle.lowering.proofs.FirstLaws.{first-here, first-later, added_new, added-old}
use Rattle.laws.proofs.Bool.{both_ways, lazy-true, lazy-of}
use Rattle.text.specs.Same.{same}
use Rattle.text.proofs.SameLaws.{same_refl, same_true}
use Rattle.sheet.specs.Limits.{max_depth}
use Rattle.sheet.specs.Node.{child}
use Rattle.bytecode.specs.declared.Root.{Root}
use Rattle.bytecode.specs.declared.Step.{Step}
use Rattle.bytecode.specs.declared.Chain.{Chain}
use Rattle.bytecode.specs.Chain.{root_words}
use Rattle.lowering.specs.Pools.{Pools, Const, Name, no_pools, emits, defeat, first_where, added, push_const, push_name, push_token}
use Rattle.lowering.specs.Pools.{push_residual, steps_of, steps_words, same_chain, chain_at, new_chain, push_chain}
use Rattle.lowering.specs.Flatten.{links}
use Rattle.expr_chains.proofs.Grow.{Grows, grows-refl}
use Rattle.expr_chains.specs.Steps.{
  steps_in,
  chain_root,
  chain_steps,
  chain_operands,
  link_count,
  chain_in,
  chains_from,
  steps_from,
  step_operands,
}
use Rattle.expr_chains.specs.Same.{same_steps, same_links, same_root, same_nodes}
use Rattle.expr_chains.specs.Pooled.{All, Pooled}
use Rattle.expr_chains.proofs.NameLaws.{push-grows}
use Rattle.expr_chains.proofs.StayLaws.{all-pooled, chains-stay, all-steps-stay}
use Rattle.expr_chains.proofs.WalkLaws.{ChainGives}
use Rattle.expr_chains.proofs.SameLaws.{steps-equal, operands-equal, steps-words}
use Rattle.expr_chains.proofs.RootLaws.{root-equal, root-words}
use Rattle.expr_chains.specs.Kept.{Kept, step_count}

-- two tests that agree at the first entries and find the same behind
first-both : {A B : Type 0} (f : A → Bool) (g : B → Bool) (x : A) (y : B) (xs : List A) (ys : List B) → f x ≡ g y
    → first_where f xs ≡ first_where g ys → first_where f (x ∷ xs) ≡ first_where g (y ∷ ys)
first-both f g x y xs ys e r = by (g y) refl
  where
    by : (t : Bool) → g y ≡ t → first_where f (x ∷ xs) ≡ first_where g (y ∷ ys)
    by true h = first-here f x xs (e ∙ h) ∙ sym (first-here g y ys h)
    by false h = first-later f x xs (e ∙ h) ∙ ap suc r ∙ sym (first-later g y ys h)

-- lengths
module _ (s : List ℕ) (ns : List Name) where
  steps-in-length : (n : ℕ) (cs : List ℕ) → length (steps_in s ns n cs) ≡ length cs
  unfolding steps_in
  steps-in-length n [] = refl
  steps-in-length n (c ∷ cs) = ap suc (steps-in-length (n + step_operands s c) cs)

  pub steps-length : (j : ℕ) → length (chain_steps s ns j) ≡ link_count s j
  unfolding chain_steps link_count
  steps-length j = steps-in-length 0 (links max_depth s j)

  pub chains-length : (first : ℕ) (js : List ℕ) → length (chains_from s ns first js) ≡ length js
  unfolding chains_from
  chains-length first [] = refl
  chains-length first (j ∷ js) = ap suc (chains-length (first + link_count s j) js)

  pub all-steps-length : (js : List ℕ) → length (steps_from s ns js) ≡ step_count s js
  unfolding steps_from step_count
  all-steps-length [] = refl
  all-steps-length (j ∷ js) =
      length-append (chain_steps s ns j) (steps_from s ns js) ∙ ap₂ ◌+◌ (steps-length j) (all-steps-length js)

  -- one node more
  pub chains-snoc : (first : ℕ) (js : List ℕ) (j : ℕ)
      → chains_from s ns first (js ++ (j ∷ [])) ≡ chains_from s ns first js ++ (chain_in s ns (first + step_count s js) j ∷ [])
  unfolding chains_from step_count
  chains-snoc first [] j = rw add-zero
  chains-snoc first (k ∷ js) j =
      ap (λ (l : List Chain). chain_in s ns first k ∷ l)
      (chains-snoc (first + link_count s k) js j
      ∙ ap (λ (m : ℕ). chains_from s ns (first + link_count s k) js ++ (chain_in s ns m j ∷ []))
      (add_assoc first (link_count s k) (step_count s js)))

  pub steps-snoc : (js : List ℕ) (j : ℕ) → steps_from s ns (js ++ (j ∷ [])) ≡ steps_from s ns js ++ chain_steps s ns j
  unfolding steps_from
  steps-snoc [] j = append-nil (chain_steps s ns j)
  steps-snoc (k ∷ js) j =
      ap (λ (l : List Step). chain_steps s ns k ++ l) (steps-snoc js j)
      ∙ sym (append_assoc (chain_steps s ns k) (steps_from s ns js) (chain_steps s ns j))

all_snoc : {A : Type 0} (P : A → Type 0) (xs : List A) (x : A) → All P xs → P x → All P (xs ++ (x ∷ []))
all_snoc P [] x h p = (p, tt)
all_snoc P (y ∷ xs) x h p = (h.0, all_snoc P xs x h.1 p)

-- what is kept
module _ (s : List ℕ) where
  pub kept-none : Kept s no_pools []
  unfolding no_pools chains_from steps_from
  kept-none = record { chains = refl; steps = refl; pooled = tt }

  kept-grows : {js : List ℕ} (p q : Pools) → q.chains ≡ p.chains → q.steps ≡ p.steps → Grows p.names q.names → Kept s p js
      → Kept s q js
  kept-grows {js} p q e f g k = record {
    chains = e ∙ k.chains ∙ sym (chains-stay s g 0 js k.pooled);
    steps = f ∙ k.steps ∙ sym (all-steps-stay s g js k.pooled);
    pooled = all-pooled s g js k.pooled;
  }

  pub kept-name : {js : List ℕ} (n : Name) (p : Pools) → Kept s p js → Kept s (push_name s n p) js
  unfolding push_name
  kept-name n p k = kept-grows p (push_name s n p) refl refl (push-grows s n p) k

  pub kept-const : {js : List ℕ} (c : Const) (p : Pools) → Kept s p js → Kept s (push_const s c p) js
  unfolding push_const
  kept-const c p k = kept-grows p (push_const s c p) refl refl (grows-refl p.names) k

  pub kept-token : {js : List ℕ} (t : ℕ) (p : Pools) → Kept s p js → Kept s (push_token t p) js
  unfolding push_token
  kept-token t p k = kept-grows p (push_token t p) refl refl (grows-refl p.names) k

  pub kept-residual : {js : List ℕ} (j : ℕ) (p : Pools) → Kept s p js → Kept s (push_residual j p) js
  unfolding push_residual
  kept-residual j p k = kept-grows p (push_residual j p) refl refl (grows-refl p.names) k

  pub kept-emits : {js : List ℕ} (n : ℕ) (p : Pools) → Kept s p js → Kept s (emits n p) js
  unfolding emits
  kept-emits n p k = kept-grows p (emits n p) refl refl (grows-refl p.names) k

  pub kept-defeat : {js : List ℕ} (p : Pools) → Kept s p js → Kept s (defeat p) js
  unfolding defeat
  kept-defeat p k = kept-grows p (defeat p) refl refl (grows-refl p.names) k

-- a chain as `same_chain` compares it with an entry: root, operands, and the part of the steps that the entry names
module _ (s : List ℕ) (p : Pools) (ns : List Name) (j : ℕ) (r : Root) (xs : List Step) (n : ℕ) (h : ChainGives s ns j r xs n) where
  -- the steps of an entry, with the steps of others before and behind
  entry-steps : (before behind : List Step) (k : ℕ) → p.steps ≡ before ++ (chain_steps s ns k ++ behind)
      → steps_of p (chain_in s ns (length before) k) ≡ chain_steps s ns k
  unfolding steps_of chain_in
  entry-steps before behind k e =
      rw (e, drop_at before (chain_steps s ns k ++ behind) (length before) refl)
      (take_at (chain_steps s ns k) behind (link_count s k) (steps-length s ns k))

  entry-same : (c : Chain) (k : ℕ) → c.root ≡ chain_root s ns k → c.operands ≡ chain_operands s k → steps_of p c ≡ chain_steps s ns k
      → Pooled s ns k → same_chain p r xs n c ≡ true → same_nodes s j k ≡ true
  unfolding same_chain same_nodes same_links chain_root chain_steps
  entry-same c k er eo es hk t =
      let a = same (root_words r) (root_words c.root) in
      let b = eqb n c.operands in
      let d = same (steps_words xs) (steps_words (steps_of p c)) in
      let last = (and-eq-true_iff (a && b) d).0 t in
      let front = (and-eq-true_iff a b).0 last.0 in
      let roots = same_true (root_words r) (root_words c.root) front.0 in
      let steps = same_true (steps_words xs) (steps_words (steps_of p c)) last.1 in
      lazy-of (same_steps s (links max_depth s j) (links max_depth s k)) (same_root s (child j) (child k))
      (steps-words s ns 0 (links max_depth s j) (links max_depth s k) h.pooled.steps hk.steps
      (sym (ap steps_words h.steps) ∙ steps ∙ ap steps_words es))
      (root-words s ns (child j) (child k) h.pooled.root hk.root
      (sym (ap root_words h.root) ∙ roots ∙ ap root_words er))

  same-entry : (c : Chain) (k : ℕ) → c.root ≡ chain_root s ns k → c.operands ≡ chain_operands s k → steps_of p c ≡ chain_steps s ns k
      → same_nodes s j k ≡ true → same_chain p r xs n c ≡ true
  unfolding same_chain same_nodes same_links chain_root chain_steps chain_operands
  same-entry c k er eo es t =
      let both = lazy-true (same_steps s (links max_depth s j) (links max_depth s k)) (same_root s (child j) (child k)) t in
      let roots = h.root ∙ root-equal s ns (child j) (child k) both.1 ∙ sym er in
      let steps = h.steps ∙ steps-equal s ns 0 (links max_depth s j) (links max_depth s k) both.0 ∙ sym es in
      let operands = h.operands ∙ operands-equal s (links max_depth s j) (links max_depth s k) both.0 ∙ sym eo in
      let a = same (root_words r) (root_words c.root) in
      let b = eqb n c.operands in
      let d = same (steps_words xs) (steps_words (steps_of p c)) in
      let ha : a ≡ true = rw roots (same_refl (root_words c.root)) in
      let hd : d ≡ true = rw steps (same_refl (steps_words (steps_of p c))) in
      (and-eq-true_iff (a && b) d).1 ((and-eq-true_iff a b).1 (ha, eq-eqb n c.operands operands), hd)

  entry-test : (before behind : List Step) (k : ℕ) → p.steps ≡ before ++ (chain_steps s ns k ++ behind) → Pooled s ns k
      → same_chain p r xs n (chain_in s ns (length before) k) ≡ same_nodes s j k
  unfolding chain_in
  entry-test before behind k e hk =
      let c = chain_in s ns (length before) k in
      let es = entry-steps before behind k e in
      both_ways (same_chain p r xs n c) (same_nodes s j k) (entry-same c k refl refl es hk) (same-entry c k refl refl es)

  chains-find : (before : List Step) (ks : List ℕ) → p.steps ≡ before ++ steps_from s ns ks → All (Pooled s ns) ks
      → first_where (same_chain p r xs n) (chains_from s ns (length before) ks) ≡ first_where (same_nodes s j) ks
  unfolding chains_from steps_from first_where
  chains-find before [] e hk = refl
  chains-find before (k ∷ ks) e hk =
      let one = entry-test before (steps_from s ns ks) k e hk.0 in
      let before' = before ++ chain_steps s ns k in
      let at : length before' ≡ length before + link_count s k =
      length-append before (chain_steps s ns k) ∙ ap (λ (m : ℕ). length before + m) (steps-length s ns k) in
      let rest = chains-find before' ks (e ∙ sym (append_assoc before (chain_steps s ns k) (steps_from s ns ks))) hk.1 in
      first-both (same_chain p r xs n) (same_nodes s j) (chain_in s ns (length before) k) k
      (chains_from s ns (length before + link_count s k) ks) ks one
      (ap (λ (m : ℕ). first_where (same_chain p r xs n) (chains_from s ns m ks)) (sym at) ∙ rest)

module _ (s : List ℕ) (p : Pools) {js : List ℕ} (K : Kept s p js) (j : ℕ) (r : Root) (xs : List Step) (n : ℕ)
    (h : ChainGives s p.names j r xs n) where
  -- a chain is found where a node with the same chain is
  pub chain-at : chain_at r xs n p ≡ first_where (same_nodes s j) js
  unfolding chain_at
  chain-at =
      ap (first_where (same_chain p r xs n)) K.chains
      ∙ chains-find s p p.names j r xs n h [] js K.steps K.pooled

  kept-length : length p.chains ≡ length js
  kept-length = ap length K.chains ∙ chains-length s p.names 0 js

  -- the two answers of `push_chain`
  push-new : eqb (chain_at r xs n p) (length p.chains) ≡ true → push_chain r xs n p ≡ new_chain r xs n p
  unfolding push_chain
  push-new e = rw (e, push_chain)

  push-old : eqb (chain_at r xs n p) (length p.chains) ≡ false → push_chain r xs n p ≡ p
  unfolding push_chain
  push-old e = rw (e, push_chain)

  new-entry : ◌≡◌ {A = Chain} (record { root = r; first = length p.steps; steps = length xs; operands = n })
      (chain_in s p.names (0 + step_count s js) j)
  unfolding chain_in
  new-entry =
      let first : length p.steps ≡ 0 + step_count s js =
      ap length K.steps ∙ all-steps-length s p.names js ∙ omega arith in
      let count : length xs ≡ link_count s j = ap length h.steps ∙ steps-length s p.names j in
      rw (h.root, first, count, h.operands)

  new-kept : Kept s (new_chain r xs n p) (js ++ (j ∷ []))
  unfolding new_chain
  new-kept = record {
    chains =
        ap₂ (λ (l : List Chain) (c : Chain). l ++ (c ∷ [])) K.chains new-entry
        ∙ sym (chains-snoc s p.names 0 js j);
    steps = ap₂ ◌++◌ K.steps h.steps ∙ sym (steps-snoc s p.names js j);
    pooled = all_snoc (Pooled s p.names) js j K.pooled h.pooled;
  }

  -- a chain that is pooled adds its node
  pub push_kept : Kept s (push_chain r xs n p) (added (same_nodes s j) j js)
  push_kept = by (eqb (first_where (same_nodes s j) js) (length js)) refl
    where
      test : eqb (chain_at r xs n p) (length p.chains) ≡ eqb (first_where (same_nodes s j) js) (length js)
      test = ap₂ eqb chain-at kept-length

      by : (t : Bool) → eqb (first_where (same_nodes s j) js) (length js) ≡ t → Kept s (push_chain r xs n p) (added (same_nodes s j) j js)
      by true e = rw (push-new (test ∙ e), added_new (same_nodes s j) j js e) new-kept
      by false e = rw (push-old (test ∙ e), added-old (same_nodes s j) j js e) K

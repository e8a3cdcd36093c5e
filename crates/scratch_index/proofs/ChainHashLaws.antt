-- The hash of a chain: the same chains have the same hash over any names (`chains-alike`), and a chain whose names stand keeps its hash
-- when names are added (`chain-stays`).
use Rattle.std.proofs.Common.{◌≡◌, ℕ, ◌<◌, Bool, true, false, ◌||◌, eqb, List, [], ◌∷◌, sym, refl, ap, ◌∙◌, ap₂, true≢false, arith, eq-eqb}
use Rattle.std.proofs.Common.{ne_eqb, eqb-true}
use borrow.Author.Tests.{eqb-false}
use Rattle.expr_chains.proofs.RootLaws.{as-variable}
use Rattle.laws.proofs.Bool.{lazy-true}
use Rattle.sheet.specs.Limits.{max_depth}
use Rattle.sheet.specs.Node.{count, field_a, field_b, field_c, position, child}
use Rattle.sheet.specs.Namespace.{role}
use Rattle.sheet.specs.Start.{start_of}
use Rattle.sheet.specs.Text.{text}
use Rattle.lowering.specs.Kinds.{variable_kind, this_kind}
use Rattle.lowering.specs.Pools.{Name}
use Rattle.lowering.specs.Flatten as flatten
use Rattle.lowering.specs.Flatten.{negated, operand_of, StepRule, index, property, method, step_rule, links}
use Rattle.expr_chains.proofs.Grow.{Grows}
use Rattle.expr_chains.specs.Steps.{name_in}
use Rattle.expr_chains.specs.Same.{is_local, same_variable, root_kind, same_root_as, same_root, same_index}
use Rattle.expr_chains.specs.Same.{same_as, same_step, same_steps, same_links, same_nodes}
use Rattle.expr_chains.proofs.NameLaws.{names-one, texts-equal, name-stays}
use Rattle.expr_chains.specs.Pooled.{All, StepStands, LinkStands, RootStands, Pooled}
use Rattle.scratch_index.specs.Pool.{Alike}
use Rattle.scratch_folds.specs.Hash.{step, spread}
use Rattle.scratch_index.specs.Chains.{index_hash, property_hash, method_hash, step_hash, link_hash}
use Rattle.scratch_index.specs.Chains.{links_hash, variable_hash, root_hash_by, root_hash, chain_hash}
use Rattle.scratch_index.proofs.ChainLaws.{property-told, method-told, by-told, variable-told, local_same}
use Rattle.scratch_index.proofs.ChainLaws.{as-this, nodes-swap, nodes-join}

-- the hash of a root by its kind
module _ (s : List ℕ) (ns : List Name) (k h v : ℕ) where
  pub by-variable : k ≡ variable_kind → root_hash_by k s ns h v ≡ variable_hash (is_local s v) s ns h v
  unfolding root_hash_by
  by-variable e = rw (eq-eqb k variable_kind e, root_hash_by)

  pub by-this : (k ≡ variable_kind → ⊥) → k ≡ this_kind → root_hash_by k s ns h v ≡ step h (position s v)
  unfolding root_hash_by
  by-this n e = rw (ne_eqb k variable_kind n, eq-eqb k this_kind e, root_hash_by)

  pub by-other : (k ≡ variable_kind → ⊥) → (k ≡ this_kind → ⊥) → root_hash_by k s ns h v ≡ h
  unfolding root_hash_by
  by-other n m = rw (ne_eqb k variable_kind n, ne_eqb k this_kind m, root_hash_by)

-- the same chains
module _ (s : List ℕ) (ns : List Name) where
  place_same : (a b : ℕ) → text s a ≡ text s b → name_in s ns b ≡ name_in s ns a
  place_same a b e = sym (names-one s ns a b (texts-equal s a b e))

  index_same : (h c d : ℕ) → same_index s c d ≡ true → index_hash s h d ≡ index_hash s h c
  unfolding same_index index_hash
  index_same h c d e =
      let p = lazy-true (eqb (position s c) (position s d)) (eqb (start_of s (operand_of s c)) (start_of s (operand_of s d))) e in
      let a = eqb-true (position s c) (position s d) p.0 in
      let b = eqb-true (start_of s (operand_of s c)) (start_of s (operand_of s d)) p.1 in
      ap₂ (λ (i k : ℕ). step (step (step h 0) i) k) (sym a) (sym b)

  step_same : (r : StepRule) (h c d : ℕ) → same_as r s c d ≡ true → step_hash r s ns h d ≡ step_hash r s ns h c
  unfolding step_hash same_as property_hash method_hash
  step_same index h c d e = index_same h c d e
  step_same property h c d e =
      let x = operand_of s c in
      let y = operand_of s d in
      let t = property-told s x y e in
      let p : position s y ≡ position s x = sym t.pos in
      let a = place_same (field_a s x) (field_a s y) t.a in
      let b = place_same (field_b s x) (field_b s y) t.b in
      let c = place_same (field_c s x) (field_c s y) t.c in
      rw (p, a, b, c)
  step_same method h c d e =
      let x = operand_of s c in
      let y = operand_of s d in
      let t = method-told s x y e in
      let p : position s y ≡ position s x = sym t.pos in
      let n : count s y ≡ count s x = sym t.argc in
      let a = place_same (field_a s x) (field_a s y) t.a in
      rw (p, n, a)
  step_same flatten.none h c d e = refl

  link-same : (h c d : ℕ) → same_step s c d ≡ true → link_hash s ns h d ≡ link_hash s ns h c
  unfolding same_step link_hash
  link-same h c d e =
      let t = by-told s (step_rule s c) (step_rule s d) c d e in
      ap₂ (λ (r : StepRule) (f : ℕ). step_hash r s ns (step h f) d) (sym t.rules) (sym t.flags)
      ∙ step_same (step_rule s c) (step h (negated s c)) c d t.parts

  links_same : (h : ℕ) (cs ds : List ℕ) → same_steps s cs ds ≡ true → links_hash s ns h ds ≡ links_hash s ns h cs
  unfolding same_steps links_hash
  links_same h [] [] e = refl
  links_same h [] (d ∷ ds) e = absurd (true≢false (sym e))
  links_same h (c ∷ cs) [] e = absurd (true≢false (sym e))
  links_same h (c ∷ cs) (d ∷ ds) e =
      let p = lazy-true (same_step s c d) (same_steps s cs ds) e in
      ap (λ (f : ℕ). links_hash s ns f ds) (link-same h c d p.0) ∙ links_same (link_hash s ns h c) cs ds p.1

  -- roots
  variable-same : (h v w : ℕ) → same_variable s v w ≡ true → variable_hash (is_local s w) s ns h w ≡ variable_hash (is_local s v) s ns h v
  unfolding variable_hash
  variable-same h v w e = by (is_local s v) refl (eqb (position s v) (position s w)) refl
    where
      name : name_in s ns (field_a s w) ≡ name_in s ns (field_a s v)
      name = place_same (field_a s v) (field_a s w) (variable-told s v w e).name

      local : is_local s w ≡ is_local s v
      local = sym (local_same s v w (variable-told s v w e).name)

      by :
          (t : Bool) → is_local s v ≡ t → (b : Bool) → eqb (position s v) (position s w) ≡ b
          → variable_hash (is_local s w) s ns h w ≡ variable_hash (is_local s v) s ns h v
      by true f b g = rw (local, f, name)
      by false f true g = let p = eqb-true (position s v) (position s w) g in rw (local, f, name, p)
      by false f false g =
          absurd (true≢false (sym ((variable-told s v w e).near (eqb-false (position s v) (position s w) g)) ∙ f))

  root-by : (k h v w : ℕ) → same_root_as k s v w ≡ true → root_hash_by k s ns h w ≡ root_hash_by k s ns h v
  root-by k h v w e = by (eqb k variable_kind) refl (eqb k this_kind) refl
    where
      by : (a : Bool) → eqb k variable_kind ≡ a → (b : Bool) → eqb k this_kind ≡ b → root_hash_by k s ns h w ≡ root_hash_by k s ns h v
      by true f b g =
          let z = eqb-true k variable_kind f in
          by-variable s ns k h w z
          ∙ variable-same h v w (sym (as-variable s k v w z) ∙ e)
          ∙ sym (by-variable s ns k h v z)
      by false f true g =
          let n = eqb-false k variable_kind f in
          let z = eqb-true k this_kind g in
          by-this s ns k h w n z
          ∙ ap (step h) (sym (eqb-true (position s v) (position s w) (sym (as-this s k v w n z) ∙ e)))
          ∙ sym (by-this s ns k h v n z)
      by false f false g =
          let n = eqb-false k variable_kind f in
          let m = eqb-false k this_kind g in
          by-other s ns k h w n m ∙ sym (by-other s ns k h v n m)

  root-same : (h v w : ℕ) → same_root s v w ≡ true → root_hash s ns h w ≡ root_hash s ns h v
  unfolding same_root root_hash
  root-same h v w e =
      let k = root_kind (role s v) in
      let p = lazy-true (eqb k (root_kind (role s w))) (same_root_as k s v w) e in
      let z = eqb-true k (root_kind (role s w)) p.0 in
      ap (λ (i : ℕ). root_hash_by i s ns (step h i) w) (sym z) ∙ root-by k (step h k) v w p.1

  chain_same : (i j : ℕ) → same_nodes s i j ≡ true → chain_hash s ns j ≡ chain_hash s ns i
  unfolding same_nodes same_links chain_hash
  chain_same i j e =
      let is = links max_depth s i in
      let js = links max_depth s j in
      let p = lazy-true (same_steps s is js) (same_root s (child i) (child j)) e in
      ap spread
      (ap (λ (h : ℕ). root_hash s ns h (child j)) (links_same 1 is js p.0)
      ∙ root-same (links_hash s ns 1 is) (child i) (child j) p.1)

  pub chain-word : (j : ℕ) → chain_hash s ns j < 4294967296
  unfolding chain_hash
  chain-word j = omega arith

  pub chains-alike : Alike (same_nodes s) (chain_hash s ns)
  chains-alike = record { swap = nodes-swap s; join = nodes-join s; hashed = chain_same; word = chain-word }

-- a kind that counts as a variable's is one
pub root-variable : (k : ℕ) → root_kind k ≡ variable_kind → k ≡ variable_kind
unfolding root_kind
root-variable k = by (eqb k variable_kind || eqb k this_kind) refl
  where
    by : (t : Bool) → (eqb k variable_kind || eqb k this_kind) ≡ t → root_kind k ≡ variable_kind → k ≡ variable_kind
    by true e h = sym (rw (e, root_kind)) ∙ h
    by false e h = absurd (let z : ◌≡◌ {A = ℕ} 0 variable_kind = sym (rw (e, root_kind)) ∙ h in omega arith)

-- more names
module _ (s : List ℕ) {ns ms : List Name} (g : Grows ns ms) where
  step_stays : (r : StepRule) (h c : ℕ) → StepStands r s ns c → step_hash r s ms h c ≡ step_hash r s ns h c
  unfolding step_hash property_hash method_hash
  step_stays index h c t = refl
  step_stays property h c t =
      let x = operand_of s c in
      rw (name-stays s (field_a s x) g t.0, name-stays s (field_b s x) g t.1, name-stays s (field_c s x) g t.2)
  step_stays method h c t = rw (name-stays s (field_a s (operand_of s c)) g t.1)
  step_stays flatten.none h c t = absurd t

  links-stay : (h : ℕ) (cs : List ℕ) → All (LinkStands s ns) cs → links_hash s ms h cs ≡ links_hash s ns h cs
  unfolding links_hash link_hash
  links-stay h [] t = refl
  links-stay h (c ∷ cs) t =
      ap (λ (f : ℕ). links_hash s ms f cs) (step_stays (step_rule s c) (step h (negated s c)) c t.0)
      ∙ links-stay (link_hash s ns h c) cs t.1

  variable-stays :
      (b : Bool) (h v : ℕ) → name_in s ms (field_a s v) ≡ name_in s ns (field_a s v) → variable_hash b s ms h v ≡ variable_hash b s ns h v
  unfolding variable_hash
  variable-stays true h v e = rw e
  variable-stays false h v e = rw e

  root-stays : (h v : ℕ) → RootStands s ns v → root_hash s ms h v ≡ root_hash s ns h v
  unfolding root_hash
  root-stays h v t = by (eqb k variable_kind) refl (eqb k this_kind) refl
    where
      k : ℕ
      k = root_kind (role s v)

      by :
          (a : Bool) → eqb k variable_kind ≡ a → (b : Bool) → eqb k this_kind ≡ b
          → root_hash_by k s ms (step h k) v ≡ root_hash_by k s ns (step h k) v
      by true e b f =
          let z = eqb-true k variable_kind e in
          let stands = t (eq-eqb (role s v) variable_kind (root-variable (role s v) z)) in
          by-variable s ms k (step h k) v z
          ∙ variable-stays (is_local s v) (step h k) v (name-stays s (field_a s v) g stands)
          ∙ sym (by-variable s ns k (step h k) v z)
      by false e true f =
          let n = eqb-false k variable_kind e in
          let z = eqb-true k this_kind f in
          by-this s ms k (step h k) v n z ∙ sym (by-this s ns k (step h k) v n z)
      by false e false f =
          let n = eqb-false k variable_kind e in
          let m = eqb-false k this_kind f in
          by-other s ms k (step h k) v n m ∙ sym (by-other s ns k (step h k) v n m)

  pub chain-stays : (j : ℕ) → Pooled s ns j → chain_hash s ms j ≡ chain_hash s ns j
  unfolding chain_hash
  chain-stays j p =
      ap spread
      (ap (λ (h : ℕ). root_hash s ms h (child j)) (links-stay 1 (links max_depth s j) p.steps)
      ∙ root-stays (links_hash s ns 1 (links max_depth s j)) (child j) p.root)

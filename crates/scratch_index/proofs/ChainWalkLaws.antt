-- The hash of a chain as the code makes it: one law for each answer, where n names stand (`ByNames`), and the walk along the links.
use Rattle.std.proofs.Common.{◌≡◌, ℕ, Bool, true, false, List, [], sym, refl, ap, ◌∙◌, subst, ap₂, arith}
use Rattle.expr_chains.proofs.RootLaws.{kind-variable, kind-this, kind-other}
use Rattle.sheet.specs.Limits.{max_depth}
use Rattle.sheet.specs.Node.{count, field_a, field_b, field_c, position, child}
use Rattle.sheet.specs.Namespace.{role}
use Rattle.lowering.specs.Kinds.{variable_kind, this_kind}
use Rattle.lowering.specs.Pools.{Name, name}
use Rattle.lowering.specs.Flatten.{negated, StepRule, step_rule, links}
use Rattle.expr_rules.specs.declared.chains.Read.{Read}
use Rattle.expr_rules.specs.declared.chains.Links.{Links}
use Rattle.expr_rules.specs.Links.{nodes_left}
use Rattle.expr_rules.proofs.LinksLaws.{Left, Begun, Turn}
use Rattle.expr_chains.specs.Steps.{name_in}
use Rattle.expr_chains.specs.Same.{root_kind, RootLocal}
use Rattle.scratch.specs.declared.Layout.{Layout}
use Rattle.scratch_folds.specs.Hash.{step, spread}
use Rattle.scratch_index.specs.Held.{NamesHold, FindsName, names_held}
use Rattle.scratch_index.specs.Chains.{property_hash, method_hash, step_hash, link_hash, links_hash, variable_hash, root_hash_by, root_hash}
use Rattle.scratch_index.specs.Chains.{chain_hash}
use Rattle.scratch_index.specs.Chains.{ByNames}
use Rattle.scratch_index.proofs.ChainHashLaws.{by-variable, by-this, by-other}

-- the root as the code read it
pub root-at : {s : List ℕ} {u v : ℕ} {local : Bool} → u ≡ v → RootLocal s v local → RootLocal s u local
root-at {s} {local = local} e told = subst (λ (i : ℕ). RootLocal s i local) (sym e) told

module _ (s : List ℕ) (l : Layout) (n : ℕ) (xs : List ℕ) where
  -- the names that stand
  abbrev held : List Name
  held = names_held s l n xs

  -- a name's place, by the number that the code read for its text
  placed : {t u p : ℕ} → t ≡ u → FindsName s l n (name t 0) xs p → NamesHold s l n xs → p ≡ name_in s held u
  unfolding name_in
  placed e f h = f.found h ∙ ap (name_in s held) e

  -- the numbers m .. are the hash after each step of the fold
  module _ (h v : ℕ) {a p : ℕ} (read : a ≡ field_a s v) (pos : p ≡ position s v) where
    pub property-read :
        {b c i j k m₁ m₂ m₃ m₄ r : ℕ} → b ≡ field_b s v → c ≡ field_c s v → FindsName s l n (name a 0) xs i
        → FindsName s l n (name b 0) xs j → FindsName s l n (name c 0) xs k → m₁ ≡ step h 1 → m₂ ≡ step m₁ p → m₃ ≡ step m₂ i
        → m₄ ≡ step m₃ j → r ≡ step m₄ k → ByNames s l n xs (property_hash s (names_held s l n xs) h v) r
    unfolding property_hash
    property-read readb readc x y z e₁ e₂ e₃ e₄ e₅ = record {
      is = λ w.
          e₅
          ∙ ap₂ step
          (e₄ ∙ ap₂ step (e₃ ∙ ap₂ step (e₂ ∙ ap₂ step e₁ pos) (placed read x w)) (placed readb y w)) (placed readc z w);
    }

    pub method-read :
        {m i m₁ m₂ m₃ r : ℕ} → m ≡ count s v → FindsName s l n (name a 0) xs i → m₁ ≡ step h 2 → m₂ ≡ step m₁ p → m₃ ≡ step m₂ m
        → r ≡ step m₃ i → ByNames s l n xs (method_hash s (names_held s l n xs) h v) r
    unfolding method_hash
    method-read argc x e₁ e₂ e₃ e₄ = record {
      is = λ w. e₄ ∙ ap₂ step (e₃ ∙ ap₂ step (e₂ ∙ ap₂ step e₁ pos) argc) (placed read x w);
    }

  -- a link by its rule and its flag
  pub link-read :
      (h c : ℕ) {q : StepRule} {f g r : ℕ} → q ≡ step_rule s c → f ≡ negated s c → g ≡ step h f
      → ByNames s l n xs (step_hash q s (names_held s l n xs) g c) r → ByNames s l n xs (link_hash s (names_held s l n xs) h c) r
  unfolding link_hash
  link-read h c {q} {f} {g} rule flag e b = record {
    is = λ w. b.is w ∙ ap₂ (λ (k : StepRule) (i : ℕ). step_hash k s held i c) rule (e ∙ ap (step h) flag);
  }

  -- a number that needs no names, and the same number in other words
  pub by-plain : {v r : ℕ} → r ≡ v → ByNames s l n xs v r
  by-plain e = record { is = λ w. e }

  pub by-same : {u v r : ℕ} → u ≡ v → ByNames s l n xs u r → ByNames s l n xs v r
  by-same e b = record { is = λ w. b.is w ∙ e }

  -- the walk: those left, from the hash h of those passed on, give the hash of all
  pub record Walking (j h : ℕ) (it : Links) : Type 0 where
    pub left : Left s it
    pub rest : NamesHold s l n xs → links_hash s held h (nodes_left it) ≡ links_hash s held 1 (links max_depth s j)

  pub walk-starts : {j : ℕ} {it : Links} → Begun s it (links max_depth s j) → Walking j 1 it
  walk-starts b = record { left = b.left; rest = λ w. ap (links_hash s held 1) b.nodes }

  module _ {j h : ℕ} {it : Links} (k : Walking j h it) where
    pub walk-goes : {p : Read} {t : Links} {f : ℕ} → Turn s it p t → ByNames s l n xs (link_hash s (names_held s l n xs) h p.link) f
        → Walking j f t
    unfolding links_hash
    walk-goes {p} {t} u b = record {
      left = u.left;
      rest = λ w.
          ap (λ (i : ℕ). links_hash s held i (nodes_left t)) (b.is w)
          ∙ sym (ap (links_hash s held h) u.nodes)
          ∙ k.rest w;
    }

    pub walk_ends : nodes_left it ≡ [] → ByNames s l n xs (links_hash s (names_held s l n xs) 1 (links max_depth s j)) h
    unfolding links_hash
    walk_ends z = record { is = λ w. sym (ap (links_hash s held h) z) ∙ k.rest w }

  -- a root by its role k
  module _ (h v : ℕ) {k : ℕ} (kinds : k ≡ role s v) where
    root-as : (i : ℕ) → root_kind k ≡ i → root_hash s held h v ≡ root_hash_by i s held (step h i) v
    unfolding root_hash
    root-as i e = ap (λ (m : ℕ). root_hash_by m s held (step h m) v) (sym (ap root_kind kinds) ∙ e)

    pub root-local :
        {a i f g : ℕ} {local : Bool} → k ≡ variable_kind → a ≡ field_a s v → FindsName s l n (name a 0) xs i → f ≡ step h k
        → g ≡ step f i → local ≡ true → RootLocal s v local → ByNames s l n xs (root_hash s (names_held s l n xs) h v) g
    unfolding variable_hash
    root-local {a} {i} {f} e read x p q on told = record {
      is = λ w.
          let tells = told.tells (sym (ap root_kind kinds) ∙ kind-variable k e) in
          q
          ∙ ap₂ step (p ∙ ap (step h) e) (placed read x w)
          ∙ sym
          (root-as variable_kind (kind-variable k e)
          ∙ by-variable s held variable_kind (step h variable_kind) v refl
          ∙ ap (λ (b : Bool). variable_hash b s held (step h variable_kind) v) (sym tells ∙ on));
    }

    pub root-named :
        {a i f g p r : ℕ} {local : Bool} → k ≡ variable_kind → a ≡ field_a s v → FindsName s l n (name a 0) xs i → f ≡ step h k
        → g ≡ step f i → p ≡ position s v → r ≡ step g p → local ≡ false → RootLocal s v local
        → ByNames s l n xs (root_hash s (names_held s l n xs) h v) r
    unfolding variable_hash
    root-named {a} {i} {f} {g} e read x p q pos t off told = record {
      is = λ w.
          let tells = told.tells (sym (ap root_kind kinds) ∙ kind-variable k e) in
          t
          ∙ ap₂ step (q ∙ ap₂ step (p ∙ ap (step h) e) (placed read x w)) pos
          ∙ sym
          (root-as variable_kind (kind-variable k e)
          ∙ by-variable s held variable_kind (step h variable_kind) v refl
          ∙ ap (λ (b : Bool). variable_hash b s held (step h variable_kind) v) (sym tells ∙ off));
    }

    pub root-this :
        {f p r : ℕ} → k ≡ this_kind → f ≡ step h k → p ≡ position s v → r ≡ step f p
        → ByNames s l n xs (root_hash s (names_held s l n xs) h v) r
    root-this e q pos t = record {
      is = λ w.
          t
          ∙ ap₂ step (q ∙ ap (step h) e) pos
          ∙ sym (root-as this_kind (kind-this k e) ∙ by-this s held this_kind (step h this_kind) v (λ z. omega arith) refl);
    }

    pub root-other :
        {r : ℕ} → (k ≡ variable_kind → ⊥) → (k ≡ this_kind → ⊥) → r ≡ step h 0
        → ByNames s l n xs (root_hash s (names_held s l n xs) h v) r
    root-other a b t = record {
      is = λ w. t ∙ sym (root-as 0 (kind-other k a b) ∙ by-other s held 0 (step h 0) v (λ z. omega arith) (λ z. omega arith));
    }

  -- the whole
  pub chain-read :
      (j : ℕ) {h f v r : ℕ} → v ≡ child j → ByNames s l n xs (links_hash s (names_held s l n xs) 1 (links max_depth s j)) h
      → ByNames s l n xs (root_hash s (names_held s l n xs) h v) f → r ≡ spread f
      → ByNames s l n xs (chain_hash s (names_held s l n xs) j) r
  unfolding chain_hash
  chain-read j {h} {f} {v} e a b t = record {
    is = λ w. t ∙ ap spread (b.is w ∙ ap₂ (root_hash s held) (a.is w) e);
  }

-- A name by its field: the key is the one that the pool keeps.
use Rattle.std.proofs.Common.{◌≡◌, ℕ, ◌<◌, List, sym, ap, ◌∙◌, subst, arith}
use Rattle.sheet.specs.Limits.{max_nodes}
use Rattle.lowering.specs.Limits.{names_per_node}
use Rattle.lowering.specs.Pools.{name_at}
use Rattle.scratch_keys.specs.Keys.{key_of, name_of}
use Rattle.scratch_keys.specs.Used.{NameKey}
use Rattle.expr_model.specs.Made.{Made, add_name}
use Rattle.scratch.specs.declared.Layout.{Layout}
use Rattle.scratch_store.specs.declared.State.{State}
use Rattle.scratch_store.specs.Holds.{Holds}
use Rattle.scratch_store.specs.Does.{Does, Adds}

module _ {s : List ℕ} {l : Layout} {xs ys : List ℕ} {st r : State} {at : ℕ} (k j f : ℕ)
    (key : j < max_nodes → f < names_per_node → k ≡ key_of j f)
    (adds : Adds s l xs st ys r at (NameKey s k) (add_name s (name_of s k)) (λ a. name_at s (name_of s k) a.pools)) where
  few-nodes : {a : Made} → NameKey s (key_of j f) → Holds s l xs st a → j < max_nodes
  few-nodes v h = let n = h.fit.nodes in let m = h.fit.small in omega arith

  pub name-does : f < names_per_node → NameKey s (key_of j f) → Does s l xs st ys r (add_name s (name_of s (key_of j f)))
  name-does g v = record {
    holds = λ a h room.
        let is = key (few-nodes v h) g in
        let done = adds.does (subst (NameKey s) (sym is) v) in
        (subst (λ (i : ℕ). Does s l xs st ys r (add_name s (name_of s i))) is done).holds a h room;
  }

  pub name-place : (a : Made) → f < names_per_node → NameKey s (key_of j f) → Holds s l xs st a
      → at ≡ name_at s (name_of s (key_of j f)) a.pools
  name-place a g v h = adds.place a h ∙ ap (λ (i : ℕ). name_at s (name_of s i) a.pools) (key (few-nodes v h) g)

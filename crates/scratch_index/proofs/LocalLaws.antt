-- The locals in the slots of the Variables and the kept folds stay where other words are written, and where a pool has one entry more.
use Rattle.std.proofs.Common.{◌≡◌, ℕ, ◌+◌, ◌<◌, ◌≤◌, List, set, ◌∙◌, arith, get_or-set_other}
use Rattle.sheet.specs.Node.{kind}
use Rattle.lowering.specs.Kinds.{variable_kind}
use Rattle.scratch.specs.declared.Layout.{Layout}
use Rattle.scratch.specs.declared.Index.{Index}
use Rattle.scratch.specs.Places.{Small, memo_words, links_at, memos_at, sums_from, heads_at}
use Rattle.scratch.proofs.PlaceLaws.{sums-lie}
use Rattle.scratch_folds.specs.Sums.{Sums}
use Rattle.scratch_folds.proofs.SumsLaws.{sums-set}
use Rattle.scratch_index.specs.Table.{head_at, link_at, noted_by}
use Rattle.scratch_index.specs.Consts.{const_slot}
use Rattle.scratch_index.specs.Locals.{Slots}
use Rattle.scratch_index.proofs.PoolLaws.{entered}
use Rattle.scratch_index.proofs.LodgeLaws.{Lodged, key-place, link-place, head-place}

module _ {s : List ℕ} {l : Layout} where
  -- no Variable's slot is written
  pub slots_set :
      {xs : List ℕ} (i v : ℕ) → ((j : ℕ) → j < l.nodes → kind s j ≡ variable_kind → links_at l + const_slot j ≡ i → ⊥)
      → Slots s l xs → Slots s l (set xs i v)
  slots_set {xs} i v off h = record {
    many = λ m. record {
      slot = λ j b k. get_or-set_other xs i (links_at l + const_slot j) v 0 (off j b k) ∙ (h.many m).slot j b k;
    };
  }

  -- nor is it a key's
  pub slots-entered :
      {Used : ℕ → Type 0} {slot : ℕ → ℕ} {ix : Index} {cap : ℕ} {xs : List ℕ} → Lodged l Used slot ix cap
      → ((i k : ℕ) → kind s i ≡ variable_kind → Used k → const_slot i ≡ slot k → ⊥) → (hash : ℕ → ℕ) (n j : ℕ) → Used j → n < cap
      → hash j < 4294967296 → Slots s l xs → Slots s l (entered hash slot ix n j xs)
  unfolding noted_by
  slots-entered {slot = slot} {ix = ix} d apart hash n j u h w t =
      let k = (key-place d n h).1 in
      let q = (head-place d (hash j) w).0 in
      slots_set (head_at ix (hash j)) _ (λ i b v z. omega arith)
      (slots_set (link_at ix (slot j)) _ (λ i b v z. apart i j v u (omega arith))
      (slots_set (ix.at + n) j (λ i b v z. omega arith) t))

module _ {s : List ℕ} {l : Layout} (small : Small l) where
  -- a word before the kept folds, or behind them
  pub sums-before : {xs : List ℕ} (i v : ℕ) → i < memos_at l + memo_words → Sums s (sums_from l) xs → Sums s (sums_from l) (set xs i v)
  sums-before i v h t = let p = sums-lie small in sums-set i v t (λ k b q. omega arith)

  sums-behind : {xs : List ℕ} (i v : ℕ) → heads_at l ≤ i → Sums s (sums_from l) xs → Sums s (sums_from l) (set xs i v)
  sums-behind i v h t = let p = sums-lie small in sums-set i v t (λ k b q. omega arith)

  -- one entry more
  pub sums-entered :
      {Used : ℕ → Type 0} {slot : ℕ → ℕ} {ix : Index} {cap : ℕ} {xs : List ℕ} → Lodged l Used slot ix cap → (hash : ℕ → ℕ) (n j : ℕ)
      → Used j → n < cap → hash j < 4294967296 → Sums s (sums_from l) xs → Sums s (sums_from l) (entered hash slot ix n j xs)
  unfolding noted_by
  sums-entered {slot = slot} {ix = ix} d hash n j u h w t =
      let k = (key-place d n h).1 in
      let p = (link-place d j u).1 in
      sums-behind (head_at ix (hash j)) _ (head-place d (hash j) w).0
      (sums-before (link_at ix (slot j)) _ (omega arith) (sums-before (ix.at + n) j (omega arith) t))

-- Slots: keys in use have different slots, within a pool and across pools, by the kinds of their nodes.
use Rattle.std.proofs.Common.{◌≡◌, ℕ, ◌+◌, ◌*◌, ◌%◌, ◌<◌, List, sym, ap, ◌∙◌, arith}
use native.Mathlib.Decide.{dec_lt}
use Rattle.sheet.specs.Node.{kind}
use Rattle.lowering.specs.Limits.{names_per_node}
use Rattle.lowering.specs.Kinds.{variable_kind, property_kind}
use Rattle.scratch_keys.specs.Keys.{key_node, key_field}
use Rattle.scratch_keys.specs.Used.{ConstKey, TokenKey, ChainKey, NameKey}
use Rattle.scratch_index.specs.Consts.{const_slot}
use Rattle.scratch_index.specs.Names.{name_slot}

-- over plain numbers
half : (p q a b : ℕ) → 2 * p + (a + 1) % 2 ≡ 2 * q + (b + 1) % 2 → p ≡ q
half p q a b e = omega arith

rest : (p q a b : ℕ) → 2 * p + (a + 1) % 2 ≡ 2 * q + (b + 1) % 2 → (a + 1) % 2 ≡ (b + 1) % 2
rest p q a b e = omega arith

first-end : (a b : ℕ) → a < b → b < 3 → (a + 1) % 2 ≡ (b + 1) % 2 → a ≡ 0
first-end a b l m e = omega arith

last_end : (a b : ℕ) → a < b → b < 3 → (a + 1) % 2 ≡ (b + 1) % 2 → b ≡ 2
last_end a b l m e = omega arith

below-three : (k : ℕ) → key_field k < names_per_node
below-three k = omega arith

joined : (i j : ℕ) → key_node i ≡ key_node j → key_field i ≡ key_field j → i ≡ j
joined i j e f = omega arith

pub node-slots : (i j : ℕ) → const_slot i ≡ const_slot j → i ≡ j
node-slots i j e = omega arith

pub name-slots : (s : List ℕ) (i j : ℕ) → NameKey s i → NameKey s j → name_slot i ≡ name_slot j → i ≡ j
unfolding name_slot
name-slots s i j a b e =
    by (half (key_node i) (key_node j) (key_field i) (key_field j) e) (rest (key_node i) (key_node j) (key_field i) (key_field j) e)
    (dec_lt (key_field i) (key_field j)) (dec_lt (key_field j) (key_field i))
  where
    never :
        (m n : ℕ) → NameKey s m → NameKey s n → key_node m ≡ key_node n → (key_field m + 1) % 2 ≡ (key_field n + 1) % 2
        → key_field m < key_field n → ⊥
    never m n x y p q l =
        let low = x.own (first-end (key_field m) (key_field n) l (below-three n) q) in
        let dot = ap (kind s) p ∙ y.setter (last_end (key_field m) (key_field n) l (below-three n) q) in
        omega arith

    by : key_node i ≡ key_node j → (key_field i + 1) % 2 ≡ (key_field j + 1) % 2 → Dec (key_field i < key_field j)
        → Dec (key_field j < key_field i)
        → i ≡ j
    by p q (yes l) m = absurd (never i j a b p q l)
    by p q (no l) (yes m) = absurd (never j i b a (sym p) (sym q) m)
    by p q (no l) (no m) = joined i j p (omega arith)

-- a node's slot is a name's only where the node is a Property
name-beside : (s : List ℕ) (i j : ℕ) → NameKey s j → const_slot i ≡ name_slot j → kind s i ≡ property_kind
unfolding name_slot
name-beside s i j b e =
    let same : key_node j ≡ i = omega arith in
    let mid : key_field j ≡ 1 = omega arith in
    sym (ap (kind s) same) ∙ b.getter mid

-- no two pools share a slot
module _ (s : List ℕ) where
  pub const-token : (i j : ℕ) → ConstKey s i → TokenKey s j → const_slot i ≡ const_slot j → ⊥
  const-token i j a b e = let k = ap (kind s) (node-slots i j e) in omega arith

  pub const-chain : (i j : ℕ) → ConstKey s i → ChainKey s j → const_slot i ≡ const_slot j → ⊥
  const-chain i j a b e = let k = ap (kind s) (node-slots i j e) in omega arith

  pub token-chain : (i j : ℕ) → TokenKey s i → ChainKey s j → const_slot i ≡ const_slot j → ⊥
  token-chain i j a b e = let k = ap (kind s) (node-slots i j e) in omega arith

  pub const-name : (i j : ℕ) → ConstKey s i → NameKey s j → const_slot i ≡ name_slot j → ⊥
  const-name i j a b e = let k = name-beside s i j b e in omega arith

  pub token-name : (i j : ℕ) → TokenKey s i → NameKey s j → const_slot i ≡ name_slot j → ⊥
  token-name i j a b e = let k = name-beside s i j b e in omega arith

  pub chain-name : (i j : ℕ) → ChainKey s i → NameKey s j → const_slot i ≡ name_slot j → ⊥
  chain-name i j a b e = let k = name-beside s i j b e in omega arith

-- nor with a Variable
module _ (s : List ℕ) where
  pub variable-const : (i j : ℕ) → kind s i ≡ variable_kind → ConstKey s j → const_slot i ≡ const_slot j → ⊥
  variable-const i j v a e = let k = ap (kind s) (node-slots i j e) in omega arith

  pub variable-token : (i j : ℕ) → kind s i ≡ variable_kind → TokenKey s j → const_slot i ≡ const_slot j → ⊥
  variable-token i j v a e = let k = ap (kind s) (node-slots i j e) in omega arith

  pub variable-chain : (i j : ℕ) → kind s i ≡ variable_kind → ChainKey s j → const_slot i ≡ const_slot j → ⊥
  variable-chain i j v a e = let k = ap (kind s) (node-slots i j e) in omega arith

  pub variable-name : (i j : ℕ) → kind s i ≡ variable_kind → NameKey s j → const_slot i ≡ name_slot j → ⊥
  variable-name i j v a e = let k = name-beside s i j a e in omega arith

pub name-slot-below : (nodes k : ℕ) → k < names_per_node * nodes → name_slot k < 2 * nodes
unfolding name_slot
name-slot-below nodes k l = omega arith

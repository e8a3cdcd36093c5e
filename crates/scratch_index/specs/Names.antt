-- Names by their keys: when two are the same, their hashes, and the slots of their links.
use Rattle.std.specs.Prelude.{ℕ, ◌+◌, ◌*◌, ◌%◌, Bool, List}
use Rattle.lowering.specs.Pools.{Name, same_name, name_bytes}
use Rattle.scratch_keys.specs.Keys.{key_node, key_field, name_of, mark_by}
use Rattle.scratch_folds.specs.Hash.{bytes_hash}

module _ (s : List ℕ) where
  -- key k has this name
  abbrev pub is_name : Name → ℕ → Bool
  is_name n k = same_name s n (name_of s k)

  -- keys i and k have the same name
  abbrev pub same_name_of : ℕ → ℕ → Bool
  same_name_of i k = is_name (name_of s i) k

  -- the name with text t, with `!` where m says, in namespace w
  abbrev pub name_with : ℕ → Bool → ℕ → Name
  name_with t m w = record { text = t; mark = mark_by m; namespace = w }

  -- of the bytes, with the namespace and `!`
  unfoldable pub name_hash_of : Name → ℕ
  name_hash_of n = bytes_hash (name_bytes s n)

  abbrev pub name_hash : ℕ → ℕ
  name_hash k = name_hash_of (name_of s k)

-- the slot of a name: 2 j + 1 for field a of node j and for the setter that Dot j is taken with, 2 j for the getter of Property j
unfoldable pub name_slot : ℕ → ℕ
name_slot k = 2 * (key_node k) + (key_field k + 1) % 2

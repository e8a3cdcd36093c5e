-- Constants and tokens by the nodes that they were first met at: when two are the same, and their hashes.
use Rattle.std.specs.Prelude.{ℕ, ◌*◌, Bool, true, false, List, ◌==◌}
use Rattle.sheet.specs.Node.{kind, field_a, field_b, field_c}
use Rattle.sheet.specs.Text.{text}
use Rattle.lowering.specs.Kinds.{string_kind}
use Rattle.lowering.specs.Pools.{const_of, same_const}
use Rattle.scratch_folds.specs.Hash.{byte_step, spread, bytes_hash, mix}

-- the slot of a node's constant, token or chain
abbrev pub const_slot : ℕ → ℕ
const_slot j = 2 * j

module _ (s : List ℕ) where
  -- node c has the constant of node i
  abbrev pub same_const_of : ℕ → ℕ → Bool
  same_const_of i c = same_const s (const_of s i) (const_of s c)

  -- by kind and bits, a String by its bytes
  unfoldable pub const_hash : ℕ → ℕ
  const_hash j =
      elim (kind s j == string_kind) [
        | true ↦ bytes_hash (text s (field_a s j))
        | false ↦ mix (kind s j) (field_a s j) (field_b s j)
      ]

  -- node c has the token of node i
  abbrev pub same_token_of : ℕ → ℕ → Bool
  same_token_of i c = field_c s i == field_c s c

  unfoldable pub token_hash : ℕ → ℕ
  token_hash j = spread (byte_step 0 (field_c s j))

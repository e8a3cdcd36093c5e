-- What refusal 14 is, as document 02 says it (A3): of names and their bytes, and of its place among the others. The definition that
-- computes it asks for kinds and for the words of lengths (`names_by`, crate check_names).
use Rattle.std.specs.Prelude.{ℕ, ◌<◌, ◌≤◌, ◌≡◌, true, List, [], Ok, Err, ◌⊎◌}
use Rattle.sheet.specs.Kinds.{variable_kind, property_kind, method_call_kind, fn_call_kind}
use Rattle.sheet.specs.Sections.{node_count, local_count}
use Rattle.sheet.specs.Node.{kind, field_a, local_text}
use Rattle.sheet.specs.Text.{text}
use Rattle.check_sizes.specs.Sizes.{sizes_ok}
use Rattle.check_shape.specs.Shape.{shape_ok}
use Rattle.check_texts.specs.Texts.{texts_ok}
use Rattle.check_numbers.specs.Numbers.{numbers_ok}
use Rattle.refusals.specs.declared.Refusal.TheVariants.{EmptyName}
use Rattle.checks.specs.Checked.{verdict_number, checked, tree_checked}

-- nothing of refusals 1 to 4
pub record Before (s : List ℕ) : Type 0 where
  pub sizes : sizes_ok s ≡ true
  pub shape : shape_ok s ≡ true
  pub texts : texts_ok s ≡ true
  pub numbers : numbers_ok s ≡ true

-- the kinds whose field a is a name of their own
abbrev pub HasOwnName : ℕ → Type 0
HasOwnName k = (k ≡ variable_kind) ⊎ (k ≡ property_kind) ⊎ (k ≡ method_call_kind) ⊎ (k ≡ fn_call_kind)

-- a node or a local of the sheet has a name of its own, and no byte in it
pub data Nameless (s : List ℕ) : Type 0 where
  at_node : (n : ℕ) → n < node_count s → HasOwnName (kind s n) → text s (field_a s n) ≡ [] → Nameless s
  at_local : (l : ℕ) → l < local_count s → text s (local_text s l) ≡ [] → Nameless s

pub record Statement (s : List ℕ) : Type 0 where
  -- 14 is the answer where nothing of refusals 1 to 4 holds and an own name has no byte, and nowhere else
  pub refused : checked s ≡ Err EmptyName → Before s × Nameless s
  pub refuses : Before s → Nameless s → checked s ≡ Err EmptyName
  -- where one of 1 to 4 holds, one of them is the answer, whatever the names
  pub earlier : (Before s → ⊥) → (1 ≤ verdict_number (checked s)) × (verdict_number (checked s) ≤ 4)
  -- where all names have bytes, the answer is that of 5 to 8, which is never 14
  pub later : Before s → (Nameless s → ⊥) → checked s ≡ tree_checked s
  pub other : tree_checked s ≡ Err EmptyName → ⊥
  -- so every own name of an accepted sheet has bytes
  pub accepted : checked s ≡ Ok tt → Nameless s → ⊥

-- The names that the scratch holds, with their index and their memos, and what a search for one answers.
use Rattle.std.specs.Prelude.{◌≡◌, ℕ, ◌*◌, List, map}
use Rattle.lowering.specs.Limits.{names_per_node}
use Rattle.lowering.specs.Pools.{Name, first_where, same_name}
use Rattle.scratch_keys.specs.Keys.{name_of}
use Rattle.scratch_keys.specs.Used.{NameKey}
use Rattle.scratch.specs.declared.Layout.{Layout}
use Rattle.scratch.specs.Places.{Small, names_at, memos_at, sums_from, name_index, region}
use Rattle.scratch_folds.specs.Sums.{Sums}
use Rattle.scratch_index.specs.Pool.{Pool}
use Rattle.scratch_index.specs.Names.{same_name_of, name_hash, name_slot}
use Rattle.scratch_index.specs.Memo.{Told, NameAt}
use Rattle.scratch_index.specs.Locals.{Slots}

-- the first n names
unfoldable pub names_held : List ℕ → Layout → ℕ → List ℕ → List Name
names_held s l n xs = map (name_of s) (region (names_at l) n xs)

abbrev pub NamePool : List ℕ → Layout → ℕ → List ℕ → Type 0
NamePool s l n xs = Pool (same_name_of s) (name_hash s) (NameKey s) name_slot (name_index l) (names_per_node * l.nodes) n xs

abbrev pub NameMemos : List ℕ → Layout → ℕ → List ℕ → Type 0
NameMemos s l n xs = Told (NameAt s (names_held s l n xs)) (memos_at l) xs

-- n names stand, what the memos tell of them is true, and so are the slots of the Variables and the kept folds
pub record NamesHold (s : List ℕ) (l : Layout) (n : ℕ) (xs : List ℕ) : Type 0 where
  pub small : Small l
  pub pool : NamePool s l n xs
  pub memos : NameMemos s l n xs
  pub slots : Slots s l xs
  pub sums : Sums s (sums_from l) xs

-- r is the place of this name among them
pub record FindsName (s : List ℕ) (l : Layout) (n : ℕ) (nm : Name) (xs : List ℕ) (r : ℕ) : Type 0 where
  pub found : NamesHold s l n xs → r ≡ first_where (same_name s nm) (names_held s l n xs)

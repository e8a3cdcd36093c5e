-- How a hash tells the bucket and the tag of an entry, where its head and its link lie, and what is written when it is added.
use Rattle.std.specs.Prelude.{ℕ, ◌+◌, ◌*◌, ◌/◌, ◌%◌, List, slice_index, slice_set}
use Rattle.scratch.specs.declared.Index.{Index}

-- the bucket of hash h among count
unfoldable pub bucket_of : ℕ → ℕ → ℕ
bucket_of count h = h * count / 4294967296

-- the part of a hash that is kept in the link: other bits than those that tell the bucket
abbrev pub tag_of : ℕ → ℕ
tag_of h = h % 8192

-- the head's place
abbrev pub head_at : Index → ℕ → ℕ
head_at ix h = ix.heads + bucket_of ix.count h

-- the place of the link in a slot
abbrev pub link_at : Index → ℕ → ℕ
link_at ix slot = ix.links + slot

-- a link: the entry before, plus 1, and in front of it the tag
abbrev pub link_of : ℕ → ℕ → ℕ
link_of c tag = c + 524288 * tag

-- entry e goes in front of its bucket: its link has what the head had, and the head has it
unfoldable pub noted_by : ℕ → ℕ → ℕ → ℕ → List ℕ → List ℕ
noted_by head link tag e xs = slice_set (slice_set xs link (link_of (slice_index xs head % 524288) tag)) head ((e + 1) % 4294967296)

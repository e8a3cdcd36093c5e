-- The numbers of the sheet's format. Each stands here once; src/limits.rt has the same for the code.
use Rattle.std.specs.Prelude.{ℕ, ◌^◌}

-- words of the header: the four sizes
abbrev pub header_words : ℕ
header_words = 4

-- words of a node: kind, span, count, a, b, c, namespace, the namespace's position
abbrev pub node_words : ℕ
node_words = 8

-- greatest sizes: nodes (at least 1), texts, text bytes, locals
abbrev pub max_nodes : ℕ
max_nodes = 131072

abbrev pub max_texts : ℕ
max_texts = 65536

abbrev pub max_bytes : ℕ
max_bytes = 1048576

abbrev pub max_locals : ℕ
max_locals = 65535

-- greatest depth of the tree; node 0 is at depth 1
abbrev pub max_depth : ℕ
max_depth = 64

-- greatest count of blocks, of cases, of ranges, and of Refs in one case
abbrev pub max_entries : ℕ
max_entries = 64

-- node numbers are 32-bit words
abbrev pub word_range : ℕ
word_range = 2 ^ 32

-- The numbers of the lowering and of the image's format. Each stands here once; src/lib.rt has the same for the code. The sheet's own are
-- in crate sheet.
use Rattle.std.specs.Prelude.{ℕ}
use Rattle.sheet.specs.Limits.{max_depth}

-- words before the image's sections: the twelve sizes
abbrev pub sizes_words : ℕ
sizes_words = 12

-- words of each record of an image: an instruction
abbrev pub op_width : ℕ
op_width = 4

-- an instruction with its position, which stands in the next section
abbrev pub code_width : ℕ
code_width = 5

-- a constant
abbrev pub const_width : ℕ
const_width = 3

-- a name
abbrev pub name_width : ℕ
name_width = 3

-- a chain
abbrev pub chain_width : ℕ
chain_width = 6

-- a step of a chain
abbrev pub step_width : ℕ
step_width = 6

-- a table of a switch
abbrev pub switch_width : ℕ
switch_width = 4

-- a row of cases
abbrev pub case_width : ℕ
case_width = 2

-- a row of ranges
abbrev pub range_width : ℕ
range_width = 6

-- where a row of ranges has its target; a row of cases has it first
abbrev pub range_target : ℕ
range_target = 5

-- levels of nodes that are lowered, and links of a chain that are followed; that more would change nothing is in Levels
abbrev pub max_levels : ℕ
max_levels = max_depth

-- greatest count of arguments of a call, and of elements of an array, that lower
abbrev pub max_args : ℕ
max_args = 255

abbrev pub max_elements : ℕ
max_elements = 65535

-- where `max_stack` is capped
abbrev pub max_stack_cap : ℕ
max_stack_cap = 65535

-- greatest count of instructions emitted, those taken back included
abbrev pub max_emitted : ℕ
max_emitted = 262143

-- words of scratch for each emitted instruction, for each node, and besides
abbrev pub scratch_per_emitted : ℕ
scratch_per_emitted = 16

abbrev pub scratch_per_node : ℕ
scratch_per_node = 16

abbrev pub scratch_besides : ℕ
scratch_besides = 4096

-- names that a node may give, one for each field a, b, c: a name is kept by its key, this times the node plus the field
abbrev pub names_per_node : ℕ
names_per_node = 3

-- greatest count of bands of a switch: so many pieces lie at and between the ends of all ranges
abbrev pub max_bands : ℕ
max_bands = 255

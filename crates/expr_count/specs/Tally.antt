-- A tally: how many instructions a lowering gives, how many it emits (those that are taken back included), and whether it reaches an
-- `eval`.
use Rattle.std.specs.Prelude.{ℕ, ◌+◌, min, Bool, true, false, ◌||◌}
use Rattle.expr_count.specs.declared.tallies.Tally.{Tally}
use Rattle.expr_count.specs.Limits.{cap}

abbrev pub counted : ℕ → ℕ → Bool → Tally
counted len emitted defeated = record { len = len; emitted = emitted; defeated = defeated }

-- n instructions
unfoldable pub instructions : ℕ → Tally
instructions n = counted n n false

unfoldable pub nothing : Tally
nothing = instructions 0

-- the residual that an `eval` stays
unfoldable pub evaluation : Tally
evaluation = counted 1 1 true

unfoldable pub plus : Tally → Tally → Tally
plus a b = counted (a.len + b.len) (a.emitted + b.emitted) (a.defeated || b.defeated)

-- code that is taken back stays emitted
unfoldable pub taken_back : Tally → Tally
taken_back a = counted 0 a.emitted a.defeated

-- cut off, as the code counts
unfoldable pub capped : Tally → Tally
capped a = counted (min a.len cap) (min a.emitted cap) a.defeated

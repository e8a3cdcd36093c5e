-- Where counts are cut off: far above every count that is asked for, far below the end of a 64-bit number. src/tallies.rt has the same.
use Rattle.std.specs.Prelude.{ℕ, ◌^◌}

abbrev pub cap : ℕ
cap = 2 ^ 24

-- What the table has of a guard, in the words of the definition of the lowering; the sheet's number of a default.
use Prim.Native.Nat.{ℕ, ◌-◌, ◌≤◌}
use mathlib.Core.Path.{◌≡◌, refl}
use mathlib.Core.Bool.{Bool, true, false}
use native.Mathlib.Omega.{arith}
use Rattle.std.specs.Prelude.{Option, None, Some}
use Rattle.std.specs.Option.{SomeIff}
use Rattle.lowering.specs.Arms as rules
use Rattle.expr_count.specs.declared.tallies.Tally.{Tally}
use Rattle.switch_tables.specs.declared.kinds.Guard.{Guard}
use Rattle.switch_tables.specs.declared.kinds.Guard.TheVariants.{Never, Always, Tried}
use Rattle.switch_tables.specs.Kinds.{said_guard, coded}
use Rattle.switch_tables.specs.Table.{tried_kind, known_by}

-- the guard, whatever it reaches
abbrev pub rule_by : Guard → rules.Guard
rule_by Never = rules.never
rule_by Always = rules.always
rule_by (Tried d) = rules.tried

-- it reaches an `eval`
abbrev pub defeats : Guard → Bool
defeats Never = false
defeats Always = false
defeats (Tried d) = d

pub tried-said : (d : Bool) → said_guard (tried_kind d) ≡ Tried d
unfolding tried_kind
tried-said true = refl
tried-said false = refl

pub rule-said : (g : rules.Guard) (a : Tally) → rule_by (said_guard (known_by g a).kind) ≡ g
unfolding known_by
rule-said rules.never a = refl
rule-said rules.always a = refl
rule-said rules.tried a = rw (tried-said a.defeated) refl

-- the block of the default, as it is found from the sheet's number
pub coded-of : (o : Option ℕ) (n : ℕ) → SomeIff o (1 ≤ n) (n - 1) → coded o ≡ n
coded-of None n h = omega (arith, h)
coded-of (Some k) n h = omega (arith, h.0, h.1)

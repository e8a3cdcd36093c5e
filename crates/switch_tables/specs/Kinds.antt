-- Guards and exits as words of the table. Definitions; assume nothing.
use Rattle.std.specs.Prelude.{ℕ, zero, suc, ◌+◌, min, true, false, Option, None, Some}
use Rattle.switch_tables.specs.declared.kinds.Guard.{Guard}
use Rattle.switch_tables.specs.declared.kinds.Guard.TheVariants.{Never, Always, Tried}
use Rattle.switch_tables.specs.declared.kinds.Exit.{Exit}
use Rattle.switch_tables.specs.declared.kinds.Exit.TheVariants.{Chain, Fallback, Body}

-- the word of a guard, and the guard that a word says
abbrev pub guard_word : Guard → ℕ
guard_word Never = 0
guard_word Always = 1
guard_word (Tried false) = 2
guard_word (Tried true) = 3

abbrev pub said_guard : ℕ → Guard
said_guard zero = Never
said_guard (suc zero) = Always
said_guard (suc (suc zero)) = Tried false
said_guard (suc (suc (suc n))) = Tried true

-- the word of an exit, and the exit that a word says
abbrev pub exit_word : Exit → ℕ
exit_word (Chain true) = 0
exit_word (Chain false) = 1
exit_word Fallback = 2
exit_word (Body k) = min (k + 3) 4294967295

abbrev pub said_exit : ℕ → Exit
said_exit zero = Chain true
said_exit (suc zero) = Chain false
said_exit (suc (suc zero)) = Fallback
said_exit (suc (suc (suc n))) = Body n

-- the number that the sheet has for the block of a default: it plus 1, and 0 where there is none
abbrev pub coded : Option ℕ → ℕ
coded None = 0
coded (Some k) = suc k

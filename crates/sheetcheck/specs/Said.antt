-- What the program `sheetcheck` writes for what it reads.
use Rattle.std.specs.Prelude.{ℕ, List, [], ◌∷◌, ◌++◌, length, nat_lt, codes, Ok, Err, if◌then◌else◌}
use Rattle.refusals.specs.declared.Refusal.TheVariants.{Size}
use Rattle.refusals.specs.Refusal.{refusal_text}
use Rattle.checks.specs.Checked.{Verdict, checked}

-- a line for a verdict
abbrev pub verdict_text : Verdict → List ℕ
verdict_text (Ok x) = codes "accepted" ++ (10 ∷ [])
verdict_text (Err r) = refusal_text r ++ (10 ∷ [])

-- of an input of up to 65,536 bytes the verdict
abbrev pub said : List ℕ → List ℕ
said input = if nat_lt 65536 (length input) then verdict_text (Err Size) else verdict_text (checked input)

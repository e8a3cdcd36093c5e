-- A name at the end of a sheet. A text is cut short where the sheet ends: only then has it another length than is told of it.
use Rattle.std.specs.Prelude.{ℕ, ◌-◌, ◌≡◌, List, length, take, drop}

abbrev pub Ends : List ℕ → List ℕ → Type 0
Ends s name = take (length name) (drop (length s - length name) s) ≡ name

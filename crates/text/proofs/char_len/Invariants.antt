-- `text::char_len` meets its contract. The loop's invariant: what is left to read, the tail bytes from k on, gives the length.
-- Assumes nothing.
use Prim.Native.Nat.{◌+◌, ◌-◌, ◌≤◌}
use mathlib.Core.Path.{◌≡◌}
use lib.ListN.{drop}
use Rattle.text.specs.Char.{char_length}
use Rattle.text.proofs.CharLaws.{char_left}
use Rattle.text.proofs.char_len.Given as goal

abbrev pub invariant-loop-b : goal.invariant-loop-b
invariant-loop-b l =
    (l.b-index ≤ l.n) × (char_left l.s (l.n - l.b-index) l.low l.high (l.i + 1 + l.b-index) (l.n + 1) ≡ char_length (drop l.i l.s))

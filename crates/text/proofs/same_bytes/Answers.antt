-- `text::same_bytes` meets its contract: strings of different lengths differ, and each of the ways for one length meets it. Assumes
-- nothing.
use mathlib.Core.Path.{sym}
use native.Mathlib.Omega.{arith}
use Rattle.text.proofs.SameLaws.{same-lengths}
use Rattle.text.proofs.same_bytes.Goals as goal

pub returns-then-n-b : goal.returns-then-n-b
returns-then-n-b c =
    let a = c.args in
    sym (same-lengths a.a.now a.b.now (λ e. omega arith))

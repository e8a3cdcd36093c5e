-- `text::char_len` meets its contract. The loop's invariant: what is left to read, the tail bytes from k on, gives the length.
-- Assumes nothing.
use Prim.Native.Nat.{ℕ, ◌+◌}
use mathlib.Core.List.{List}
use mathlib.Core.Path.{sym, ◌∙◌}
use mathlib.Core.Path.{subst}
use Prim.Native.Nat.{◌-◌, ◌<◌}
use mathlib.Core.Path.{◌≡◌}
use lib.ListN.{get_or, take, drop}
use Rattle.std.proofs.lemmas.List.{get_or-drop, get_or-take}
use native.Mathlib.Omega.{arith}
use Rattle.text.proofs.CharLaws.{char-past, char-start, char-short, char-next, char-low, char-high, char-done}
use Rattle.text.proofs.char_len.Goals as goal

pub returns-then-s-i-clause-length : goal.returns-then-s-i-clause-length
returns-then-s-i-clause-length c =
    let a = c.args in
    sym (char-past a.s.now a.i c.if-s-i.true)

pub returns-then-s-i-2-clause-length : goal.returns-then-s-i-2-clause-length
returns-then-s-i-2-clause-length c =
    let a = c.args in
    sym (char-short a.s.now a.i _ _ _ (omega arith) c.asked-lead.ensures c.if-s-i-2.true)

-- byte k of the tail is byte i + 1 + k
tail-byte : (s : List ℕ) (i n k : ℕ) → k < n → get_or (take (i + 1 + n - (i + 1)) (drop (i + 1) s)) k 0 ≡ get_or s (i + 1 + k) 0
tail-byte s i n k h = get_or-take _ (drop (i + 1) s) k 0 (omega arith) ∙ get_or-drop (i + 1) s k 0

pub loop-b-init : goal.loop-b-init
loop-b-init c =
    let a = c.args in
    (omega arith, char-start a.s.now a.i _ _ _ (omega arith) c.asked-lead.ensures)

pub returns-then-b-low-clause-length : goal.returns-then-b-low-clause-length
returns-then-b-low-clause-length c =
    let s = c.args.s.now in
    sym (char-low s _ c.loop-b.b-index _ _ _ _ (omega arith) (omega arith) (subst (λ v. v < c.loop-b.low) (tail-byte s c.args.i c.asked-lead.result.tails c.loop-b.b-index (omega arith)) c.if-b-low.true)) ∙ c.loop-b.invariant.1

pub returns-then-high-b-clause-length : goal.returns-then-high-b-clause-length
returns-then-high-b-clause-length c =
    let s = c.args.s.now in
    sym (char-high s _ c.loop-b.b-index _ _ _ _ (omega arith) (omega arith) (subst (λ v. c.loop-b.high < v) (tail-byte s c.args.i c.asked-lead.result.tails c.loop-b.b-index (omega arith)) c.if-high-b.true)) ∙ c.loop-b.invariant.1

pub loop-b-preserved : goal.loop-b-preserved
loop-b-preserved c =
    let a = c.args in
    let n = c.asked-lead.result.tails in (
      omega arith,
      sym (char-next a.s.now n c.loop-b.b-index _ _ (a.i + 1) _ (omega arith) (omega arith) (omega (arith, c.if-b-low.false, tail-byte a.s.now a.i n c.loop-b.b-index (omega arith))) (omega (arith, c.if-high-b.false, tail-byte a.s.now a.i n c.loop-b.b-index (omega arith))))
          ∙ c.loop-b.invariant.1,
    )

pub returns-clause-length : goal.returns-clause-length
returns-clause-length c =
    let a = c.args in
    let n = c.asked-lead.result.tails in
    sym (char-done a.s.now n c.loop-b.b-index c.loop-b.low c.loop-b.high (a.i + 1 + c.loop-b.b-index) (n + 1) (omega arith))
    ∙ c.loop-b.invariant.1

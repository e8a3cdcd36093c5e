-- docs/PORT.md names these laws; what the code reads of a chain goes by its kind now (CodeLaws).
use Prim.Native.Nat.{ℕ, ◌+◌, ◌*◌}
use mathlib.Core.Path.{◌≡◌, ap, ◌∙◌}
use mathlib.Core.List.{List}
use native.Mathlib.Omega.{arith}
use borrow.Author.Tests.{ne_eqb}
use Rattle.lowering.specs.Limits.{chain_width}
use Rattle.lowering.specs.Words.{word, chains_at, chain_word}
use Rattle.lowering.specs.Run.{chain_takes}
use Rattle.image_read.specs.declared.Starts.{Starts}
use Rattle.image_read.specs.Placed.{Placed}

-- the words of chain i that were read
module _ (w : List ℕ) (o : Starts) (i n k : ℕ) (operands : n ≡ word w (o.chains + (chain_width * i + 5)))
    (root : k ≡ word w (o.chains + chain_width * i)) where
  operands-is : Placed w o → n ≡ chain_word w i 5
  unfolding chain_word
  operands-is P =
      let same : o.chains + (chain_width * i + 5) ≡ chains_at w + chain_width * i + 5 = omega (arith, P.chains) in
      operands ∙ ap (word w) same

  pub root_is : Placed w o → k ≡ chain_word w i 0
  unfolding chain_word
  root_is P =
      let same : o.chains + chain_width * i ≡ chains_at w + chain_width * i + 0 = omega (arith, P.chains) in
      root ∙ ap (word w) same

  -- one that does not begin on the stack takes its operands
  pub takes_same : (k ≡ 3 → ⊥) → Placed w o → n ≡ chain_takes w i
  unfolding chain_takes
  takes_same z P = rw (ne_eqb (chain_word w i 0) 3 (λ e. z (root_is P ∙ e)), chain_takes) (omega (arith, operands-is P))

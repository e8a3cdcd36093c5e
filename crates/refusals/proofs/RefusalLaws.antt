-- Laws of refusals.
use Prim.Native.Nat.{◌≤◌}
use mathlib.Core.Path.{◌≡◌, refl, sym}
use mathlib.Core.Bool.{true, true≢false}
use native.Mathlib.Omega.{arith}
use Rattle.refusals.specs.declared.Refusal.{Refusal}
use Rattle.refusals.specs.declared.Refusal.TheVariants.{Size, Shape, Text, Number, EmptyName, Depth, Arms, Twice, Unsupported}
use Rattle.refusals.specs.declared.Refusal.TheVariants.{Eval, Emitted, ScratchShort, ImageLong, IllMade}
use Rattle.refusals.specs.Refusal.{refusal_number, of_sheet, kept, scratch_left}

-- 0 is no refusal
pub number-some : (r : Refusal) → 1 ≤ refusal_number r
number-some Size = omega arith
number-some Shape = omega arith
number-some Text = omega arith
number-some Number = omega arith
number-some EmptyName = omega arith
number-some Depth = omega arith
number-some Arms = omega arith
number-some Twice = omega arith
number-some Unsupported = omega arith
number-some Eval = omega arith
number-some Emitted = omega arith
number-some ScratchShort = omega arith
number-some ImageLong = omega arith
number-some IllMade = omega arith

-- a refusal of the sheet's own keeps the scratch
pub own-keeps : (r : Refusal) → of_sheet r ≡ true → scratch_left r ≡ kept
own-keeps Size h = refl
own-keeps Shape h = refl
own-keeps Text h = refl
own-keeps Number h = refl
own-keeps EmptyName h = refl
own-keeps Depth h = refl
own-keeps Arms h = refl
own-keeps Twice h = refl
own-keeps Unsupported h = refl
own-keeps Eval h = refl
own-keeps Emitted h = refl
own-keeps ScratchShort h = refl
own-keeps ImageLong h = absurd (true≢false (sym h))
own-keeps IllMade h = absurd (true≢false (sym h))

-- and has no number of a buffer's
pub own-number : (r : Refusal) → of_sheet r ≡ true
    → (refusal_number r ≡ refusal_number ScratchShort → ⊥) × (refusal_number r ≡ refusal_number ImageLong → ⊥)
own-number Size h = (λ e. omega arith, λ e. omega arith)
own-number Shape h = (λ e. omega arith, λ e. omega arith)
own-number Text h = (λ e. omega arith, λ e. omega arith)
own-number Number h = (λ e. omega arith, λ e. omega arith)
own-number EmptyName h = (λ e. omega arith, λ e. omega arith)
own-number Depth h = (λ e. omega arith, λ e. omega arith)
own-number Arms h = (λ e. omega arith, λ e. omega arith)
own-number Twice h = (λ e. omega arith, λ e. omega arith)
own-number Unsupported h = (λ e. omega arith, λ e. omega arith)
own-number Eval h = (λ e. omega arith, λ e. omega arith)
own-number Emitted h = (λ e. omega arith, λ e. omega arith)
own-number ScratchShort h = absurd (true≢false (sym h))
own-number ImageLong h = absurd (true≢false (sym h))
own-number IllMade h = absurd (true≢false (sym h))

-- 14 is of one refusal only
pub fourteen : (r : Refusal) → refusal_number r ≡ 14 → r ≡ EmptyName
fourteen Size e = absurd (omega arith)
fourteen Shape e = absurd (omega arith)
fourteen Text e = absurd (omega arith)
fourteen Number e = absurd (omega arith)
fourteen EmptyName e = refl
fourteen Depth e = absurd (omega arith)
fourteen Arms e = absurd (omega arith)
fourteen Twice e = absurd (omega arith)
fourteen Unsupported e = absurd (omega arith)
fourteen Eval e = absurd (omega arith)
fourteen Emitted e = absurd (omega arith)
fourteen ScratchShort e = absurd (omega arith)
fourteen ImageLong e = absurd (omega arith)
fourteen IllMade e = absurd (omega arith)

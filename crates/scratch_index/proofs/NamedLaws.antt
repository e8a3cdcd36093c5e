-- docs/PORT.md names this law: constants with one text are the same.
use Prim.Native.Nat.{ℕ}
use mathlib.Core.Path.{◌≡◌, sym, subst}
use mathlib.Core.Bool.{true}
use mathlib.Core.List.{List}
use Rattle.text.proofs.SameLaws.{same_refl}
use Rattle.sheet.specs.Node.{kind, field_a}
use Rattle.sheet.specs.Text.{text}
use Rattle.lowering.specs.Kinds.{string_kind}
use Rattle.expr_chains.specs.Same.{same_text}
use Rattle.scratch_index.specs.Consts.{same_const_of}
use Rattle.scratch_index.proofs.ConstLaws.{told-bytes}

pub told_text :
    (s : List ℕ) (i c : ℕ) {k l : ℕ} (e : k ≡ kind s i) (g : l ≡ kind s c) (kinds : k ≡ l) {a d : ℕ} (f : a ≡ field_a s i)
    (h : d ≡ field_a s c) → k ≡ string_kind → a ≡ d → true ≡ same_const_of s i c
unfolding same_text
told_text s i c e g kinds {a} f h z q =
    told-bytes s i c e g kinds f h z (sym (subst (λ (v : ℕ). same_text s a v ≡ true) q (same_refl (text s a))))

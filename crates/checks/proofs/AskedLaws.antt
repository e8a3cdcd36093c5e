-- Laws of one test and the refusal behind it: what the answer says of the test.
use mathlib.Core.Path.{◌≡◌, sym, ap, ◌∙◌}
use mathlib.Core.Bool.{Bool, true, false}
use native.Mathlib.Omega.{arith}
use Rattle.std.specs.Prelude.{Ok, Err, IsErrAnd}
use Rattle.std.proofs.lemmas.Result.{err_from_is_err_and}
use Rattle.refusals.specs.declared.Refusal.{Refusal}
use Rattle.refusals.proofs.RefusalLaws.{number-some}
use Rattle.checks.specs.Checked.{Verdict, verdict_number}

abbrev refused : Refusal → Verdict
refused r = Err r

abbrev answer : Bool → Refusal → Verdict
answer ok by = elim ok [ true ↦ Ok tt | false ↦ refused by ]

-- A test and its answer v, which is `ok` as it was asked.
module _ (by : Refusal) {test ok : Bool} {v : Verdict} (t : ok ≡ test) (is : v ≡ answer ok by) where
  -- the test passed, where no refusal is answered
  pub passes : {x : Prim.Unit {0}} → v ≡ Ok x → test ≡ true
  passes e = case ok t is
    where
      case : (b : Bool) → b ≡ test → v ≡ answer b by → test ≡ true
      case true t is = sym t
      case false t is = absurd (omega (arith, number-some by, ap verdict_number (sym is ∙ e)))

  -- it did not, where one is, and that is answered
  pub refuses : {r : Refusal} {w all : Verdict} → v ≡ refused r → IsErrAnd w (λ y. y ≡ r) → (test ≡ false → all ≡ refused by) → w ≡ all
  refuses {r} {w} {all} e q says = case ok t is
    where
      case : (b : Bool) → b ≡ test → v ≡ answer b by → w ≡ all
      case true t is = absurd (omega (arith, number-some r, ap verdict_number (sym is ∙ e)))
      case false t is =
          let p = err_from_is_err_and w q in
          p.1 ∙ (ap refused p.2 ∙ (sym e ∙ (is ∙ sym (says (sym t)))))

  -- the last test, whose answer is the answer
  pub last : {all : Verdict} → (test ≡ false → all ≡ refused by) → (test ≡ true → all ≡ Ok tt) → v ≡ all
  last {all} fails holds = case ok t is
    where
      case : (b : Bool) → b ≡ test → v ≡ answer b by → v ≡ all
      case true t is = is ∙ sym (holds (sym t))
      case false t is = is ∙ sym (fails (sym t))

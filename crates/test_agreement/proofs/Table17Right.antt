-- The rows of Table17 agree with the definition, and their images meet demand 3: computed.
use mathlib.Core.Path.{◌≡◌, refl}
use mathlib.Core.Bool.{true}
use Rattle.test_agreement.specs.Agree.{all_agree}
use Rattle.test_agreement.specs.Chosen.{all_demands}
use Rattle.test_agreement.specs.Right.{all_right}
use Rattle.test_agreement.proofs.RightLaws.{right-agrees, right-demands}
use Rattle.test_agreement.specs.Table17.{table}

computed : all_right table ≡ true
unfolding table all_right
computed = refl

pub agreed : all_agree table ≡ true
agreed = right-agrees table computed

pub demanded : all_demands table ≡ true
demanded = right-demands table computed

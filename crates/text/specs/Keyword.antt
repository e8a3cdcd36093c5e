-- The four names with a meaning of their own, as bytes: `eval`, `Fn`, `call`, `curry`.
use Rattle.std.specs.Prelude.{ℕ, Bool, List, [], ◌∷◌}
use Rattle.text.specs.Same.{same}

abbrev pub eval_name : List ℕ
eval_name = 101 ∷ 118 ∷ 97 ∷ 108 ∷ []

abbrev pub fn_name : List ℕ
fn_name = 70 ∷ 110 ∷ []

abbrev pub call_name : List ℕ
call_name = 99 ∷ 97 ∷ 108 ∷ 108 ∷ []

abbrev pub curry_name : List ℕ
curry_name = 99 ∷ 117 ∷ 114 ∷ 114 ∷ 121 ∷ []

unfoldable pub is_eval : List ℕ → Bool
is_eval name = same name eval_name

unfoldable pub is_fn : List ℕ → Bool
is_fn name = same name fn_name

unfoldable pub is_call : List ℕ → Bool
is_call name = same name call_name

unfoldable pub is_curry : List ℕ → Bool
is_curry name = same name curry_name

-- Records that agree: none, and one more.
use Rattle.std.proofs.Common.{ℕ, ◌+◌, ◌≡◌, ◌<◌, ◌≤◌, refl, sym, subst, ◌∙◌, Bool, true, false, List, [], ◌∷◌, ◌++◌, Result, Ok, Err}
use Rattle.std.proofs.Common.{IfErr, arith, length-append}
use Rattle.std.specs.Prelude.{count_by}
use Rattle.std.specs.Int.{from_bool}
use Rattle.std.proofs.lemmas.Fn.{FoldsTo-push}
use Rattle.std.proofs.lemmas.List.Sums.{sum_by-append, count_by-le-length}
use Rattle.replay_records.specs.Agreed.{Agreed, Called, Stopped}
use denote.Ref.{MutBor}

pub called : {R E : Type 0} {post : MutBor R → Result Bool E → MutBor R → Type 0} {x : Result Bool E} (lent left : MutBor R)
    → post lent x left
    → Called post lent.now x left.now
called lent left h = record { lent = lent; lends = refl; left = left; leaves = refl; met = h }

pub agreed-none : {R E : Type 0} (post : MutBor R → Result Bool E → MutBor R → Type 0) (r : R) → Agreed post r 0 0 r
agreed-none post r = record { answers = []; calls = refl; all = refl; yes = refl }

count-more : (xs : List Bool) (b : Bool) → count_by (λ x. x) (xs ++ (b ∷ [])) ≡ count_by (λ x. x) xs + from_bool b
count-more xs true = sum_by-append _ xs (true ∷ [])
count-more xs false = sum_by-append _ xs (false ∷ [])

pub agreed-more : {R E : Type 0} {post : MutBor R → Result Bool E → MutBor R → Type 0} {r q u : R} {m n k : ℕ} (b : Bool)
    → Agreed post r m n q → Called post q (Ok b) u → k ≡ n + from_bool b → Agreed post r (m + 1) k u
agreed-more b a s e = record {
  answers = a.answers ++ (b ∷ []);
  calls = FoldsTo-push _ _ _ _ _ _ a.calls s;
  all = omega (arith, length-append a.answers (b ∷ []), a.all);
  yes = count-more a.answers b ∙ omega (arith, a.yes, e);
}

-- the error of a call is what the `?` behind it gives
pub stopped : {T R E : Type 0} {post : MutBor R → Result Bool E → MutBor R → Type 0} {r q u : R} {m n k : ℕ} {x y : E} {v : Result T E}
    → v ≡ Err y → y ≡ x → k < m → Agreed post r k n q → Called post q (Err x) u
    → IfErr v (λ e. Stopped post r m e u)
stopped {T} {R} {E} {post} {r} {q} {u} {m} {n} {k} {x} {y} {v} v-is same h a c =
    let failed : Called post q (Err y) u = subst (λ (e : E). Called post q (Err e) u) (sym same) c in
    subst (λ (z : Result T E). IfErr z (λ e. Stopped post r m e u)) (sym v-is) (record {
      calls = k;
      few = h;
      same = n;
      last = q;
      went = a;
      failed = failed;
    })

pub agreed-few : {R E : Type 0} {post : MutBor R → Result Bool E → MutBor R → Type 0} {r q : R} {m n : ℕ} → Agreed post r m n q → n ≤ m
agreed-few a = omega (arith, count_by-le-length (λ x. x) a.answers, a.all, a.yes)

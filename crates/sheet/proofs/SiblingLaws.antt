-- A test of siblings as a chain over `Siblings` answers it.
use Prim.Native.Nat.{ℕ, zero, suc}
use mathlib.Core.Path.{◌≡◌, refl, ap, ◌∙◌, sym}
use mathlib.Core.Bool.{Bool, true, false, ◌&&◌}
use mathlib.Core.List.{List, [], ◌∷◌}
use Rattle.laws.proofs.Bool.{and-lazy}
use Rattle.std.proofs.lemmas.Iterator.Consumers.{YieldsList-from_first}
use Rattle.std.proofs.lemmas.Iterator.Search.{all_from_yields_List}
use Rattle.std.specs.List.{list_all, FoldsTo}
use Rattle.std.specs.Fn.{Called}
use Rattle.std.specs.Iterator.{YieldsThen, YieldsFirst}
use Rattle.std.specs.Option.{MatchOption}
use Rattle.std.specs.Prelude.{Option}
use denote.Param.Members.{Mut}
use Rattle.sheet.specs.Node.{next}
use Rattle.sheet.specs.Walk.{siblings, siblings_by, sibling_list}
use Rattle.sheet.specs.declared.Siblings.{Siblings}
use Rattle.sheet.specs.Rest.{rest}

-- a test of the siblings' list is the test of the siblings
pub list_all-siblings : (P : ℕ → Bool) (s : List ℕ) (m j : ℕ) → list_all P (sibling_list s m j) ≡ siblings P s m j
unfolding siblings_by sibling_list
list_all-siblings P s zero j = refl
list_all-siblings P s (suc m) j = ap (λ b. P j && b) (list_all-siblings P s m (next s j)) ∙ sym (and-lazy (P j) (siblings P s m (next s j)))

-- the answer of a chain `w.all(..)`, whose closure answers by a test
pub list_all-walk : {F : Type 0} {g : Mut F (ℕ × Unit {0}) Bool} {w : Siblings} (test : ℕ → Bool) (u : Siblings) (f : F) (r : Bool)
    → (xs : List ℕ) × (o : Option ℕ) × (j : F) × YieldsThen (YieldsFirst rest) w xs o u × FoldsTo (λ p x q. Called g p (x, tt) true q) f xs j × MatchOption o (r ≡ true) (λ x. (r ≡ false) × ((h : F) × Called g j (x, tt) false h))
    → ((x : ℕ) (b : Bool) (q : F) → Called g f (x, tt) b q → (q ≡ f) × (b ≡ test x)) → r ≡ list_all test (rest w)
list_all-walk {w = w} test u f r d k = all_from_yields_List test u f r d (YieldsList-from_first (λ x. x) rest (rest w) refl) k

-- and where the walk begins at node first, with m siblings
pub siblings-all : {F : Type 0} {g : Mut F (ℕ × Unit {0}) Bool} {w : Siblings} (test : ℕ → Bool) (u : Siblings) (f : F) (r : Bool)
    → (xs : List ℕ) × (o : Option ℕ) × (j : F) × YieldsThen (YieldsFirst rest) w xs o u × FoldsTo (λ p x q. Called g p (x, tt) true q) f xs j × MatchOption o (r ≡ true) (λ x. (r ≡ false) × ((h : F) × Called g j (x, tt) false h))
    → (s : List ℕ) (m first : ℕ) → rest w ≡ sibling_list s m first
    → ((x : ℕ) (b : Bool) (q : F) → Called g f (x, tt) b q → (q ≡ f) × (b ≡ test x)) → r ≡ siblings test s m first
siblings-all {g = g} test u f r d s m first e k =
    list_all-walk {g = g} test u f r d k ∙ ap (list_all test) e ∙ list_all-siblings test s m first

-- A `for` over siblings that stops where a test fails: what is left passes where the whole, q, does.
module _ (P : ℕ → Bool) {ys : List ℕ} {q : Bool} (whole : list_all P ys ≡ q) where
  pub walk-goes : {j : ℕ} {zs : List ℕ} → ys ≡ j ∷ zs → P j ≡ true → list_all P zs ≡ q
  walk-goes {j} {zs} e h = sym (ap (list_all P) e ∙ ap (λ b. b && list_all P zs) h) ∙ whole

  pub walk-stops : {j : ℕ} {zs : List ℕ} → ys ≡ j ∷ zs → P j ≡ false → false ≡ q
  walk-stops {j} {zs} e h = sym (ap (list_all P) e ∙ ap (λ b. b && list_all P zs) h) ∙ whole

  pub walk-ends : ys ≡ [] → true ≡ q
  walk-ends e = sym (ap (list_all P) e) ∙ whole

-- How many records agree: what the calls answered that read and compared them.
use Rattle.std.specs.Prelude.{ℕ, ◌≡◌, ◌<◌, Bool, List, length, count_by, Result, Ok, Err}
use Rattle.std.specs.List.{FoldsTo}
use denote.Ref.{MutBor}

-- the reader r was lent, the answer was x, and r' came back
pub record Called {R E : Type 0} (post : MutBor R → Result Bool E → MutBor R → Type 0) (r : R) (x : Result Bool E) (r' : R) : Type 0 where
  pub lent : MutBor R
  pub lends : lent.now ≡ r
  pub left : MutBor R
  pub leaves : left.now ≡ r'
  pub met : post lent x left

-- m calls took the reader r to r', all of them well, and n answered yes
pub record Agreed {R E : Type 0} (post : MutBor R → Result Bool E → MutBor R → Type 0) (r : R) (m n : ℕ) (r' : R) : Type 0 where
  pub answers : List Bool
  pub calls : FoldsTo (λ p x q. Called post p (Ok x) q) r answers r'
  pub all : length answers ≡ m
  pub yes : count_by (λ x. x) answers ≡ n

-- fewer than m calls went well, and the next one failed with e
pub record Stopped {R E : Type 0} (post : MutBor R → Result Bool E → MutBor R → Type 0) (r : R) (m : ℕ) (e : E) (r' : R) : Type 0 where
  pub calls : ℕ
  pub few : calls < m
  pub same : ℕ
  pub last : R
  pub went : Agreed post r calls same last
  pub failed : Called post last (Err e) r'

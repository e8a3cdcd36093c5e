-- What a replay reads and writes.
use Rattle.std.specs.Prelude.{ℕ, ◌≡◌, List, [], ◌∷◌, ◌++◌, length, Option, Result, Ok}
use Rattle.std.specs.Io.KnownBytes.{Appends, Consumes}
use denote.Ref.{MutBor}
use Rattle.words.specs.Word.{word}
use Rattle.replay_records.specs.declared.Counted.{Counted}
use Rattle.replay_records.specs.Counted.{counted_text}

-- the reader says how many records there are; with that number `compare` was called, which counts them, and what it counted is written
pub record Replayed {R W E : Type 0} (remaining : R → Option (List ℕ)) (contents : W → Option (List ℕ))
    (compare : MutBor R → ℕ → Result Counted E → MutBor R → Type 0) (reader : R) (writer : W) (reader' : R) (writer' : W) : Type 0 where
  pub head : List ℕ
  pub four : length head ≡ 4
  pub many : ℕ
  pub many-is : many ≡ word head 0
  pub given : MutBor R
  pub reads : Consumes (remaining reader) (remaining given.now) head
  pub counted : Counted
  pub left : MutBor R
  pub counts : compare given many (Ok counted) left
  pub leaves : left.now ≡ reader'
  pub writes : Appends (contents writer) (contents writer') (counted_text counted ++ (10 ∷ []))

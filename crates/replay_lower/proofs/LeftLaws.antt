-- Laws of what a lowering must answer and leave: one for each way through the code.
use Prim.Native.Nat.{ℕ, ◌<◌, ◌≤◌}
use mathlib.Core.Path.{◌≡◌}
use mathlib.Core.List.{List}
use borrow.Author.Tests.{lt-ltb, le-ltb}
use Rattle.words.specs.Word.{word}
use Rattle.replay_records.specs.Left.{noise}
use Rattle.replay_lower.specs.Left.{image_word}

pub image-wanted : (s : List ℕ) (k i : ℕ) → i < k → image_word s k i ≡ word s i
image-wanted s k i h = rw (lt-ltb i k h, image_word)

pub image-kept : (s : List ℕ) (k i : ℕ) → k ≤ i → image_word s k i ≡ noise i
image-kept s k i h = rw (le-ltb i k h, image_word)

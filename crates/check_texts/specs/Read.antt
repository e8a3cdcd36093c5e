-- What is read of a sheet's texts before the loops over them.
use Rattle.std.specs.Prelude.{ℕ, ◌^◌, ◌<◌, ◌≡◌, List}
use Rattle.sheet.specs.Sections.{text_count, byte_count, starts_at, lengths_at}
use Rattle.check_texts.specs.Marks.{text_bytes}

-- how many there are, where their starts and lengths stand, in words, how many text bytes there are, and those bytes
pub record Read (s : List ℕ) (count starts lengths size : ℕ) (b : List ℕ) : Type 0 where
  pub count_is : count ≡ text_count s
  pub starts_at_is : starts ≡ starts_at s
  pub lengths_at_is : lengths ≡ lengths_at s
  pub size_is : size ≡ byte_count s
  pub bytes_are : b ≡ text_bytes s
  pub near : lengths < 60000000000
  pub small : size < 2 ^ 32

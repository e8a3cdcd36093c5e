-- A node's eight words, read once.
use Rattle.std.specs.Prelude.{ℕ, ◌^◌, ◌<◌, ◌≡◌, List}
use Rattle.sheet.specs.Node.{kind, span, count, field_a, field_b, field_c, namespace_word, namespace_pos}

-- the eight words of node n; its count is a word
pub record NodeIs (s : List ℕ) (n k w m a b c x y : ℕ) : Type 0 where
  pub kind_is : k ≡ kind s n
  pub span_is : w ≡ span s n
  pub count_is : m ≡ count s n
  pub few : m < 2 ^ 32
  pub a_is : a ≡ field_a s n
  pub b_is : b ≡ field_b s n
  pub c_is : c ≡ field_c s n
  pub x_is : x ≡ namespace_word s n
  pub y_is : y ≡ namespace_pos s n

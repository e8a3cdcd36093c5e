-- What is known of a sheet before the pass.
use Rattle.std.specs.Prelude.{ℕ, ◌+◌, ◌*◌, ◌/◌, ◌^◌, ◌<◌, ◌≤◌, ◌≡◌, true, List, length}
use Rattle.sheet.specs.Limits.{header_words, node_words}
use Rattle.sheet.specs.Sections.{node_count, text_count}
use Rattle.sheet.specs.Node.{field_a, field_b}
use Rattle.check_shape.specs.Kinds.{any}
use Rattle.check_shape.specs.Shape.{self_ok}
use Rattle.check_pass.specs.Fine.{own}
use Rattle.check_pass.specs.Limits.{limits}
use Rattle.check_pass.specs.Words.{NodeIs}

-- its sizes, the table of its limits, and that it has its nodes
pub record Sizes (s : List ℕ) (total K B : ℕ) (t : List ℕ) : Type 0 where
  pub total-is : total ≡ node_count s
  pub small : total < 2 ^ 32
  pub blocks-are : K ≡ field_a s 0
  pub cases-are : B ≡ field_b s 0
  pub table_is : t ≡ limits (text_count s) K
  pub texts-few : text_count s ≤ any
  pub blocks-few : K ≤ any
  pub room : header_words + node_words * total ≤ length s / 4

-- node 0, which was read, is right by itself
pub record Root (s : List ℕ) (k w m a b c x y : ℕ) : Type 0 where
  pub node : NodeIs s 0 k w m a b c x y
  pub self : self_ok s 0 (node_count s) ≡ true
  pub owns : own s 0 ≡ true

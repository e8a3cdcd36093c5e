-- How many operands each step needs its chain to have. A chain has at most 65,535, so a need is cut off behind that.
use Rattle.std.specs.Prelude.{ℕ, ◌+◌, ◌/◌, ◌<◌, min, ◌≡◌, Option, Some, None, List, length}
use Rattle.image_rule.specs.Rules.{steps, step_word}
use Rattle.image_read.specs.Kinds.{step_of}
use Rattle.image_read.specs.declared.StepKind.{StepKind}
use Rattle.image_read.specs.declared.StepKind.TheVariants.{Index, Property, Method}
use Rattle.image_maxima.specs.Tree.{leaf, Tree}
use Rattle.image_spans.specs.Premises.{ChainsLie}

abbrev pub cut : ℕ → ℕ
cut n = min n 65536

-- an index has operand a; a method has b arguments from operand c on
unfoldable pub need_of : Option StepKind → ℕ → ℕ → ℕ → ℕ
need_of (Some Index) a b c = cut (a + 1)
need_of (Some Method) a b c = cut (b + c)
need_of (Some Property) a b c = 0
need_of None a b c = 0

unfoldable pub step_need : List ℕ → ℕ → ℕ
step_need w j = need_of (step_of (step_word w j 0)) (step_word w j 1) (step_word w j 2) (step_word w j 3)

-- the first n steps' needs are leaves of t
pub record NeedsIn (w t : List ℕ) (n : ℕ) : Type 0 where
  pub need : (j : ℕ) → j < n → leaf t (steps w) j ≡ step_need w j

-- all of t is the tree over all needs, of steps that chains have
pub record NeedTree (w t : List ℕ) : Type 0 where
  pub half : length t / 2 ≡ steps w
  pub tree : Tree t (steps w)
  pub needs : NeedsIn w t (steps w)
  pub lie : ChainsLie w

-- The making of an image: what it may take for granted and what it leaves. The answer does not speak of these.
use Rattle.std.specs.Prelude.{ℕ, ◌+◌, ◌*◌, ◌≤◌, ◌<◌, ◌≡◌, true, false, List, ◌++◌, ltb, length, drop, Ok, Err}
use Rattle.refusals.specs.declared.Refusal.TheVariants.{ImageLong}
use Rattle.sheet.specs.Sections.{node_count}
use Rattle.checks.specs.Checked as Checked
use Rattle.lowering.specs.Limits.{max_emitted, scratch_per_emitted, scratch_per_node, scratch_besides}
use Rattle.lowering.specs.Image.{words}
use Rattle.lowering.specs.Outcome.{lower}
use Rattle.switch_count.specs.Total.{total}
use Rattle.to_image.specs.Answer.{Answer}

-- the answer once n words are made, in an image with room for so many
unfoldable pub ended : ℕ → ℕ → Answer
ended room n = elim (ltb room n) [ true ↦ Err ImageLong | false ↦ Ok n ]

-- what the making of an image may take for granted: nothing refuses before the image is made
pub record Ready (s : List ℕ) (e m : ℕ) : Type 0 where
  pub accepted : Checked.verdict_number (Checked.checked s) ≡ 0
  pub reached : (total s).defeated ≡ false
  pub emitted : (total s).emitted ≤ e
  pub few : e ≤ max_emitted
  pub space : scratch_per_emitted * e + scratch_per_node * node_count s + scratch_besides ≤ m

-- what it leaves in the image xs: the words of the definition, where they fit, else nothing; n is their count
pub record Built (s xs : List ℕ) (n : ℕ) (xs' : List ℕ) : Type 0 where
  pub count : n ≡ length (words (lower s))
  pub fits : n ≤ length xs → xs' ≡ words (lower s) ++ drop (length (words (lower s))) xs
  pub kept : length xs < n → xs' ≡ xs

-- The tally of a node: by its plan, with the tallies of its operands.
use Rattle.std.specs.Prelude.{ℕ, zero, suc, ◌-◌, Bool, List, [], ◌∷◌}
use Rattle.sheet.specs.Limits.{max_depth}
use Rattle.sheet.specs.Node.{count, child, next}
use Rattle.sheet.specs.Walk.{skip}
use Rattle.lowering.specs.Flatten.{links}
use Rattle.expr_count.specs.declared.tallies.Tally.{Tally}
use Rattle.expr_count.specs.declared.plans.Plan.{Plan}
use Rattle.expr_count.specs.declared.plans.Plan.TheVariants.{Parts, Coalesce, Chain}
use Rattle.expr_count.specs.declared.links.Link.{Link}
use Rattle.expr_count.specs.declared.links.Link.TheVariants.{Lowers, Fails, Nowhere}
use Rattle.expr_count.specs.Tally.{instructions, nothing, plus, taken_back}
use Rattle.expr_count.specs.Locals.{is_local}
use Rattle.expr_count.specs.Plan.{plan}
use Rattle.expr_count.specs.Link.{link, least, temporary}

-- the tally of a node
abbrev pub Rec : Type 0
Rec = ℕ → Tally

-- n siblings from node j on, each with `gap` instructions behind it
unfoldable pub siblings : List ℕ → Rec → ℕ → ℕ → ℕ → Tally
siblings s rec gap zero j = nothing
siblings s rec gap (suc n) j = plus (plus (rec j) (instructions gap)) (siblings s rec gap n (next s j))

-- two instructions behind each operand but the last
unfoldable pub coalesce : List ℕ → Rec → ℕ → Tally
coalesce s rec j =
    plus (siblings s rec 2 (count s j - 1) (child j)) (rec (skip s (count s j - 1) (child j)))

-- the operands of a link, and the rest behind it, up to a link that does not lower
unfoldable pub walk_on : Link → List ℕ → Rec → Tally → Tally
walk_on (Lowers o) s rec rest = plus (siblings s rec 0 o.n o.from) rest
walk_on Fails s rec rest = nothing
walk_on Nowhere s rec rest = nothing

unfoldable pub walk : List ℕ → Rec → List ℕ → Tally
walk s rec [] = nothing
walk s rec (c ∷ cs) = walk_on (link s c) s rec (walk s rec cs)

-- a chain by how far it comes: a residual; a residual, with its code taken back; operands, root and Chain
unfoldable pub chain_by : ℕ → Tally → Tally → Tally
chain_by zero operands root = instructions 1
chain_by (suc zero) operands root = plus (taken_back operands) (instructions 1)
chain_by (suc (suc g)) operands root = plus (plus operands root) (instructions 1)

unfoldable pub chain : List ℕ → Rec → ℕ → Tally
chain s rec j =
    let ls = links max_depth s j in
    chain_by (least s ls) (walk s rec ls) (siblings s rec 0 (temporary s (child j)) (child j))

unfoldable pub follow : Plan → List ℕ → Rec → ℕ → Tally
follow (Parts gap o rest) s rec j = plus (siblings s rec gap o.n o.from) rest
follow Coalesce s rec j = coalesce s rec j
follow Chain s rec j = chain s rec j

-- with that many levels left, as the lowering has them; `here` says of a Variable whether it is a local
unfoldable pub tally_by : (ℕ → Bool) → ℕ → List ℕ → ℕ → Tally
tally_by here zero s j = instructions 1
tally_by here (suc levels) s j = follow (plan here s j) s (tally_by here levels s) j

-- by the definition's own locals
abbrev pub tally : ℕ → List ℕ → ℕ → Tally
tally levels s j = tally_by (is_local s) levels s j

-- What of a chain is left to an iterator of its links: what each of them says, in order.
use Rattle.std.specs.Prelude.{ℕ, List, [], map, Option, Some, None}
use Rattle.lowering.specs.Flatten as Flatten
use Rattle.expr_rules.specs.declared.chains.Read.{Read}
use Rattle.expr_rules.specs.declared.chains.Links.{Links}
use Rattle.expr_rules.specs.Reads.{read_of}

-- at most n links, from the one that is there
abbrev pub links_from : ℕ → List ℕ → Option ℕ → List ℕ
links_from n s None = []
links_from n s (Some c) = Flatten.links n s c

abbrev pub links_left : Links → List Read
links_left it = map (read_of it.sheet.now) (links_from it.left it.sheet.now it.next)

-- their nodes
abbrev pub nodes_left : Links → List ℕ
nodes_left it = map (λ p. p.link) (links_left it)

-- `switch_heads::number_of` meets its contract: the first of the heads with the list, as a chain over their numbers finds it.
use Rattle.std.proofs.Common.{rules}
use mathlib.Core.Path.{◌≡◌}
use mathlib.Core.Bool.{Bool, true, false}
use Prim.Native.Nat.{ℕ}
use Rattle.std.proofs.lemmas.Iterator.{first_from_Range}
use Rattle.switch_heads.specs.Hashed.{met_at}
use Rattle.switch_heads.proofs.SearchLaws.{first-number}
use Rattle.switch_heads.proofs.number_of.Goals as goal

pub returns-clause-number : goal.returns-clause-number
returns-clause-number g c =
    λ p e s.
    let w = c.args.flat.now in
    let met : ℕ → Bool = met_at (g.L.Lists.list_of c.args.lists.now w) w c.args.at.nodes c.args.at.hashes c.args.list.now c.args.h in
    first-number _ _ _ _ _ _ _ e s _
    (first_from_Range _ _ _ _ (λ x. true ≡ met x) (λ x. false ≡ met x) c.find.ensures.ran (λ x q k. search rules) (λ x q k. search rules))

-- How many records agree, of how many, as it is written.
use Rattle.std.specs.Prelude.{ℕ, ◌-◌, List, ◌∷◌, ◌++◌, codes}
use Rattle.std.specs.Fmt.{decimal}
use Rattle.replay_records.specs.declared.Counted.{Counted}

abbrev pub counted_text : Counted → List ℕ
counted_text c = codes "same " ++ decimal c.same ++ (10 ∷ codes "different " ++ decimal (c.most - c.same))

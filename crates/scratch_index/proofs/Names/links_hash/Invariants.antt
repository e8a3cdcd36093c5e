-- `scratch_index::Names::links_hash` meets its contract. Invariant: the links left, from the hash of those passed on, give the hash of all.
use Rattle.scratch_index.proofs.ChainWalkLaws.{Walking}
use Rattle.scratch_index.proofs.Names.links_hash.Given as goal

abbrev pub invariant-loop-p : goal.invariant-loop-p
invariant-loop-p l = Walking l.self.sheet.now l.self.layout l.self.count l.self.scratch.now l.j l.h l.p-iterator

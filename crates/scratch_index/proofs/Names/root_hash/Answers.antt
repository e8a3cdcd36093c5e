-- `scratch_index::Names::root_hash` meets its contract: one law for each role of a root.
use Rattle.scratch_index.proofs.ChainWalkLaws.{root-local, root-named, root-this, root-other}
use Rattle.scratch_index.proofs.Names.root_hash.Goals as goal

pub returns-then-local : goal.returns-then-local
returns-then-local c told =
    let a = c.args in
    let it = a.self.now in
    root-local it.sheet.now it.layout it.count it.scratch.now a.h a.v c.role-k.ensures c.if-k-eq-VARIABLE.true
    c.field_a.ensures c.place.ensures c.more.ensures c.more-f.ensures c.if-local.true told

pub returns-then-k-eq-VARIABLE : goal.returns-then-k-eq-VARIABLE
returns-then-k-eq-VARIABLE c told =
    let a = c.args in
    let it = a.self.now in
    root-named it.sheet.now it.layout it.count it.scratch.now a.h a.v c.role-k.ensures c.if-k-eq-VARIABLE.true
    c.field_a.ensures c.place.ensures c.more.ensures c.more-f.ensures
    c.position.ensures c.more-then-k-eq-VARIABLE.ensures c.if-local.false told

pub returns-then-k-eq-THIS : goal.returns-then-k-eq-THIS
returns-then-k-eq-THIS c told =
    let a = c.args in
    let it = a.self.now in
    root-this it.sheet.now it.layout it.count it.scratch.now a.h a.v c.role-k.ensures c.if-k-eq-THIS.true
    c.more-then-k-eq-THIS.ensures c.position-then-k-eq-THIS.ensures c.more-then-k-eq-THIS-2.ensures

pub returns : goal.returns
returns c told =
    let a = c.args in
    let it = a.self.now in
    root-other it.sheet.now it.layout it.count it.scratch.now a.h a.v c.role-k.ensures c.if-k-eq-VARIABLE.false
    c.if-k-eq-THIS.false
    c.more-2.ensures

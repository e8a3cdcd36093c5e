-- `scratch_index::seek` meets its contract: each step of the loop is a law over plain variables.
use Rattle.std.proofs.Common.{ℕ, ◌-◌, get_or, refl, ap, ◌∙◌, arith}
use Rattle.scratch_index.proofs.LookupLaws.{lookup-starts, lookup-goes, lookup-finds, lookup-there, lookup-falls, lookup-ends}
use Rattle.scratch_index.proofs.LookupLaws.{seeks-some, seeks-none}
use Rattle.scratch_index.proofs.seek.Goals as goal

pub loop-c-init : goal.loop-c-init
loop-c-init g c =
    let a = c.args in (
      omega arith,
      λ hash n told.
          lookup-starts (g.W.Wanted.same a.wanted.now) hash g.W.Wanted.slot a.ix n a.h a.scratch.now
          c.get-c.result (omega arith) (c.get-c.ensures ∙ ap (λ (i : ℕ). get_or a.scratch.now i 0) c.head.ensures),
    )

pub returns-then-hit : goal.returns-then-hit
returns-then-hit g c =
    let v = c.get-v in
    let k = c.get-k in
    let w = c.loop-c in
    let a = c.args in
    λ hash n told.
    seeks-some
    (lookup-finds (g.W.Wanted.same a.wanted.now) hash g.W.Wanted.slot a.ix n a.h a.scratch.now
    w.c (w.c - 1) k.result v.result c.hit.result (w.invariant.1 hash n told) c.loop-c-test.true refl k.ensures
    (v.ensures ∙ ap (λ (i : ℕ). get_or a.scratch.now i 0) c.link.ensures) (c.hit.ensures told) c.if-hit.true)
    (lookup-there (g.W.Wanted.same a.wanted.now) hash g.W.Wanted.slot a.ix n a.h a.scratch.now
    w.c (w.c - 1) k.result v.result c.hit.result (w.invariant.1 hash n told) c.loop-c-test.true refl k.ensures
    (v.ensures ∙ ap (λ (i : ℕ). get_or a.scratch.now i 0) c.link.ensures) (c.hit.ensures told))

pub returns-then-c-d : goal.returns-then-c-d
returns-then-c-d g c =
    let v = c.get-v in
    let k = c.get-k in
    let w = c.loop-c in
    let a = c.args in
    λ hash n told.
    seeks-none
    (lookup-falls (g.W.Wanted.same a.wanted.now) hash g.W.Wanted.slot a.ix n a.h a.scratch.now
    w.c (w.c - 1) k.result v.result c.hit.result (w.invariant.1 hash n told) c.loop-c-test.true refl k.ensures
    (v.ensures ∙ ap (λ (i : ℕ). get_or a.scratch.now i 0) c.link.ensures) (c.hit.ensures told) c.if-c-d.true)

pub loop-c-preserved : goal.loop-c-preserved
loop-c-preserved g c =
    let v = c.get-v in
    let k = c.get-k in
    let w = c.loop-c in
    let a = c.args in (
      omega arith,
      λ hash n told.
          (lookup-goes (g.W.Wanted.same a.wanted.now) hash g.W.Wanted.slot a.ix n a.h a.scratch.now
          w.c (w.c - 1) k.result v.result c.hit.result (w.invariant.1 hash n told) c.loop-c-test.true refl k.ensures
          (v.ensures ∙ ap (λ (i : ℕ). get_or a.scratch.now i 0) c.link.ensures) (c.hit.ensures told) c.if-hit.false),
    )

pub returns : goal.returns
returns g c =
    let w = c.loop-c in
    let a = c.args in
    λ hash n told.
    seeks-none
    (lookup-ends (g.W.Wanted.same a.wanted.now) hash g.W.Wanted.slot a.ix n a.h a.scratch.now
    w.c (w.invariant.1 hash n told) c.loop-c-test.false)

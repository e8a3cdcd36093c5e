-- `switch_lists::list_of_piece` meets its contract. The invariant is `Listing`: the blocks of the intervals passed
-- that cover the piece are there.
use mathlib.Core.Path.{ap, sym, ◌∙◌}
use native.Mathlib.Omega.{arith}
use lib.ListN.{length}
use lib.Seq.{length-take-le}
use Rattle.switch_lists.proofs.SpanLaws.{listing_start, listing-yes, listing-no, listing-end}
use Rattle.switch_lists.proofs.list_of_piece.Goals as goal
use Rattle.switch_lists.proofs.list_of_piece.Goals.{then-get-p, else-get-p}

pub loop-i-init : goal.loop-i-init
loop-i-init c = listing_start _ _ _ _ (omega (arith, c.min-n.ensures))

pub loop-i-preserved : goal.loop-i-preserved
loop-i-preserved c =
    elim c.if-get-p.branch [
      | then-get-p w ↦
          rw (w.room-is, w.k-is)
          (listing-yes _ _ _ _ _ _ _ c.loop-i.invariant _ _ _ _ c.loop-i-test.true c.get-in-loop-i.ensures c.get-in-loop-i-2.ensures
          w.get-then-get-p.ensures w.put.ensures w.if-get-p.true)
      | else-get-p w ↦
          rw (w.room-is, w.k-is)
          (listing-no _ _ _ _ _ _ _ c.loop-i.invariant _ _ c.loop-i-test.true c.get-in-loop-i.ensures c.get-in-loop-i-2.ensures w.if-get-p.false)
    ]

pub returns-clause-listed : goal.returns-clause-listed
returns-clause-listed c = λ few wide.
    let listing = c.loop-i.invariant in
    let items = listing-end _ _ _ _ _ _ _ listing c.loop-i-test.false _ c.get.ensures c.min-n.ensures _
    (omega (arith, listing.within, listing.most, listing.few, listing.same)) few wide in
    record {
      items = items;
      count = sym (length-take-le _ _ (omega (arith, listing.within, listing.most, listing.few, listing.same))) ∙ ap length items;
    }

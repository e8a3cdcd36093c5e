-- Nothing is made yet, and no index has an entry: heads and memos have been cleared, and the locals are told.
use Rattle.std.proofs.Common.{◌≡◌, ℕ, ◌≤◌, List, length, sym, subst}
use Rattle.scratch.specs.declared.Layout.{Layout}
use Rattle.scratch.specs.Places.{index_end}
use Rattle.scratch_locals.specs.Pass.{Begins}
use Rattle.expr_model.specs.Made.{nothing}
use Rattle.scratch_store.specs.declared.State.{State}
use Rattle.scratch_store.specs.Holds.{Fit, Holds}
use Rattle.scratch_store.specs.States as states
use Rattle.scratch_store.proofs.FrameLaws.{fit_same}
use Rattle.scratch_store.proofs.ResidualLaws.{start-holds}

pub fresh_holds :
    (s : List ℕ) (l : Layout) (xs ys : List ℕ) (c : State) → Fit s l xs → index_end l ≤ length xs → Begins s l xs ys → c ≡ states.start l
    → Holds s l ys c nothing
fresh_holds s l xs ys c fit room begins start =
    subst (λ (st : State). Holds s l ys st nothing) (sym start)
    (start-holds (fit_same begins.long fit)
    (begins.index (record { few = fit.few; small = fit.small }) fit.nodes room))

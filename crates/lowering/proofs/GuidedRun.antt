-- A run on an integer that is fed the guards' answers is a run of the image, with the ways that it goes. So all that is proved of runs
-- holds of it, and its events are what the marks say of that run's places.
use Prim.Native.Nat.{ℕ, zero, suc}
use mathlib.Core.Path.{◌≡◌, refl, ap, ◌∙◌}
use mathlib.Core.List.{List, ◌++◌}
use Rattle.lowering.specs.Marks.{mark_at}
use Rattle.lowering.specs.Words.{instructions}
use Rattle.lowering.specs.Run.{State, step_on, run}
use Rattle.lowering.specs.Guided.{Fed, guided_step, guided, guided_ways, Event, event_of, events_from, events, events_of}
use Rattle.lowering.specs.Demand3.{RunsRight, Demand3}

pub guided-is-run : (f : Fed) (n : ℕ) → (guided f n).state ≡ run f.image (guided_ways f) n
unfolding guided guided_step run
guided-is-run f zero = refl
guided-is-run f (suc n) = ap (step_on f.image (guided_ways f n)) (guided-is-run f n)

events-from : (f : Fed) (n m : ℕ) → events_from f n (guided f m) ≡ events_of f.marks (run f.image (guided_ways f)) n m
unfolding guided events_from events_of
events-from f zero m = refl
events-from f (suc n) m =
    ap (λ (st : State). event_of (mark_at f.marks st.place) ++ events_from f n (guided f (suc m))) (guided-is-run f m)
    ∙ ap (λ (es : List Event). event_of (mark_at f.marks (run f.image (guided_ways f) m).place) ++ es) (events-from f n (suc m))

-- the events that demand 3 speaks of are those of a run, from its start to its end
pub events-are : (f : Fed) → events f ≡ events_of f.marks (run f.image (guided_ways f)) (instructions f.image) 0
unfolding guided events
events-are f = events-from f (instructions f.image) 0

-- and that run goes right
pub guided-right : {s : List ℕ} (f : Fed) → Demand3 s f.image → RunsRight f.image (guided_ways f)
guided-right f d = d.runs (guided_ways f)

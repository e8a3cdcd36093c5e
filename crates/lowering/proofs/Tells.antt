-- What the rest of a run on an integer tells from a place on: laws of one step, of code without marks, and of the end.
use Prim.Native.Nat.{ℕ, zero, suc, ◌+◌, ◌≤◌, ◌<◌}
use mathlib.Core.Path.{◌≡◌, refl, ap, ap₂, ◌∙◌, subst}
use mathlib.Core.Bool.{Bool, true, false}
use mathlib.Core.Option.{Option, none}
use mathlib.Core.List.{List, [], ◌++◌}
use native.Mathlib.Omega.{arith}
use native.Mathlib.Decide.{dec_lt}
use borrow.Author.Tests.{le-ltb}
use Rattle.lowering.specs.Marks.{Mark, mark_at}
use Rattle.lowering.specs.Words.{instructions}
use Rattle.lowering.specs.Run.{State, next, step}
use Rattle.lowering.specs.Guided.{Fed, Guided, Event, is_answered, answered_at, way_at, guided_step, event_of, events_from}
use Rattle.lowering.proofs.RunsRight.{goes-on, stays}

-- from place p on, with u answers used, the run comes to these events
abbrev pub Tells : Fed → ℕ → ℕ → List Event → Type 0
Tells F p u evs =
    (n : ℕ) (g : Guided) → g.state.place ≡ p → g.used ≡ u → instructions F.image ≤ p + n → events_from F n g ≡ evs

-- every step goes forward
abbrev pub Forward : List ℕ → Type 0
Forward w = (p way : ℕ) → p < instructions w → p < next w way p

-- the answers used behind a place
abbrev pub used_behind : Bool → ℕ → ℕ
used_behind true u = suc u
used_behind false u = u

module _ (F : Fed) where
  step-place : (g : Guided) (p : ℕ) → g.state.place ≡ p → p < instructions F.image
      → (guided_step F g).state.place ≡ next F.image (way_at F g) p
  unfolding guided_step step
  step-place g p h l = rw (goes-on F.image (way_at F g) g.state (rw h l), h)

  place-ended : (g : Guided) → g.state.place ≡ instructions F.image → (guided_step F g).state.place ≡ instructions F.image
  unfolding guided_step
  place-ended g h =
      ap (λ (x : State). x.place)
      (stays F.image (way_at F g) g.state (le-ltb g.state.place (instructions F.image) (omega arith))) ∙ h

  step-used : (g : Guided) (p : ℕ) (t : Bool) → g.state.place ≡ p → answered_at F p ≡ t → (guided_step F g).used ≡ used_behind t g.used
  unfolding guided_step
  step-used g p true h k = rw (h, k, guided_step)
  step-used g p false h k = rw (h, k, guided_step)

  -- the end
  pub tells-end : (u : ℕ) → mark_at F.marks (instructions F.image) ≡ none → Tells F (instructions F.image) u []
  unfolding events_from event_of is_answered answered_at
  tells-end u k zero g h e c = refl
  tells-end u k (suc n) g h e c =
      let s : answered_at F (instructions F.image) ≡ false = ap is_answered k in
      ap₂ ◌++◌ (ap (λ (q : ℕ). event_of (mark_at F.marks q)) h ∙ ap event_of k)
      (tells-end u k n (guided_step F g) (place-ended g h) (step-used g (instructions F.image) false h s ∙ e) (omega arith))

  module _ (fwd : Forward F.image) where
    -- one step from place p on, where mark m stands
    pub tells-step : (p u : ℕ) (t : Bool) (m : Option Mark) (evs : List Event) → p < instructions F.image → mark_at F.marks p ≡ m
        → is_answered m ≡ t
        → ((g : Guided) → g.state.place ≡ p → g.used ≡ u → Tells F (next F.image (way_at F g) p) (used_behind t u) evs)
        → Tells F p u (event_of m ++ evs)
    unfolding events_from answered_at
    tells-step p u t m evs l k a f zero g h e c = absurd (omega arith)
    tells-step p u t m evs l k a f (suc n) g h e c =
        let lt = fwd p (way_at F g) l in
        let s : answered_at F p ≡ t = ap is_answered k ∙ a in
        ap₂ ◌++◌ (ap (λ (q : ℕ). event_of (mark_at F.marks q)) h ∙ ap event_of k)
        (f g h e n (guided_step F g) (step-place g p h l) (step-used g p t h s ∙ ap (used_behind t) e) (omega arith))

    -- a place without a mark, whatever way the step goes
    pub tells-on : (p u : ℕ) (evs : List Event) → p < instructions F.image → mark_at F.marks p ≡ none
        → ((way : ℕ) → Tells F (next F.image way p) u evs)
        → Tells F p u evs
    unfolding event_of is_answered
    tells-on p u evs l k f = tells-step p u false none evs l k refl (λ g h e. f (way_at F g))

    -- code without marks from place q up to place e adds nothing; n bounds its length
    pub cross : (e u : ℕ) (evs : List Event) → e ≤ instructions F.image → Tells F e u evs → (n q : ℕ)
        → ((p : ℕ) → q ≤ p → p < e → mark_at F.marks p ≡ none)
        → ((p way : ℕ) → q ≤ p → p < e → next F.image way p ≤ e)
        → q ≤ e → e ≤ q + n → Tells F q u evs
    cross e u evs i t zero q h f l k = subst (λ (x : ℕ). Tells F x u evs) (omega arith) t
    cross e u evs i t (suc n) q h f l k =
        elim (dec_lt q e) [
          | yes m ↦
              tells-on q u evs (omega arith) (h q (omega arith) m)
              (λ way.
              let lt = fwd q way (omega arith) in
              cross e u evs i t n (next F.image way q) (λ p a b. h p (omega arith) b) (λ p v a b. f p v (omega arith) b)
              (f q way (omega arith) m) (omega arith))
          | no m ↦ subst (λ (x : ℕ). Tells F x u evs) (omega arith) t
        ]

-- The steps of a run on an integer that go by a target: a jump, the jump that pops a guard's value, and a Switch.
use Prim.Native.Nat.{ℕ, suc, ◌+◌, ◌<◌}
use mathlib.Core.Path.{◌≡◌, refl, sym, ap, ◌∙◌, subst}
use mathlib.Core.Bool.{Bool, true, false}
use mathlib.Core.Option.{none, some}
use mathlib.Core.List.{List}
use Rattle.bytecode.specs.Effect.{effect}
use Rattle.lowering.specs.Marks.{mark_at}
use Rattle.lowering.specs.Marks as Marks
use Rattle.lowering.specs.Words.{instructions, kind_at, a_at}
use Rattle.lowering.specs.Run.{next, goes_to, branch_target, table_target}
use Rattle.lowering.specs.Guided.{Fed, Guided, Event, is_answered, answered_at, answer_way, switch_way, way_at, guided_way, event_of}
use Rattle.lowering.proofs.Tells.{Tells, Forward, tells-step, tells-on}

abbrev pub by_answer : Bool → List Event → List Event → List Event
by_answer true y n = y
by_answer false y n = n

module _ (w : List ℕ) (way p : ℕ) where
  next-jump : kind_at w p ≡ 8 → next w way p ≡ a_at w p
  unfolding next effect goes_to
  next-jump h = rw (h, next)

  next-branch : kind_at w p ≡ 9 → next w way p ≡ branch_target way (a_at w p) p
  unfolding next effect goes_to
  next-branch h = rw (h, next)

  next-switch : kind_at w p ≡ 15 → next w way p ≡ table_target w (a_at w p) way
  unfolding next effect goes_to
  next-switch h = rw (h, next)

module _ (F : Fed) where
  way-answer : (g : Guided) (p u : ℕ) → g.state.place ≡ p → g.used ≡ u → kind_at F.image p ≡ 9 → answered_at F p ≡ true
      → way_at F g ≡ answer_way 9 (F.answers u)
  unfolding way_at effect guided_way
  way-answer g p u h e k a = rw (h, e, k) (rw (a, guided_way) (ap (λ (v : ℕ). answer_way v (F.answers u)) k))

  way-switch : (g : Guided) (p : ℕ) → g.state.place ≡ p → kind_at F.image p ≡ 15
      → way_at F g ≡ switch_way F.image F.integer (a_at F.image p)
  unfolding way_at effect guided_way
  way-switch g p h k = rw (h, k)

  module _ (fwd : Forward F.image) (p : ℕ) (runs : p < instructions F.image) where
    -- a jump to place t
    pub tells-jump : (t u : ℕ) (evs : List Event) → mark_at F.marks p ≡ none → kind_at F.image p ≡ 8 → a_at F.image p ≡ t
        → Tells F t u evs → Tells F p u evs
    tells-jump t u evs m k a f =
        tells-on F fwd p u evs runs m (λ way. subst (λ (q : ℕ). Tells F q u evs) (sym (next-jump F.image way p k ∙ a)) f)

    -- the jump that pops a guard's value
    pub tells-answer : (t u : ℕ) (y n : List Event) → mark_at F.marks p ≡ some Marks.branch → kind_at F.image p ≡ 9
        → a_at F.image p ≡ t
        → Tells F t (suc u) y → Tells F (p + 1) (suc u) n → Tells F p u (by_answer (F.answers u) y n)
    unfolding event_of is_answered answered_at answer_way branch_target
    tells-answer t u y n m k a f g =
        tells-step F fwd p u true (some Marks.branch) (by_answer (F.answers u) y n) runs m refl
        (λ x h e. rw (way-answer x p u h e k (ap is_answered m)) (by (F.answers u)))
      where
        by : (b : Bool) → Tells F (next F.image (answer_way 9 b) p) (suc u) (by_answer b y n)
        by true = rw (next-branch F.image 1 p k ∙ a) f
        by false = rw (next-branch F.image 0 p k) g

    -- Switch i
    pub tells-switch : (i t u : ℕ) (evs : List Event) → mark_at F.marks p ≡ none → kind_at F.image p ≡ 15 → a_at F.image p ≡ i
        → table_target F.image i (switch_way F.image F.integer i) ≡ t → Tells F t u evs → Tells F p u evs
    unfolding event_of is_answered
    tells-switch i t u evs m k a e f =
        tells-step F fwd p u false none evs runs m refl (λ g h z. subst (λ (v : ℕ). Tells F v u evs) (sym (goes g h)) f)
      where
        goes : (g : Guided) → g.state.place ≡ p → next F.image (way_at F g) p ≡ t
        goes g h =
            ap (λ (v : ℕ). next F.image v p) (way-switch g p h k)
            ∙ next-switch F.image (switch_way F.image F.integer (a_at F.image p)) p k
            ∙ ap (λ (v : ℕ). table_target F.image v (switch_way F.image F.integer v)) a
            ∙ e

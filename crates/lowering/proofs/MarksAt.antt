-- Which mark is found at a place: the marks of a part of the code lie within it, so a place of the part bears a mark of the part.
use Prim.Native.Nat.{ℕ, ◌+◌, ◌≤◌, ◌<◌}
use mathlib.Core.Path.{◌≡◌, refl, ap, ◌∙◌}
use mathlib.Core.Bool.{true, false}
use mathlib.Core.Option.{Option, none, some}
use mathlib.Core.List.{List, [], ◌∷◌, ◌++◌}
use native.Mathlib.Omega.{arith}
use lib.Dec.{eqb}
use lib.ListN.{length}
use borrow.Author.Tests.{eq-eqb, ne_eqb}
use Rattle.bytecode.specs.declared.Chain.{Chain}
use Rattle.lowering.specs.Out.{Rec}
use Rattle.lowering.specs.Arms.{Try, Entry, to_body, to_chain, to_fallback, Arm, tries_extent, entry_extent, arms_extent}
use Rattle.lowering.specs.Bodies.{Body, bodies_extent}
use Rattle.lowering.specs.Marks.{Mark, Marked, try_marks, entry_marks, arm_marks, body_marks, mark_at}
use Rattle.lowering.proofs.Lowered.{TriesAt, EntryAt, ArmsAt, BodiesAt}

pub mark-here : (m : Marked) (ms : List Marked) (p : ℕ) → m.place ≡ p → mark_at (m ∷ ms) p ≡ some m.mark
unfolding mark_at
mark-here m ms p h = rw (eq-eqb m.place p h, mark_at)

pub mark-later : (m : Marked) (ms : List Marked) (p : ℕ) → (m.place ≡ p → ⊥) → mark_at (m ∷ ms) p ≡ mark_at ms p
unfolding mark_at
mark-later m ms p h = rw (ne_eqb m.place p h, mark_at)

-- all marks stand at lo or above, and below hi
abbrev pub Between : ℕ → ℕ → List Marked → Type 0
Between lo hi [] = Prim.Unit {0}
Between lo hi (m ∷ ms) = (lo ≤ m.place) × (m.place < hi) × Between lo hi ms

pub between-wider : (lo hi lo' hi' : ℕ) (ms : List Marked) → lo' ≤ lo → hi ≤ hi' → Between lo hi ms → Between lo' hi' ms
between-wider lo hi lo' hi' [] h k t = tt
between-wider lo hi lo' hi' (m ∷ ms) h k t = (omega arith, omega arith, between-wider lo hi lo' hi' ms h k t.2)

pub between-append : (lo hi : ℕ) (ms ms' : List Marked) → Between lo hi ms → Between lo hi ms' → Between lo hi (ms ++ ms')
between-append lo hi [] ms' t u = u
between-append lo hi (m ∷ ms) ms' t u = (t.0, t.1, between-append lo hi ms ms' t.2 u)

-- no mark below or above
pub below-marks : (lo hi : ℕ) (ms : List Marked) (p : ℕ) → Between lo hi ms → p < lo → mark_at ms p ≡ none
unfolding mark_at
below-marks lo hi [] p t h = refl
below-marks lo hi (m ∷ ms) p t h = mark-later m ms p (λ e. omega (arith, t.0)) ∙ below-marks lo hi ms p t.2 h

pub above-marks : (lo hi : ℕ) (ms : List Marked) (p : ℕ) → Between lo hi ms → hi ≤ p → mark_at ms p ≡ none
unfolding mark_at
above-marks lo hi [] p t h = refl
above-marks lo hi (m ∷ ms) p t h = mark-later m ms p (λ e. omega (arith, t.1)) ∙ above-marks lo hi ms p t.2 h

append_right : (lo hi : ℕ) (ms ms' : List Marked) (p : ℕ) → Between lo hi ms → hi ≤ p → mark_at (ms ++ ms') p ≡ mark_at ms' p
append_right lo hi [] ms' p t h = refl
append_right lo hi (m ∷ ms) ms' p t h = mark-later m (ms ++ ms') p (λ e. omega (arith, t.1)) ∙ append_right lo hi ms ms' p t.2 h

append_left : (lo hi : ℕ) (ms ms' : List Marked) (p : ℕ) → Between lo hi ms' → p < lo → mark_at (ms ++ ms') p ≡ mark_at ms p
unfolding mark_at
append_left lo hi [] ms' p t h = below-marks lo hi ms' p t h
append_left lo hi (m ∷ ms) ms' p t h =
    ap (λ (o : Option Mark). elim (eqb m.place p) [ true ↦ some m.mark | false ↦ o ]) (append_left lo hi ms ms' p t h)

-- the places from b up to e bear the marks ms, and no other
abbrev pub Bears : List Marked → ℕ → ℕ → List Marked → Type 0
Bears all b e ms = (p : ℕ) → b ≤ p → p < e → mark_at all p ≡ mark_at ms p

module _ (all : List Marked) where
  pub bears-part : (b e b' e' : ℕ) (ms : List Marked) → b ≤ b' → e' ≤ e → Bears all b e ms → Bears all b' e' ms
  bears-part b e b' e' ms h k t p l m = t p (omega arith) (omega arith)

  -- marks that stand behind, or in front
  pub bears-left : (b e hi : ℕ) (ms ms' : List Marked) → Between e hi ms' → Bears all b e (ms ++ ms') → Bears all b e ms
  bears-left b e hi ms ms' h t p l m = t p l m ∙ append_left e hi ms ms' p h m

  pub bears-right : (b e lo : ℕ) (ms ms' : List Marked) → Between lo b ms → Bears all b e (ms ++ ms') → Bears all b e ms'
  bears-right b e lo ms ms' h t p l m = t p l m ∙ append_right lo b ms ms' p h l

-- the marks of the parts of a switch
module _ (s : List ℕ) (rec : Rec) (hs : List Chain) where
  pub tries-between : (b : ℕ) (ts : List Try) → TriesAt s rec hs b ts → Between b (b + tries_extent ts) (try_marks ts)
  unfolding try_marks tries_extent
  tries-between b [] h = tt
  tries-between b (t ∷ ts) h =
      let e = h.0.place_is in
      let c = b + length t.code + 1 in
      let rest = between-wider c (c + tries_extent ts) b (b + tries_extent (t ∷ ts)) (try_marks ts) (omega arith) (omega arith)
      (tries-between c ts h.1) in
      (omega arith, omega arith, (omega arith, omega arith, rest))

  pub entry-between : (b : ℕ) (ks : List ℕ) (e : Entry) → EntryAt s rec hs b ks e → Between b (b + entry_extent e) (entry_marks e)
  unfolding entry_marks entry_extent
  entry-between b ks (to_body k) h = tt
  entry-between b ks (to_chain p ts e) h =
      between-wider b (b + tries_extent ts) b (b + entry_extent (to_chain p ts e)) (try_marks ts) (omega arith) (omega arith)
      (tries-between b ts h.tries)
  entry-between b ks to_fallback h = tt

  pub arms-between : (b : ℕ) (arms : List Arm) → ArmsAt s rec hs b arms → Between b (b + arms_extent arms) (arm_marks arms)
  unfolding arm_marks arms_extent
  arms-between b [] h = tt
  arms-between b (a ∷ arms) h =
      let c = b + entry_extent a.entry in
      between-append b (b + arms_extent (a ∷ arms)) (entry_marks a.entry) (arm_marks arms)
      (between-wider b c b (b + arms_extent (a ∷ arms)) (entry_marks a.entry) (omega arith) (omega arith)
      (entry-between b a.blocks a.entry h.0))
      (between-wider c (c + arms_extent arms) b (b + arms_extent (a ∷ arms)) (arm_marks arms) (omega arith) (omega arith)
      (arms-between c arms h.1))

  pub bodies-between : (b : ℕ) (xs : List Body) → BodiesAt s rec hs b xs → Between b (b + bodies_extent xs) (body_marks xs)
  unfolding body_marks bodies_extent
  bodies-between b [] h = tt
  bodies-between b (x ∷ xs) h =
      let e = h.0.place_is in
      let c = b + length x.code + 1 in (
        omega arith,
        omega arith,
        between-wider c (c + bodies_extent xs) b (b + bodies_extent (x ∷ xs)) (body_marks xs) (omega arith)
            (omega arith) (bodies-between c xs h.1),
      )

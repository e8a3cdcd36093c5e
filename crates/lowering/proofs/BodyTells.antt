-- What a run on an integer tells from a body of a switch: the body is reached, and nothing comes behind it.
use Prim.Native.Nat.{ℕ, ◌+◌, ◌<◌}
use mathlib.Core.Path.{◌≡◌, refl, sym, ◌∙◌, subst}
use mathlib.Core.Bool.{Bool}
use mathlib.Core.Logic.{◌⊎◌, inl, inr, ⊎_elim}
use mathlib.Core.List.Memᴰ
use mathlib.Core.List.{List, [], ◌∷◌, Memᴰ}
use native.Mathlib.Omega.{arith}
use lib.ListN.{length}
use Rattle.bytecode.specs.declared.Op.TheVariants.{Jump}
use Rattle.bytecode.specs.declared.Chain.{Chain}
use Rattle.lowering.specs.Code.{ins, no_pos}
use Rattle.lowering.specs.Out.{Rec}
use Rattle.lowering.specs.Program.{Program}
use Rattle.lowering.specs.SwitchSheet.{body_of}
use Rattle.lowering.specs.Bodies.{Body, bodies_extent}
use Rattle.lowering.specs.SwitchCode.{over_value}
use Rattle.lowering.specs.Marks.{Marked, marked, body, body_marks, mark_at}
use Rattle.lowering.specs.Guided.{Fed, reached, is_answered, event_of}
use Rattle.lowering.proofs.Meets.{Meets}
use Rattle.lowering.proofs.Whole.{context_of, WellTyped}
use Rattle.lowering.proofs.Stands.{Stands}
use Rattle.lowering.proofs.Lowered.{Lowered, BodiesAt}
use Rattle.lowering.proofs.SwitchParts.{HasBody, BodyStands}
use Rattle.lowering.proofs.SwitchSound.{lowered-sound}
use Rattle.lowering.proofs.Tables.{TablesFit}
use Rattle.lowering.proofs.Tells.{Tells}
use Rattle.lowering.proofs.MarksAt.{Bears, bears-part, bears-left, bears-right, mark-later, bodies-between}
use Rattle.lowering.proofs.Fragments.{fed, enter-part}
use Rattle.lowering.proofs.ChainTells.{lowered-filled, Reaches, jump-tells}

-- a body is lowered at its place, and its first place alone bears a mark
pub record BodyHere (s : List ℕ) (rec : Rec) (hs : List Chain) (ms : List Marked) (x : Body) : Type 0 where
  pub lowered : Lowered rec hs (body_of s x.block) x.place 1 x.code
  pub bears : Bears ms x.place (x.place + length x.code + 1) (marked x.place (body x.block) ∷ [])

module _ (s : List ℕ) (rec : Rec) (hs : List Chain) (ms : List Marked) where
  body-here : (xs : List Body) (b : ℕ) → BodiesAt s rec hs b xs → Bears ms b (b + bodies_extent xs) (body_marks xs) → (x : Body)
      → Memᴰ x xs → BodyHere s rec hs ms x
  unfolding bodies_extent body_marks
  body-here [] b h bears x m = absurd (Memᴰ.not-nil m)
  body-here (y ∷ xs) b h bears x m =
      let c = b + length y.code + 1 in
      let e = b + bodies_extent (y ∷ xs) in
      let at = h.0.place_is in
      let m₁ = marked y.place (body y.block) in
      let here = bears-left ms b c (c + bodies_extent xs) (m₁ ∷ []) (body_marks xs) (bodies-between s rec hs c xs h.1)
      (bears-part ms b e b c (body_marks (y ∷ xs)) (omega arith) (omega arith) bears) in
      let later = bears-right ms c (c + bodies_extent xs) b (m₁ ∷ []) (body_marks xs) (omega arith)
      (bears-part ms b e c (c + bodies_extent xs) (body_marks (y ∷ xs)) (omega arith) (omega arith) bears) in
      ⊎_elim
      (λ q. subst (BodyHere s rec hs ms) (sym q)
      (record {
        lowered = subst (λ (p : ℕ). Lowered rec hs (body_of s y.block) p 1 y.code) (sym at) h.0.lowered;
        bears = bears-part ms b c y.place (y.place + length y.code + 1) (m₁ ∷ []) (omega arith) (omega arith) here;
      }))
      (λ n. body-here xs c h.1 later x n)
      (Memᴰ.cases_cons m)

module _ (r : Program) (T : TablesFit r) (W : WellTyped r) (ms : List Marked) (n : ℕ) (answers : ℕ → Bool) (free : ℕ → ℕ) where
  abbrev run : Fed
  run = fed r ms n answers free

  module _ (s : List ℕ) (rec : Rec) (M : Meets rec) (end : ℕ) (ends : (u : ℕ) → Tells run end u []) where
    body-tells : (x : Body) → BodyHere s rec r.pools.chains ms x → BodyStands r.code end x → (u : ℕ)
        → Tells run x.place u (reached x.block ∷ [])
    unfolding event_of is_answered mark_at
    body-tells x h g u =
        enter-part r T W ms n answers free g.stands
        (lowered-sound rec M (context_of r) (body_of s x.block) x.place 1 x.code h.lowered) u [] (leave g.leaves) m₁ refl
        refl filled
        (bears-part ms x.place (p + 1) x.place p (m₁ ∷ []) (omega arith) (omega arith) h.bears)
      where
        m₁ : Marked
        m₁ = marked x.place (body x.block)

        p : ℕ
        p = x.place + length x.code

        filled : 0 < length x.code
        filled = lowered-filled rec M (context_of r) (body_of s x.block) x.place 1 x.code h.lowered

        leave : (p ≡ end) ⊎ Stands r.code p (ins (Jump end) over_value no_pos ∷ []) → Tells run p u []
        leave (inl q) = subst (λ (t : ℕ). Tells run t u []) (sym q) (ends u)
        leave (inr st) =
            jump-tells r T W ms n answers free p end u over_value no_pos [] [] st
            (h.bears p (omega arith) (omega arith) ∙ mark-later m₁ [] p (λ e. let f = filled in omega arith)) (ends u)

    -- a block that has a body is reached there
    pub has-reaches : (xs : List Body) (b : ℕ) → BodiesAt s rec r.pools.chains b xs → Bears ms b (b + bodies_extent xs) (body_marks xs)
        → ((x : Body) → Memᴰ x xs → BodyStands r.code end x) → (k : ℕ) → HasBody k xs → Reaches r T W ms n answers free xs k
    has-reaches xs b h bears stand k has u =
        let x = has.body in
        subst (λ (t : ℕ). Tells run t u (reached k ∷ [])) (sym has.place_is)
        (subst (λ (j : ℕ). Tells run x.place u (reached j ∷ [])) has.block-is
        (body-tells x (body-here s rec r.pools.chains ms xs b h bears x has.among) (stand x has.among) u))

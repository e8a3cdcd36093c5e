-- The parts of a switch have the right depths: chains keep the subject, bodies put a value on it, the end takes the subject away.
use Prim.Native.Nat.{ℕ, suc, ◌+◌, ◌≤◌}
use mathlib.Core.Path.{◌≡◌, refl, sym, ap, subst}
use mathlib.Core.List.Memᴰ
use mathlib.Core.List.{List, [], ◌∷◌}
use native.Mathlib.Omega.{arith}
use lib.ListN.{length}
use Rattle.bytecode.specs.declared.Op.TheVariants.{Unit, Jump, JumpIfTrue, Rotate, Pop}
use Rattle.lowering.specs.Code.{Code, ins, no_pos}
use Rattle.lowering.specs.Out.{Rec}
use Rattle.lowering.specs.Arms.{Try, End, taken, declined, idle, Entry, to_body, to_chain, to_fallback, Arm, tries_extent, end_extent}
use Rattle.lowering.specs.Arms.{entry_extent, arms_extent}
use Rattle.lowering.specs.Bodies.{Body, body_at, bodies_extent, fall_extent}
use Rattle.lowering.specs.SwitchCode.{over_subject, over_value, tries_code, end_code, entry_code, arms_code, bodies_code, bodies_fall}
use Rattle.lowering.specs.SwitchCode.{default_code}
use Rattle.lowering.proofs.Effect.{Context}
use Rattle.lowering.proofs.Typed.{Outside, Nothing, Exit, Sound, seq, none, one, weaken}
use Rattle.lowering.proofs.Meets.{Meets}
use Rattle.lowering.proofs.SwitchPlaces.{tries-length, entry_length, ending_code}
use Rattle.lowering.proofs.Lowered.{Lowered, TriesAt, EntryAt, ArmsAt, BodiesAt}
use Rattle.lowering.proofs.SwitchParts.{HasBody}
use Rattle.lowering.proofs.SwitchNames.{TryNames, EndNames, EntryNames, ArmNames}

-- place t is lo or lies behind it, is within the code and has depth d
abbrev pub Aim : ℕ → ℕ → ℕ → Outside
Aim lo d t A N = (lo ≤ t) × (t ≤ N) × (A t ≡ d)

-- the same code at a place written otherwise
pub sound-at : {X : Context} {O : Outside} {b b' d e : ℕ} {c : Code} → b ≡ b' → Sound X O b d e c → Sound X O b' d e c
sound-at {X} {O} {b} {b'} {d} {e} {c} h g = subst (λ (n : ℕ). Sound X O n d e c) h g

module _ (rec : Rec) (M : Meets rec) (X : Context) where
  pub lowered-sound : {O : Outside} (j b d : ℕ) (c : Code) → Lowered rec X.chains j b d c → Sound X O b d (suc d) c
  lowered-sound j b d c h =
      weaken (λ A N o. tt) (subst (λ (x : Code). Sound X Nothing b d (suc d) x) (sym h.code_is) (M.sound X j b d h.pools h.grown))

-- what chains before place lo assume: the bodies and the fallback lie ahead, at the depth of the subject
pub record Ahead (bodies : List Body) (lo fb : ℕ) (A : ℕ → ℕ) (N : ℕ) : Type 0 where
  pub to-body : (k : ℕ) → HasBody k bodies → Aim lo 1 (body_at k bodies) A N
  pub to-fallback : Aim lo 1 fb A N

module _ (s : List ℕ) (rec : Rec) (M : Meets rec) (X : Context) (bodies : List Body) (lo fb : ℕ) where
  jump-sound : (b t : ℕ) → ((A : ℕ → ℕ) (N : ℕ) → Ahead bodies lo fb A N → Aim lo 1 t A N) → b + 1 ≤ lo
      → Sound X (Ahead bodies lo fb) b 1 1 (ins (Jump t) over_subject no_pos ∷ [])
  jump-sound b t f le = one (ins (Jump t) over_subject no_pos) refl (λ A N o a e n. let q = f A N o in omega arith)

  tries-sound : (b : ℕ) (ts : List Try) → TriesAt s rec X.chains b ts → TryNames (λ (k : ℕ). HasBody k bodies) ts
      → b + tries_extent ts ≤ lo → Sound X (Ahead bodies lo fb) b 1 1 (tries_code bodies ts)
  unfolding tries_code tries_extent
  tries-sound b [] h n le = none
  tries-sound b (t ∷ ts) h n le =
      let first = lowered-sound rec M X {O = Ahead bodies lo fb} _ b 1 t.code h.0.lowered in
      let jump = one {X = X} {O = Ahead bodies lo fb} {b = b + length t.code} {d = 2} {e = 1}
      (ins (JumpIfTrue (body_at t.block bodies)) over_value t.pos) refl
      (λ A N o a e m. let q = o.to-body t.block n.0 in omega arith) in
      seq first (seq jump (tries-sound (b + length t.code + 1) ts h.1 n.1 (omega arith)))

  end-sound : (b : ℕ) (e : End) → EndNames (λ (k : ℕ). HasBody k bodies) e → b + end_extent e ≤ lo
      → Sound X (Ahead bodies lo fb) b 1 1 (end_code bodies fb e)
  unfolding end_code end_extent
  end-sound b (taken k) n le = jump-sound b (body_at k bodies) (λ A N o. o.to-body k n) le
  end-sound b declined n le = jump-sound b fb (λ A N o. o.to-fallback) le
  end-sound b idle n le = none

  pub entry-sound : (b : ℕ) (ks : List ℕ) (e : Entry) → EntryAt s rec X.chains b ks e → EntryNames (λ (k : ℕ). HasBody k bodies) e
      → b + entry_extent e ≤ lo → Sound X (Ahead bodies lo fb) b 1 1 (entry_code bodies fb e)
  unfolding entry_code entry_extent
  entry-sound b ks (to_body k) h n le = none
  entry-sound b ks (to_chain p ts e) h n le =
      seq (tries-sound b ts h.tries n.0 (omega arith))
      (sound-at (ap (λ (m : ℕ). b + m) (sym (tries-length bodies ts))) (end-sound (b + tries_extent ts) e n.1 (omega arith)))
  entry-sound b ks to_fallback h n le = none

  pub arms-sound : (b : ℕ) (arms : List Arm) → ArmsAt s rec X.chains b arms → ArmNames (λ (k : ℕ). HasBody k bodies) arms
      → b + arms_extent arms ≤ lo → Sound X (Ahead bodies lo fb) b 1 1 (arms_code bodies fb arms)
  unfolding arms_code arms_extent
  arms-sound b [] h n le = none
  arms-sound b (a ∷ arms) h n le =
      seq (entry-sound b a.blocks a.entry h.0 n.0 (omega arith))
      (sound-at (ap (λ (m : ℕ). b + m) (sym (entry_length bodies fb a.entry)))
      (arms-sound (b + entry_extent a.entry) arms h.1 n.1 (omega arith)))

-- ---- bodies: each goes to the end, with the value over the subject

module _ (s : List ℕ) (rec : Rec) (M : Meets rec) (X : Context) (end : ℕ) where
  leave-sound : (b : ℕ) → b + 1 ≤ end → Sound X (Exit end 2) b 2 1 (ins (Jump end) over_value no_pos ∷ [])
  leave-sound b le = one (ins (Jump end) over_value no_pos) refl (λ A N o a e n. omega arith)

  bodies-sound : (b : ℕ) (xs : List Body) → BodiesAt s rec X.chains b xs → b + bodies_extent xs ≤ end
      → Sound X (Exit end 2) b 1 1 (bodies_code end xs)
  unfolding bodies_code bodies_extent
  bodies-sound b [] h le = none
  bodies-sound b (x ∷ xs) h le =
      seq (lowered-sound rec M X _ b 1 x.code h.0.lowered)
      (seq (leave-sound (b + length x.code) (omega arith)) (bodies-sound (b + length x.code + 1) xs h.1 (omega arith)))

  fall-sound : (b : ℕ) (x : Body) (xs : List Body) → BodiesAt s rec X.chains b (x ∷ xs) → b + fall_extent (x ∷ xs) ≤ end
      → Sound X (Exit end 2) b 1 2 (bodies_fall end (x ∷ xs))
  unfolding bodies_fall fall_extent
  fall-sound b x [] h le = lowered-sound rec M X _ b 1 x.code h.0.lowered
  fall-sound b x (y ∷ xs) h le =
      seq (lowered-sound rec M X _ b 1 x.code h.0.lowered)
      (seq (leave-sound (b + length x.code) (omega arith)) (fall-sound (b + length x.code + 1) y xs h.1 (omega arith)))

  -- bodies and the Unit of a missing default
  pub missing-sound : (b : ℕ) (xs : List Body) → BodiesAt s rec X.chains b xs → b + bodies_extent xs + 1 ≡ end
      → Sound X (Exit end 2) b 1 2 (default_code 0 end xs)
  unfolding default_code
  missing-sound b xs h q = seq (bodies-sound b xs h (omega arith)) (one (ins Unit over_subject no_pos) refl (λ A N o a e n. omega arith))

  -- bodies, one of which is the default's
  pub given-sound : (k b : ℕ) (xs : List Body) → HasBody k xs → BodiesAt s rec X.chains b xs → b + fall_extent xs ≡ end
      → Sound X (Exit end 2) b 1 2 (default_code (suc k) end xs)
  unfolding default_code
  given-sound k b [] v h q = absurd (Memᴰ.not-nil v.among)
  given-sound k b (x ∷ xs) v h q = fall-sound b x xs h (omega arith)

-- ---- the last two instructions

pub ending-sound : {X : Context} {O : Outside} (b : ℕ) → Sound X O b 2 1 ending_code
ending-sound {X} {O} b =
    seq {c = ins (Rotate 1) over_value no_pos ∷ []}
    (one {X = X} {O = O} {b = b} {d = 2} {e = 2} (ins (Rotate 1) over_value no_pos) refl (λ A N o a e n. omega arith))
    (one {X = X} {O = O} {b = b + 1} {d = 2} {e = 1} (ins Pop over_value no_pos) refl (λ A N o a e n. omega arith))

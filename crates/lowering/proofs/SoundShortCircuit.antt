-- And, Or: each operand's value is taken by the jump behind it, which goes on or to the last instruction.
use Prim.Native.Nat.{ℕ, zero, suc, ◌+◌, ◌-◌, ◌≤◌}
use mathlib.Core.Path.{◌≡◌, refl, subst}
use mathlib.Core.List.{List, [], ◌∷◌, ◌++◌, append_assoc}
use lib.ListN.{length, length-append}
use native.Mathlib.Omega.{arith}
use Rattle.bytecode.specs.declared.Op.{Op}
use Rattle.sheet.specs.Node.{count, child, next}
use Rattle.bytecode.specs.declared.Op.TheVariants.{Bool, Jump, JumpIfTrue, JumpIfFalse}
use Rattle.lowering.specs.Code.{Code, ins, no_pos}
use Rattle.lowering.specs.Pools.{Pools, emits}
use Rattle.lowering.specs.Out.{Rec}
use Rattle.lowering.specs.ShortCircuit.{Fragment, fragments, extent, decided, jump_on, decision, short_circuit}
use Rattle.lowering.proofs.Effect.{Context}
use Rattle.lowering.proofs.Typed.{Nothing, Exit, Sound, seq, none, one, weaken, close}
use Rattle.lowering.proofs.Meets.{Grows, grows-refl, grows-trans, Meets}
use Rattle.lowering.proofs.Lowers.{Done, Both, close-in}

-- each fragment takes depth d to depth d + 1, with `gap` instructions behind it
abbrev pub Parts : Context → ℕ → ℕ → ℕ → List Fragment → Type 0
Parts X gap b d [] = Prim.Unit {0}
Parts X gap b d (f ∷ fs) = Sound X Nothing b d (suc d) f.code × Parts X gap (b + length f.code + gap) d fs

module _ (s : List ℕ) (rec : Rec) (M : Meets rec) where
  pub fragments-grow : (gap n j b d : ℕ) (p : Pools) → Grows p.chains (fragments s rec gap n j b d p).pools.chains
  unfolding fragments emits
  fragments-grow gap zero j b d p = grows-refl p.chains
  fragments-grow gap (suc n) j b d p =
      let o = rec j b d p in
      grows-trans (M.grows j b d p) (fragments-grow gap n (next s j) (b + length o.code + gap) d (emits gap o.pools))

  pub fragments-sound : (X : Context) (gap n j b d : ℕ) (p : Pools) → Grows (fragments s rec gap n j b d p).pools.chains X.chains
      → Parts X gap b d (fragments s rec gap n j b d p).parts
  unfolding fragments emits
  fragments-sound X gap zero j b d p g = tt
  fragments-sound X gap (suc n) j b d p g =
      let o = rec j b d p in
      let b' = b + length o.code + gap in
      let p' = emits gap o.pools in
      (M.sound X j b d p (grows-trans (fragments-grow gap n (next s j) b' d p') g), fragments-sound X gap n (next s j) b' d p' g)

-- `extent` is the length of the code written
pub decided-length : (jump : Op) (d : ℕ) (fs : List Fragment) → length (decided jump d fs) ≡ extent 1 fs
unfolding decided extent
decided-length jump d [] = refl
decided-length jump d (f ∷ fs) = rw length-append (omega (arith, decided-length jump d fs))

module _ (X : Context) where
  -- the jump takes the value and goes on or to t
  jump-sound : (stop t b d pos : ℕ) → suc b ≤ t → Sound X (Exit t d) b (suc d) d (ins (jump_on stop t) (suc d) pos ∷ [])
  unfolding jump_on
  jump-sound zero t b d pos h = one (ins (JumpIfFalse t) (suc d) pos) refl (λ A N o start end le. omega arith)
  jump-sound (suc stop) t b d pos h = one (ins (JumpIfTrue t) (suc d) pos) refl (λ A N o start end le. omega arith)

  decided-sound : (stop t b d : ℕ) (fs : List Fragment) → Parts X 1 b d fs → b + extent 1 fs ≤ t
      → Sound X (Exit t d) b d d (decided (jump_on stop t) d fs)
  unfolding decided extent
  decided-sound stop t b d [] ps h = none
  decided-sound stop t b d (f ∷ fs) ps h =
      let rest = decided-sound stop t (b + length f.code + 1) d fs ps.1 (omega arith) in
      seq (weaken (λ A N o. tt) ps.0) (seq (jump-sound stop t (b + length f.code) d f.pos (omega arith)) rest)

  -- all operands true for And, false for Or: this value, and a jump to the end
  passed-sound : (stop e d : ℕ) → Sound X (Exit (e + 3) (suc d)) e d d (ins (Bool stop) d no_pos ∷ ins (Jump (e + 3)) (suc d) no_pos ∷ [])
  passed-sound stop e d =
      let jump = one {X = X} {O = Exit (e + 3) (suc d)} {b = e + 1} {d = suc d} {e = d} (ins (Jump (e + 3)) (suc d) no_pos) refl
      (λ A N o start end le. omega arith) in
      seq (one {d = d} {e = suc d} (ins (Bool stop) d no_pos) refl (λ A N o start end le. omega arith)) jump

  decision-sound : (stop e b d : ℕ) (fs : List Fragment) → Parts X 1 b d fs → b + extent 1 fs ≡ e
      → Sound X Nothing b d (suc d) (decided (jump_on stop (e + 2)) d fs ++ decision stop e d)
  unfolding decision
  decision-sound stop e b d fs ps h =
      let c = decided (jump_on stop (e + 2)) d fs in
      let pass : Code = ins (Bool (1 - stop)) d no_pos ∷ ins (Jump (e + 3)) (suc d) no_pos ∷ [] in
      let end : Code = ins (Bool stop) d no_pos ∷ [] in
      let O = Exit (e + 3) (suc d) in
      let l = decided-length (jump_on stop (e + 2)) d fs in
      let at-e : e ≡ b + length c = omega arith in
      let first = weaken {O' = Both O (Exit (e + 2) d)} (λ A N o. o.1) (decided-sound stop (e + 2) b d fs ps (omega arith)) in
      let middle = weaken {O' = Both O (Exit (e + 2) d)} (λ A N o. o.0) (passed-sound (1 - stop) e d) in
      let both = seq first (subst (λ (n : ℕ). Sound X (Both O (Exit (e + 2) d)) n d d pass) at-e middle) in
      let open-end = close-in O (e + 2) (rw length-append (omega arith)) both in
      let last = one {X = X} {O = O} {b = b + length (c ++ pass)} {d = d} {e = suc d} (ins (Bool stop) d no_pos) refl
      (λ A N o start end le. omega arith) in
      subst (λ (w : Code). Sound X Nothing b d (suc d) w) (append_assoc c pass end)
      (close {t = e + 3} (rw (length-append, length-append) (omega arith)) (seq open-end last))

module _ (s : List ℕ) (rec : Rec) (M : Meets rec) where
  pub short_circuit-done : (stop j b d : ℕ) (p : Pools) → Done p b d (suc d) (short_circuit stop s rec j b d p)
  unfolding short_circuit emits
  short_circuit-done stop j b d p =
      let r = fragments s rec 1 (count s j) (child j) b d p in
      record {
        sound =
            λ X g. decision-sound X stop (b + extent 1 r.parts) b d r.parts
            (fragments-sound s rec M X 1 (count s j) (child j) b d p g) refl;
        grows = fragments-grow s rec M 1 (count s j) (child j) b d p;
      }

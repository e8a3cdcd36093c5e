-- What a run on an integer tells from a chain of guards, from an entry and from a body of a switch.
use Prim.Native.Nat.{ℕ, suc, ◌+◌, ◌<◌}
use mathlib.Core.Path.{◌≡◌, refl, sym, ap, ◌∙◌, subst}
use mathlib.Core.Bool.{Bool}
use mathlib.Core.Logic.{⊎_elim}
use mathlib.Core.Option.{none, some}
use mathlib.Core.List.Memᴰ
use mathlib.Core.List.{List, [], ◌∷◌, ◌++◌, Memᴰ}
use native.Mathlib.Omega.{arith}
use native.Mathlib.Nat.{add-zero}
use lib.ListN.{length}
use Rattle.bytecode.specs.declared.Op.TheVariants.{Jump, JumpIfTrue}
use Rattle.bytecode.specs.Op.{op_words}
use Rattle.lowering.specs.Code.{Code, ins, no_pos}
use Rattle.lowering.specs.Out.{Rec}
use Rattle.lowering.specs.Program.{Program}
use Rattle.lowering.specs.SwitchSheet.{guard_of}
use Rattle.lowering.specs.Arms.{Try, End, taken, declined, idle, Entry, to_body, to_chain, to_fallback, Arm, tries_extent, end_extent}
use Rattle.lowering.specs.Arms.{entry_extent, arms_extent}
use Rattle.lowering.specs.Bodies.{Body, body_at}
use Rattle.lowering.specs.SwitchCode.{over_subject, over_value, tries_code, end_code, entry_code, arms_code}
use Rattle.lowering.specs.SwitchTables.{target}
use Rattle.lowering.specs.Marks.{Marked, marked, guard, branch, try_marks, entry_marks, arm_marks, mark_at}
use Rattle.lowering.specs.Guided.{Fed, Event, tried, reached, is_answered, event_of}
use Rattle.lowering.proofs.Effect.{Context}
use Rattle.lowering.proofs.Typed.{Nothing, Starts}
use Rattle.lowering.proofs.Meets.{Meets}
use Rattle.lowering.proofs.Whole.{context_of, WellTyped}
use Rattle.lowering.proofs.Stands.{Stands, stands_at, stands-left, stands-right, stands-rest}
use Rattle.lowering.proofs.SwitchPlaces.{tries-length, entry_length}
use Rattle.lowering.proofs.Lowered.{Lowered, TryAt, TriesAt, EntryAt, ArmsAt}
use Rattle.lowering.proofs.SwitchParts.{FallsTo, FallTo}
use Rattle.lowering.proofs.SwitchNames.{TryNames, EndNames, EntryNames, ArmNames}
use Rattle.lowering.proofs.SwitchSound.{lowered-sound}
use Rattle.lowering.proofs.Tables.{TablesFit}
use Rattle.lowering.proofs.Tells.{Tells}
use Rattle.lowering.proofs.TellsBranch.{by_answer, tells-jump, tells-answer}
use Rattle.lowering.proofs.Through.{end_events, tries_events, entry_events}
use Rattle.lowering.proofs.MarksAt.{Bears, bears-part, bears-left, bears-right, mark-here, mark-later, above-marks, tries-between}
use Rattle.lowering.proofs.MarksAt.{entry-between, arms-between}
use Rattle.lowering.proofs.Fragments.{stands-runs, stands-kind, stands-a, goes-forward, fed, enter-part}

-- what is lowered is not empty
starts-filled : (d : ℕ) (c : Code) → Starts d (suc d) c → 0 < length c
starts-filled d [] h = absurd (omega arith)
starts-filled d (i ∷ c) h = omega arith

pub lowered-filled : (rec : Rec) → Meets rec → (X : Context) (j b d : ℕ) (c : Code) → Lowered rec X.chains j b d c → 0 < length c
lowered-filled rec M X j b d c h = starts-filled d c (lowered-sound rec M X {O = Nothing} j b d c h).starts

module _ (r : Program) (T : TablesFit r) (W : WellTyped r) (ms : List Marked) (x : ℕ) (answers : ℕ → Bool) (free : ℕ → ℕ) where
  abbrev run : Fed
  run = fed r ms x answers free

  -- where jumps to block k go, its body is reached, and nothing comes behind it
  abbrev pub Reaches : List Body → ℕ → Type 0
  Reaches bodies k = (u : ℕ) → Tells run (body_at k bodies) u (reached k ∷ [])

  -- a jump, whatever stands behind it
  pub jump-tells : (p t u : ℕ) (d pos : ℕ) (c : Code) (evs : List Event) → Stands r.code p (ins (Jump t) d pos ∷ c) → mark_at ms p ≡ none
      → Tells run t u evs → Tells run p u evs
  unfolding op_words
  jump-tells p t u d pos c evs g m f = tells-jump run (goes-forward r T W) p (stands-runs r g) t u evs m (stands-kind r g) (stands-a r g) f

  module _ (s : List ℕ) (rec : Rec) (M : Meets rec) (bodies : List Body) where
    -- a guard, the jump behind it, and what is told behind that
    try-tells : (t : Try) (b : ℕ) (c : Code) (n : List Event) (u : ℕ)
        → Stands r.code b (t.code ++ (ins (JumpIfTrue (body_at t.block bodies)) over_value t.pos ∷ c))
        → Bears ms b (b + length t.code + 1) (marked t.place (guard t.block) ∷ marked (t.place + length t.code) branch ∷ [])
        → TryAt s rec r.pools.chains b t → Reaches bodies t.block → Tells run (b + length t.code + 1) (suc u) n
        → Tells run b u (tried t.block ∷ by_answer (answers u) (reached t.block ∷ []) n)
    unfolding op_words event_of is_answered
    try-tells t b c n u g bears h reach behind =
        let m₁ = marked t.place (guard t.block) in
        let m₂ = marked (t.place + length t.code) branch in
        let at = h.place_is in
        let filled = lowered-filled rec M (context_of r) (guard_of s t.block) b 1 t.code h.lowered in
        let p = b + length t.code in
        let jump = stands-right t.code (ins (JumpIfTrue (body_at t.block bodies)) over_value t.pos ∷ c) g in
        let at-jump : mark_at ms p ≡ some branch =
        bears p (omega arith) (omega arith) ∙ mark-later m₁ (m₂ ∷ []) p (λ e. omega arith) ∙ mark-here m₂ [] p (omega arith) in
        let answered = tells-answer run (goes-forward r T W) p (stands-runs r jump) (body_at t.block bodies) u (reached t.block ∷ []) n
        at-jump (stands-kind r jump) (stands-a r jump) (reach (suc u)) behind in
        enter-part r T W ms x answers free (stands-left t.code (ins (JumpIfTrue (body_at t.block bodies)) over_value t.pos ∷ c) g)
        (lowered-sound rec M (context_of r) (guard_of s t.block) b 1 t.code h.lowered) u
        (by_answer (answers u) (reached t.block ∷ []) n) answered m₁ at refl filled
        (bears-left ms b p (p + 1) (m₁ ∷ []) (m₂ ∷ []) (omega arith)
        (bears-part ms b (p + 1) b p (m₁ ∷ m₂ ∷ []) (omega arith) (omega arith) bears))

    tries-tell : (after : ℕ → List Event) (e : End) (ts : List Try) (b : ℕ) → Stands r.code b (tries_code bodies ts)
        → Bears ms b (b + tries_extent ts) (try_marks ts)
        → TriesAt s rec r.pools.chains b ts → TryNames (Reaches bodies) ts
        → ((u : ℕ) → Tells run (b + tries_extent ts) u (end_events after u e)) → (u : ℕ) → Tells run b u (tries_events answers after u ts e)
    unfolding tries_code tries_extent try_marks
    tries-tell after e [] b g bears h want f u = subst (λ (p : ℕ). Tells run p u (end_events after u e)) (add-zero b) (f u)
    tries-tell after e (t ∷ ts) b g bears h want f u =
        let m₁ = marked t.place (guard t.block) in
        let m₂ = marked (t.place + length t.code) branch in
        let c = b + length t.code + 1 in
        let at = h.0.place_is in
        let rest =
        stands-rest (stands-right t.code (ins (JumpIfTrue (body_at t.block bodies)) over_value t.pos ∷ tries_code bodies ts) g) in
        let end : b + tries_extent (t ∷ ts) ≡ c + tries_extent ts = omega arith in
        let behind = tries-tell after e ts c (stands_at (omega arith) rest)
        (bears-right ms c (c + tries_extent ts) b (m₁ ∷ m₂ ∷ []) (try_marks ts) (omega arith)
        (bears-part ms b (b + tries_extent (t ∷ ts)) c (c + tries_extent ts) (try_marks (t ∷ ts)) (omega arith) (omega arith) bears))
        h.1 want.1
        (λ v. subst (λ (p : ℕ). Tells run p v (end_events after v e)) end (f v)) in
        try-tells t b (tries_code bodies ts) (tries_events answers after (suc u) ts e) u g
        (bears-left ms b c (c + tries_extent ts) (m₁ ∷ m₂ ∷ []) (try_marks ts) (tries-between s rec r.pools.chains c ts h.1)
        (bears-part ms b (b + tries_extent (t ∷ ts)) b c (try_marks (t ∷ ts)) (omega arith) (omega arith) bears))
        h.0 want.0 (behind (suc u))

    module _ (after : ℕ → List Event) (fb : ℕ) (falls-back : (u : ℕ) → Tells run fb u (after u)) where
      -- how a chain ends, at place p
      end-tells : (e : End) (p : ℕ) → (e ≡ idle → p ≡ fb) → Stands r.code p (end_code bodies fb e)
          → (0 < end_extent e → mark_at ms p ≡ none)
          → EndNames (Reaches bodies) e → (u : ℕ) → Tells run p u (end_events after u e)
      unfolding end_code end_extent
      end-tells (taken k) p idle-at g m want u =
          jump-tells p (body_at k bodies) u over_subject no_pos [] (reached k ∷ []) g (m (omega arith)) (want u)
      end-tells declined p idle-at g m want u = jump-tells p fb u over_subject no_pos [] (after u) g (m (omega arith)) (falls-back u)
      end-tells idle p idle-at g m want u = subst (λ (q : ℕ). Tells run q u (after u)) (sym (idle-at refl)) (falls-back u)

      chain-tells : (ts : List Try) (e : End) (b : ℕ) → TriesAt s rec r.pools.chains b ts → (e ≡ idle → b + tries_extent ts ≡ fb)
          → Stands r.code b (tries_code bodies ts ++ end_code bodies fb e) → Bears ms b (b + (tries_extent ts + end_extent e)) (try_marks ts)
          → TryNames (Reaches bodies) ts → EndNames (Reaches bodies) e → (u : ℕ) → Tells run b u (tries_events answers after u ts e)
      chain-tells ts e b h idle-at g bears names ends =
          let p = b + tries_extent ts in
          let bare : 0 < end_extent e → mark_at ms p ≡ none =
          λ l. bears p (omega arith) (omega arith)
          ∙ above-marks b p (try_marks ts) p (tries-between s rec r.pools.chains b ts h) (omega arith) in
          let end =
          stands_at (ap (λ (n : ℕ). b + n) (tries-length bodies ts)) (stands-right (tries_code bodies ts) (end_code bodies fb e) g) in
          tries-tell after e ts b (stands-left (tries_code bodies ts) (end_code bodies fb e) g)
          (bears-part ms b (b + (tries_extent ts + end_extent e)) b p (try_marks ts) (omega arith) (omega arith) bears) h
          names (end-tells e p idle-at end bare ends)

      entry-tells : (e : Entry) (b : ℕ) (ks : List ℕ) → EntryAt s rec r.pools.chains b ks e → FallsTo fb b e
          → Stands r.code b (entry_code bodies fb e)
          → Bears ms b (b + entry_extent e) (entry_marks e) → EntryNames (Reaches bodies) e
          → (u : ℕ) → Tells run (target bodies fb e) u (entry_events answers after u e)
      unfolding entry_code entry_extent entry_marks target
      entry-tells (to_body k) b ks h falls g bears want u = want u
      entry-tells (to_chain p ts e) b ks h falls g bears want u =
          subst (λ (q : ℕ). Tells run q u (tries_events answers after u ts e)) (sym h.place_is)
          (chain-tells ts e b h.tries (λ q. subst (λ (x : End). FallsTo fb b (to_chain p ts x)) q falls) g bears want.0 want.1 u)
      entry-tells to_fallback b ks h falls g bears want u = falls-back u

      -- each arm of a table
      pub arms-tell : (arms : List Arm) (b : ℕ) → ArmsAt s rec r.pools.chains b arms → FallTo fb b arms
          → Stands r.code b (arms_code bodies fb arms)
          → Bears ms b (b + arms_extent arms) (arm_marks arms) → ArmNames (Reaches bodies) arms
          → (a : Arm) → Memᴰ a arms → (u : ℕ) → Tells run (target bodies fb a.entry) u (entry_events answers after u a.entry)
      unfolding arms_code arms_extent arm_marks
      arms-tell [] b h falls g bears want a m u = absurd (Memᴰ.not-nil m)
      arms-tell (x ∷ arms) b h falls g bears want a m u =
          let hs = r.pools.chains in
          let c = b + entry_extent x.entry in
          let e = b + arms_extent (x ∷ arms) in
          let rest = stands_at (ap (λ (n : ℕ). b + n) (entry_length bodies fb x.entry))
          (stands-right (entry_code bodies fb x.entry) (arms_code bodies fb arms) g) in
          let here = bears-left ms b c (c + arms_extent arms) (entry_marks x.entry) (arm_marks arms) (arms-between s rec hs c arms h.1)
          (bears-part ms b e b c (arm_marks (x ∷ arms)) (omega arith) (omega arith) bears) in
          let later = bears-right ms c (c + arms_extent arms) b (entry_marks x.entry) (arm_marks arms)
          (entry-between s rec hs b x.blocks x.entry h.0)
          (bears-part ms b e c (c + arms_extent arms) (arm_marks (x ∷ arms)) (omega arith) (omega arith) bears) in
          ⊎_elim
          (λ q. subst (λ (y : Arm). Tells run (target bodies fb y.entry) u (entry_events answers after u y.entry)) (sym q)
          (entry-tells x.entry b x.blocks h.0 falls.0 (stands-left (entry_code bodies fb x.entry) (arms_code bodies fb arms) g)
          here want.0 u))
          (λ n. arms-tell arms c h.1 falls.1 rest later want.1 a n u)
          (Memᴰ.cases_cons m)

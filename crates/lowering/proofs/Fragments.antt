-- A run on an integer in a part of the code whose depths are right goes on within it to its end, and comes to no mark but those of the
-- part.
use Prim.Native.Nat.{ℕ, zero, suc, ◌+◌, ◌-◌, ◌≤◌, ◌<◌}
use mathlib.Core.Path.{◌≡◌, refl, sym, ap, ◌∙◌, subst}
use mathlib.Core.Bool.{Bool, false}
use mathlib.Core.Option.{none, some}
use mathlib.Core.List.{List, [], ◌∷◌, ◌++◌}
use native.Mathlib.Omega.{arith}
use native.Mathlib.Nat.{add-zero}
use lib.ListN.{length, get_or, get_or-append}
use lib.Seq.{get_or-append-add}
use Rattle.bytecode.specs.declared.Op.{Op}
use Rattle.bytecode.specs.Op.{op_words}
use Rattle.lowering.specs.Code.{Ins, Code}
use Rattle.lowering.specs.Program.{Program}
use Rattle.lowering.specs.Image.{words}
use Rattle.lowering.specs.Marks.{Marked, mark_at}
use Rattle.lowering.specs.Words.{instructions, kind_at, a_at}
use Rattle.lowering.specs.Run.{next}
use Rattle.lowering.specs.Guided.{Fed, Event, is_answered, way_at, event_of}
use Rattle.lowering.specs.All.{All}
use Rattle.lowering.proofs.Effect.{after, nexts, Narrow}
use Rattle.lowering.proofs.AllLaws.{all_map}
use Rattle.lowering.proofs.Typed.{Goes, Typed, Agree, Nothing, Sound}
use Rattle.lowering.proofs.Whole.{context_of, WellTyped}
use Rattle.lowering.proofs.Stands.{Stands, stands-within, stands_here}
use Rattle.lowering.proofs.Decode.{no_ins, instructions-are, kind-at, a-at}
use Rattle.lowering.proofs.Tables.{TablesFit}
use Rattle.lowering.proofs.EffectWords.{op_at, next-all}
use Rattle.lowering.proofs.RunsRight.{typed_at, goes-there}
use Rattle.lowering.proofs.Tells.{Tells, Forward, tells-step, cross}
use Rattle.lowering.proofs.MarksAt.{Bears, mark-here, mark-later}

-- the depths of a part, with e behind it
abbrev depth_from : ℕ → Code → ℕ → ℕ
depth_from e [] i = e
depth_from e (x ∷ c) zero = x.depth
depth_from e (x ∷ c) (suc i) = depth_from e c i

depth-end : (e : ℕ) (c : Code) → depth_from e c (length c) ≡ e
depth-end e [] = refl
depth-end e (x ∷ c) = depth-end e c

agree-from : (A : ℕ → ℕ) (e : ℕ) (c : Code) (b : ℕ) → ((i : ℕ) → A (b + i) ≡ depth_from e c i) → Agree A b c
agree-from A e [] b h = tt
agree-from A e (x ∷ c) b h =
    (ap A (sym (add-zero b)) ∙ h 0, agree-from A e c (suc b) (λ i. ap A (omega arith) ∙ h (suc i)))

-- an instruction of a part is one of the whole
stands-each : {w c : Code} {b : ℕ} → Stands w b c → (i : ℕ) → i < length c → get_or w (b + i) no_ins ≡ get_or c i no_ins
stands-each {w} {c} {b} g i h =
    ap (λ (l : Code). get_or l (b + i) no_ins) g.parts
    ∙ ap (λ (n : ℕ). get_or (g.before ++ (c ++ g.behind)) (n + i) no_ins) (sym g.place)
    ∙ get_or-append-add g.before (c ++ g.behind) i no_ins
    ∙ get_or-append c g.behind no_ins i h

-- a step in a part does not pass its end
module _ (r : Program) (T : TablesFit r) {b d e : ℕ} {c : Code} (st : Stands r.code b c) (so : Sound (context_of r) Nothing b d e c) where
  abbrev depths : ℕ → ℕ
  depths q = depth_from e c (q - b)

  depths-are : (i : ℕ) → depths (b + i) ≡ depth_from e c i
  depths-are i = ap (depth_from e c) (omega arith)

  part-typed : Typed (context_of r) depths (b + length c) b c
  part-typed =
      so.typed depths (b + length c) tt (agree-from depths e c b depths-are)
      (depths-are (length c) ∙ depth-end e c) (omega arith)

  offset-within : (i way : ℕ) → i < length c → next (words r) way (b + i) ≤ b + length c
  offset-within i way h =
      let t = typed_at (context_of r) depths (b + length c) b c part-typed i h in
      let x = get_or c i no_ins in
      let l : b + i < length r.code = omega (arith, stands-within st) in
      let op-is : op_at r (b + i) ≡ x.op = ap (λ (y : Ins). y.op) (stands-each st i h) in
      let ends = all_map (Goes depths (b + length c) (b + i) (after (context_of r) x.op x.depth)) (λ q. q ≤ b + length c)
      (nexts (context_of r) x.op (b + i)) (λ q g. g.1) t.2 in
      next-all r T (b + i) l (subst (Narrow (context_of r)) (sym op-is) t.1) (λ q. q ≤ b + length c)
      (subst (λ (op : Op). All (λ q. q ≤ b + length c) (nexts (context_of r) op (b + i))) (sym op-is) ends)
      way

  stays_within : (p way : ℕ) → b ≤ p → p < b + length c → next (words r) way p ≤ b + length c
  stays_within p way l h =
      let at : b + (p - b) ≡ p = omega arith in
      subst (λ (q : ℕ). next (words r) way q ≤ b + length c) at (offset-within (p - b) way (omega arith))

-- the first instruction of a part, read from the words
module _ (r : Program) {b : ℕ} {i : Ins} {c : Code} (st : Stands r.code b (i ∷ c)) where
  stands-lt : b < length r.code
  stands-lt = omega (arith, stands-within st)

  pub stands-runs : b < instructions (words r)
  stands-runs = omega (arith, stands-lt, instructions-are r)

  pub stands-kind : kind_at (words r) b ≡ get_or (op_words i.op) 0 0
  stands-kind = kind-at r b stands-lt ∙ ap (λ (x : Ins). get_or (op_words x.op) 0 0) (stands_here no_ins st)

  pub stands-a : a_at (words r) b ≡ get_or (op_words i.op) 1 0
  stands-a = a-at r b stands-lt ∙ ap (λ (x : Ins). get_or (op_words x.op) 1 0) (stands_here no_ins st)

pub goes-forward : (r : Program) → TablesFit r → WellTyped r → Forward (words r)
goes-forward r T W p way h = (goes-there r T W p (omega (arith, instructions-are r)) way).0

-- what a run of a program's image is fed
abbrev pub fed : Program → List Marked → ℕ → (ℕ → Bool) → (ℕ → ℕ) → Fed
fed r ms x answers free = record { image = words r; marks = ms; integer = x; answers = answers; free = free }

module _ (r : Program) (T : TablesFit r) (W : WellTyped r) (ms : List Marked) (x : ℕ) (answers : ℕ → Bool) (free : ℕ → ℕ) where
  abbrev run : Fed
  run = fed r ms x answers free

  module _ {b d e : ℕ} {c : Code} (st : Stands r.code b c) (so : Sound (context_of r) Nothing b d e c) (u : ℕ) (evs : List Event)
      (behind : Tells run (b + length c) u evs) where
    -- a part without marks adds nothing, from each of its places
    pub cross-part : (q : ℕ) → b ≤ q → q ≤ b + length c → ((p : ℕ) → q ≤ p → p < b + length c → mark_at ms p ≡ none) → Tells run q u evs
    cross-part q l h bare =
        cross run (goes-forward r T W) (b + length c) u evs (omega (arith, stands-within st, instructions-are r)) behind (b + length c) q
        bare
        (λ p way a k. stays_within r T st so p way (omega arith) k) h (omega arith)

    -- a part whose first place alone has a mark
    pub enter-part : (m : Marked) → m.place ≡ b → is_answered (some m.mark) ≡ false → 0 < length c → Bears ms b (b + length c) (m ∷ [])
        → Tells run b u (event_of (some m.mark) ++ evs)
    unfolding mark_at
    enter-part m at a l bears =
        tells-step run (goes-forward r T W) b u false (some m.mark) evs (omega (arith, stands-within st, instructions-are r))
        (bears b (omega arith) (omega arith) ∙ mark-here m [] b at) a
        (λ g h z.
        let lt = goes-forward r T W b (way_at run g) (omega (arith, stands-within st, instructions-are r)) in
        cross-part (next (words r) (way_at run g) b) (omega arith) (stays_within r T st so b (way_at run g) (omega arith) (omega arith))
        (λ p k o. bears p (omega arith) o ∙ mark-later m [] p (λ e. omega arith)))

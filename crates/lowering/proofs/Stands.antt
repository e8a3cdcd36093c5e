-- A part of code that stands at a place of a whole, and what it takes from the whole: its depths, its closedness, its instructions.
use Prim.Native.Nat.{ℕ, suc, ◌+◌, ◌≤◌}
use mathlib.Core.Path.{◌≡◌, refl, sym, ap, ◌∙◌, subst}
use mathlib.Core.List.{[], ◌∷◌, ◌++◌, append_assoc, append-nil}
use native.Mathlib.Omega.{arith}
use native.Mathlib.Nat.{zero-add}
use native.Mathlib.Numerals.{add-one}
use lib.ListN.{length, length-append, get_or}
use lib.Seq.{get_or_at}
use Rattle.lowering.specs.Code.{Ins, Code}
use Rattle.lowering.proofs.Effect.{Context}
use Rattle.lowering.proofs.Typed.{Agree, agree_left, agree_right}
use Rattle.lowering.proofs.Linked.{Closed, closed-left, closed-right}

pub record Stands (whole : Code) (b : ℕ) (part : Code) : Type 0 where
  pub before : Code
  pub behind : Code
  pub parts : whole ≡ before ++ (part ++ behind)
  pub place : length before ≡ b

pub stands-whole : (w : Code) → Stands w 0 w
stands-whole w = record { before = []; behind = []; parts = sym (append-nil w); place = refl }

-- the same place, written otherwise
pub stands_at : {w c : Code} {b b' : ℕ} → b ≡ b' → Stands w b c → Stands w b' c
stands_at h g = record { before = g.before; behind = g.behind; parts = g.parts; place = g.place ∙ h }

-- the two parts of a part
pub stands-left : {w : Code} {b : ℕ} (c c' : Code) → Stands w b (c ++ c') → Stands w b c
stands-left c c' g = record {
  before = g.before;
  behind = c' ++ g.behind;
  parts = g.parts ∙ ap (λ (x : Code). g.before ++ x) (append_assoc c c' g.behind);
  place = g.place;
}

pub stands-right : {w : Code} {b : ℕ} (c c' : Code) → Stands w b (c ++ c') → Stands w (b + length c) c'
stands-right c c' g = record {
  before = g.before ++ c;
  behind = g.behind;
  parts = g.parts ∙ ap (λ (x : Code). g.before ++ x) (append_assoc c c' g.behind) ∙ sym (append_assoc g.before c (c' ++ g.behind));
  place = length-append g.before c ∙ ap (λ (n : ℕ). n + length c) g.place;
}

-- what stands behind a part that stands
pub stands-next : {w c c' : Code} {b : ℕ} → Stands w b c → Stands w b (c ++ c') → Stands w (b + length c) c'
stands-next {c = c} {c' = c'} g h = stands-right c c' h

-- the first instruction of a part, and the rest
pub stands-first : {w c : Code} {b : ℕ} {i : Ins} → Stands w b (i ∷ c) → Stands w b (i ∷ [])
stands-first {c = c} {i = i} g = stands-left (i ∷ []) c g

pub stands-rest : {w c : Code} {b : ℕ} {i : Ins} → Stands w b (i ∷ c) → Stands w (suc b) c
stands-rest {c = c} {b = b} {i = i} g = stands_at (add-one b) (stands-right (i ∷ []) c g)

-- a part lies within the whole
pub stands-within : {w c : Code} {b : ℕ} → Stands w b c → b + length c ≤ length w
stands-within {w} {c} {b} g =
    let e : length w ≡ length g.before + (length c + length g.behind) =
    ap length g.parts
    ∙ length-append g.before (c ++ g.behind)
    ∙ ap (λ (n : ℕ). length g.before + n) (length-append c g.behind) in
    let h = g.place in
    omega arith

-- the instruction at a place
pub stands_here : {w c : Code} {b : ℕ} {i : Ins} (d : Ins) → Stands w b (i ∷ c) → get_or w b d ≡ i
stands_here {w} {c} {b} {i} d g = ap (λ (l : Code). get_or l b d) g.parts ∙ get_or_at g.before i (c ++ g.behind) d b g.place

-- depths of the whole are depths of the part
pub agree-part : {w c : Code} {b : ℕ} (A : ℕ → ℕ) → Stands w b c → Agree A 0 w → Agree A b c
agree-part {w} {c} {b} A g h =
    let h' = agree_right A 0 g.before (c ++ g.behind) (subst (Agree A 0) g.parts h) in
    agree_left A b c g.behind (subst (λ (n : ℕ). Agree A n (c ++ g.behind)) (zero-add (length g.before) ∙ g.place) h')

-- a set of places that the whole is closed under is one that the part is closed under
pub closed-part : {w c : Code} {b : ℕ} (X : Context) (R : ℕ → Type 0) → Stands w b c → Closed X R 0 w → Closed X R b c
closed-part {w} {c} {b} X R g h =
    let h' = closed-right X R 0 g.before (c ++ g.behind) (subst (Closed X R 0) g.parts h) in
    closed-left X R b c g.behind (subst (λ (n : ℕ). Closed X R n (c ++ g.behind)) (zero-add (length g.before) ∙ g.place) h')

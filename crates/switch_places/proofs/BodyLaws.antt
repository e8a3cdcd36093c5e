-- Laws of the loop over the bodies: the places of those passed are there, and those left stand from the sum on.
use Prim.Native.Nat.{ℕ, zero, suc, ◌+◌, ◌-◌, ◌≤◌, ◌<◌, min}
use mathlib.Core.Path.{◌≡◌, refl, sym, ap, ap₂, ◌∙◌}
use mathlib.Core.Bool.{Bool, true, false}
use mathlib.Core.List.{List, [], ◌∷◌}
use native.Mathlib.Omega.{arith}
use native.Mathlib.Nat.{sub-zero}
use native.Mathlib.Numerals.{add-one}
use lib.Dec.{eqb}
use lib.ListN.{length, set}
use lib.Seq.{get_or-set_same, get_or-set_other}
use borrow.Author.Tests.{eq-eqb, ne_eqb}
use Rattle.sheet.specs.Limits.{max_entries}
use Rattle.sheet.specs.Node.{next}
use Rattle.lowering.specs.SwitchSheet.{body_of}
use Rattle.expr_count.specs.declared.tallies.Tally.{Tally}
use Rattle.expr_count.specs.Limits.{cap}
use Rattle.expr_count.specs.Tally.{instructions, nothing, plus, capped}
use Rattle.expr_count.proofs.TallyLaws.{tally-path, plus-nothing, capped_left}
use Rattle.expr_count.proofs.CodeLaws.{capped-more}
use Rattle.expr_count.specs.Count.{Rec}
use Rattle.switch_count.specs.Bodies.{bodies_from, bodies_tally}
use Rattle.switch_count.specs.Place.{body_from}
use Rattle.switch_tables.specs.Columns.{size, guard_node_at, wanted_at, body_at, dispatch_at, cell, Within}
use Rattle.switch_tables.specs.Table.{GuardsBy}
use Rattle.switch_tables.specs.Planned.{want_in, wanted_by}
use Rattle.switch_tables.proofs.ColumnLaws.{within_none, within-then, within-put}
use Rattle.switch_tables.proofs.NodesLaws.{body-at}
use Rattle.switch_places.specs.Laid.{BodiesLaid}
use Rattle.switch_places.specs.Body.{place_if, body_if}
use Rattle.switch_places.proofs.GuardLaws.{one_more, Small, cut_small}

-- ---- sums that are small are not cut off

pub capped-none : (a : Tally) → Small a → a ≡ capped (plus a nothing)
unfolding capped
capped-none a h = tally-path (omega (arith, h.0)) (omega (arith, h.1)) refl ∙ ap capped (sym (plus-nothing a))

-- ---- one body

-- what is left of it: the table and the sum
abbrev pub Bodied : List ℕ → Rec → List ℕ → ℕ → Tally → List ℕ → Tally → Type 0
Bodied s tal w k b v r =
    (b.len ≤ cap → v ≡ set w (body_at + k) (place_if (want_in w k) b.len))
    × (b.len ≤ cap → b.emitted ≤ cap → r ≡ capped (plus b (body_if tal (next s (cell w (guard_node_at + k))) (want_in w k))))

pub body-yes : (s : List ℕ) (tal : Rec) (w v : List ℕ) (k x p g j : ℕ) (b t i u r : Tally) → x ≡ cell w (wanted_at + k) → x ≡ 1
    → (b.len ≤ cap → p ≡ b.len)
    → v ≡ set w (body_at + k) p → g ≡ cell v (guard_node_at + k) → j ≡ next s g → t ≡ capped (tal j) → i ≡ instructions 1
    → u ≡ capped (plus t i) → r ≡ capped (plus b u) → Bodied s tal w k b v r
unfolding place_if body_if
body-yes s tal w v k x p g j b t i u r x-is one p-is e g-is j-is t-is i-is u-is r-is =
    let at : g ≡ cell w (guard_node_at + k) =
    (rw e at g-is) ∙ get_or-set_other w (body_at + k) (guard_node_at + k) p 0 (λ (f : guard_node_at + k ≡ body_at + k). omega arith) in
    let node : j ≡ next s (cell w (guard_node_at + k)) = j-is ∙ ap (next s) at in
    rw (eq-eqb (cell w (wanted_at + k)) 1 (sym x-is ∙ one)) (
      λ l. e ∙ ap (set w (body_at + k)) (p-is l),
      λ l m. rw (sym node) (r-is ∙ ap (λ (z : Tally). capped (plus b z))
          (u-is ∙ ap₂ (λ (y z : Tally). capped (plus y z)) t-is i-is ∙ capped_left (tal j) (instructions 1))),
    )

pub body-no : (s : List ℕ) (tal : Rec) (w v : List ℕ) (k x : ℕ) (b : Tally) → x ≡ cell w (wanted_at + k) → (x ≡ 1 → ⊥)
    → v ≡ set w (body_at + k) 0
    → Bodied s tal w k b v b
unfolding place_if body_if
body-no s tal w v k x b x-is off e =
    rw (ne_eqb (cell w (wanted_at + k)) 1 (λ f. off (x-is ∙ f))) (λ l. e, λ l m. capped-none b (l, m))

-- ---- where a body stands

module _ (s : List ℕ) (t : Rec) (ls : List (List ℕ)) (def : ℕ) where
  -- a start that is cut off
  from-cap : (i a b : ℕ) (l : List ℕ) → min a cap ≡ min b cap → min (body_from s t i a l) cap ≡ min (body_from s t i b l) cap
  unfolding body_from
  from-cap i a b [] e = refl
  from-cap i a b (j ∷ js) e =
      by (eqb i j) refl (from-cap i (a + (t (body_of s j)).len + 1) (b + (t (body_of s j)).len + 1) js (omega (arith, e)))
    where
      by : (x : Bool) → eqb i j ≡ x
          → min (body_from s t i (a + (t (body_of s j)).len + 1) js) cap ≡ min (body_from s t i (b + (t (body_of s j)).len + 1) js) cap
          → min (body_from s t i a (j ∷ js)) cap ≡ min (body_from s t i b (j ∷ js)) cap
      by true h r = rw (h, body_from) e
      by false h r = rw (h, body_from) r

  -- blocks from k on have no place for one before
  before : (i b m k : ℕ) → i < k → body_from s t i b (bodies_from s ls def m k) ≡ 0
  unfolding bodies_from body_from
  before i b zero k h = refl
  before i b (suc m) k h = by (wanted_by s def ls k) refl (λ c. before i c m (suc k) (omega arith))
    where
      by : (x : Bool) → wanted_by s def ls k ≡ x → ((c : ℕ) → body_from s t i c (bodies_from s ls def m (suc k)) ≡ 0)
          → body_from s t i b (bodies_from s ls def (suc m) k) ≡ 0
      by true e r = rw (e, bodies_from, ne_eqb i k (λ q. omega (arith, q, h)), body_from) (r (b + (t (body_of s k)).len + 1))
      by false e r = rw (e, bodies_from) (r b)

  -- block k is wanted or not: its place, what is left behind it, and the sum
  module _ (m k : ℕ) (a : Tally) where
    abbrev rest : List ℕ
    rest = bodies_from s ls def m (suc k)

    here : (x : Bool) → wanted_by s def ls k ≡ x → a.len ≤ cap
        → place_if x a.len ≡ min (body_from s t k a.len (bodies_from s ls def (suc m) k)) cap
    unfolding place_if bodies_from body_from
    here true e l = rw (e, bodies_from, eq-eqb k k refl, body_from) (omega (arith, l))
    here false e l = rw (e, bodies_from) (ap (λ (y : ℕ). min y cap) (sym (before k a.len m (suc k) (omega arith))))

    left-on : (x : Bool) → wanted_by s def ls k ≡ x → (i : ℕ) → k < i
        → min (body_from s t i (capped (plus a (body_if t (body_of s k) x))).len rest) cap
        ≡ min (body_from s t i a.len (bodies_from s ls def (suc m) k)) cap
    unfolding body_if capped plus nothing instructions bodies_from body_from
    left-on true e i h =
        rw (e, bodies_from, ne_eqb i k (λ q. omega (arith, q, h)), body_from)
        (from-cap i (capped (plus a (body_if t (body_of s k) true))).len (a.len + (t (body_of s k)).len + 1) rest (omega arith))
    left-on false e i h =
        rw (e, bodies_from) (from-cap i (capped (plus a (body_if t (body_of s k) false))).len a.len rest (omega arith))

    sum-on : (x : Bool) → wanted_by s def ls k ≡ x
        → capped (plus (capped (plus a (body_if t (body_of s k) x))) (bodies_tally s t rest))
        ≡ capped (plus a (bodies_tally s t (bodies_from s ls def (suc m) k)))
    unfolding bodies_tally bodies_from body_if
    sum-on true e = rw (e, bodies_from) (capped-more a (plus (t (body_of s k)) (instructions 1)) (bodies_tally s t rest))
    sum-on false e =
        rw (e, bodies_from)
        (capped_left (plus a nothing) (bodies_tally s t rest) ∙ ap (λ x. capped (plus x (bodies_tally s t rest))) (plus-nothing a))

-- ---- the loop

-- where the body of block i stands, of n behind b, and what all of them add
abbrev spot : List ℕ → Rec → List (List ℕ) → ℕ → ℕ → ℕ → ℕ → ℕ → ℕ
spot s t ls def n k b i = min (body_from s t i b (bodies_from s ls def n k)) cap

abbrev all : List ℕ → Rec → List (List ℕ) → ℕ → ℕ → ℕ → Tally → Tally
all s t ls def n k b = capped (plus b (bodies_tally s t (bodies_from s ls def n k)))

-- blocks below k are passed, and the sum is where the next body stands
pub record Placing (s : List ℕ) (t : Rec) (ls : List (List ℕ)) (def n : ℕ) (b : Tally) (w₀ w : List ℕ) (sum : Tally) (k : ℕ) : Type 0 where
  pub within : Within body_at dispatch_at w₀ w
  pub small : Small sum
  pub placed : (i : ℕ) → i < k → cell w (body_at + i) ≡ spot s t ls def n 0 b.len i
  pub left : (i : ℕ) → k ≤ i → spot s t ls def (n - k) k sum.len i ≡ spot s t ls def n 0 b.len i
  pub sums : all s t ls def (n - k) k sum ≡ all s t ls def n 0 b

module _ {s : List ℕ} {t : Rec} {ls : List (List ℕ)} {def n : ℕ} {b : Tally} where
  pub placing-start : (w : List ℕ) → b.len ≤ cap → b.emitted ≤ cap → Placing s t ls def n b w w b 0
  placing-start w l m = record {
    within = within_none body_at dispatch_at w;
    small = (l, m);
    placed = λ i h. absurd (omega arith);
    left = λ i h. ap (λ x. spot s t ls def x 0 b.len i) (sub-zero n);
    sums = ap (λ x. all s t ls def x 0 b) (sub-zero n);
  }

  pub placing-on : {w₀ w v : List ℕ} {sum r : Tally} {k : ℕ} → Placing s t ls def n b w₀ w sum k → length w ≡ size → k < n → n ≤ max_entries
      → GuardsBy s t w₀ n → ((i : ℕ) → i < n → want_in w₀ i ≡ wanted_by s def ls i) → Bodied s t w k sum v r
      → Placing s t ls def n b w₀ v r (k + 1)
  placing-on {w₀} {w} {v} {sum} {r} {k} c z h few guards wants d =
      let x = wanted_by s def ls k in
      let m = n - suc k in
      let p = place_if x sum.len in
      let one : n - k ≡ suc m = omega arith in
      let want_is : want_in w k ≡ x = ap (λ y. eqb y 1) (c.within.low (wanted_at + k) (omega arith)) ∙ wants k h in
      let node-is : next s (cell w (guard_node_at + k)) ≡ body_of s k =
      ap (next s) (c.within.low (guard_node_at + k) (omega arith) ∙ guards.node k h) ∙ body-at s k in
      let v-is : v ≡ set w (body_at + k) p = d.0 c.small.0 ∙ ap (λ (y : Bool). set w (body_at + k) (place_if y sum.len)) want_is in
      let r-is : r ≡ capped (plus sum (body_if t (body_of s k) x)) =
      d.1 c.small.0 c.small.1 ∙ ap₂ (λ (y : ℕ) (yes : Bool). capped (plus sum (body_if t y yes))) node-is want_is in
      rw (v-is, r-is) (record {
        within = within-then c.within (within-put body_at dispatch_at w (body_at + k) p (omega arith) (omega (arith, h, few)));
        small = cut_small (plus sum (body_if t (body_of s k) x)) refl;
        placed = one_more (λ i. cell (set w (body_at + k) p) (body_at + i) ≡ spot s t ls def n 0 b.len i) k
            (λ i l. get_or-set_other w (body_at + k) (body_at + i) p 0 (λ e. omega arith) ∙ c.placed i l)
            (get_or-set_same w (body_at + k) p 0 (omega (arith, z, h, few))
            ∙ here s t ls def m k sum x refl c.small.0
            ∙ (rw one at (c.left k (omega arith))));
        left = λ i l. rw (add-one k) (left-on s t ls def m k sum x refl i (omega arith) ∙ (rw one at (c.left i (omega arith))));
        sums = rw (add-one k) (sum-on s t ls def m k sum x refl ∙ (rw one at c.sums));
      })

  pub placing-end : {w₀ w : List ℕ} {sum : Tally} {k : ℕ} → Placing s t ls def n b w₀ w sum k → n ≤ k
      → BodiesLaid s t ls def n b w sum × Within body_at dispatch_at w₀ w
  unfolding bodies_from bodies_tally
  placing-end {sum = sum} {k} c h =
      let none : n - k ≡ 0 = omega arith in
      (record { sum = capped-none sum c.small ∙ (rw none at c.sums); places = λ i l. c.placed i (omega arith) }, c.within)

-- The blocks of a sheet whose numbers exist, and the bodies that a switch therefore has: of each block that an arm names, and of the
-- default.
use Prim.Native.Nat.{ℕ, suc, ◌≤◌, ◌<◌}
use mathlib.Core.Path.{◌≡◌, sym, subst}
use mathlib.Core.Logic.{⊎_elim}
use mathlib.Core.List.Memᴰ
use mathlib.Core.List.{List, [], ◌∷◌, ◌++◌, map, Memᴰ}
use native.Mathlib.Omega.{arith}
use lib.Dec.{eqb}
use borrow.Author.Tests.{eq-eqb}
use Rattle.laws.proofs.Bool.{or_left, or_right}
use Rattle.bytecode.specs.declared.Chain.{Chain}
use Rattle.switch_split.specs.Range.{Range}
use Rattle.switch_split.specs.Points.{points}
use Rattle.switch_split.proofs.PointsLaws.{All}
use Rattle.switch_split.specs.Split as Split
use Rattle.switch_split.specs.Split.{split}
use Rattle.switch_split.proofs.SplitLaws.{Good, Every, split_good}
use Rattle.lowering.specs.Out.{Rec}
use Rattle.lowering.specs.SwitchSheet.{block_count, default_block, cases_of, case_blocks, ranges_of}
use Rattle.lowering.specs.Arms.{Arm}
use Rattle.lowering.specs.Bodies.{wanted}
use Rattle.lowering.specs.SwitchLaid.{SwitchLaid}
use Rattle.lowering.proofs.SwitchEntries.{distinct-only}
use Rattle.lowering.proofs.SwitchParts.{HasBody, LaidOut}
use Rattle.lowering.proofs.SwitchNames.{ArmNames, named-wanted, arm-names, wanted-left, wanted-right}

-- every block that the sheet names exists
pub record Blocks (s : List ℕ) : Type 0 where
  pub default-exists : default_block s ≤ block_count s
  pub cases-exist : (c : ℕ) → Memᴰ c (cases_of s) → (k : ℕ) → Memᴰ k (case_blocks s c) → k < block_count s
  pub ranges-exist : (r : Range) → Memᴰ r (ranges_of s) → r.block < block_count s

-- ---- the blocks of split ranges are blocks of ranges

points-any : (rs : List Range) → All (λ (n : ℕ). Prim.Unit {0}) (points rs)
unfolding points
points-any [] = tt
points-any (r ∷ rs) = (tt, (tt, points-any rs))

every-at : (Q : Split.Entry → Type 0) (es : List Split.Entry) → Every Q es → (e : Split.Entry) → Memᴰ e es → Q e
every-at Q [] h e m = absurd (Memᴰ.not-nil m)
every-at Q (x ∷ es) h e m = ⊎_elim (λ q. subst Q (sym q) h.0) (every-at Q es h.1 e) (Memᴰ.cases_cons m)

pub split-blocks : (P : ℕ → Type 0) (rs : List Range) → ((r : Range) → Memᴰ r rs → P r.block) → (e : Split.Entry)
    → Memᴰ e (split rs) → (k : ℕ) → Memᴰ k e.blocks → P k
split-blocks P rs f e m k n =
    let g = every-at (Good (λ (i : ℕ). Prim.Unit {0}) rs) (split rs) (split_good (λ (i : ℕ). Prim.Unit {0}) rs (points-any rs)) e m in
    let r = Memᴰ.of_map (λ (x : Range). x.block) rs (g.known k n) in
    subst P r.2 (f r.0 r.1)

module _ (s : List ℕ) (rec : Rec) (hs : List Chain) (l : SwitchLaid) (L : LaidOut s rec hs l) (B : Blocks s) where
  -- the blocks of an arm exist
  case-arm-blocks : (a : Arm) → Memᴰ a l.case_arms → (k : ℕ) → Memᴰ k a.blocks → k < block_count s
  case-arm-blocks a m k n =
      let row = Memᴰ.of_map (case_blocks s) (cases_of s)
      (distinct-only (map (case_blocks s) (cases_of s)) a.blocks
      (subst (Memᴰ a.blocks) L.case-lists (Memᴰ.map (λ (x : Arm). x.blocks) m))) in
      B.cases-exist row.0 row.1 k (subst (Memᴰ k) (sym row.2) n)

  range-arm-blocks : (a : Arm) → Memᴰ a l.range_arms → (k : ℕ) → Memᴰ k a.blocks → k < block_count s
  range-arm-blocks a m k n =
      let row = Memᴰ.of_map (λ (e : Split.Entry). e.blocks) l.splits
      (distinct-only (map (λ (e : Split.Entry). e.blocks) l.splits) a.blocks
      (subst (Memᴰ a.blocks) L.range-lists (Memᴰ.map (λ (x : Arm). x.blocks) m))) in
      split-blocks (λ (i : ℕ). i < block_count s) (ranges_of s) B.ranges-exist row.0
      (subst (Memᴰ row.0) L.splits-are row.1) k (subst (Memᴰ k) (sym row.2) n)

  -- a block that an arm names exists
  pub case-named : ArmNames (λ (k : ℕ). k < block_count s) l.case_arms
  case-named = arm-names (λ (k : ℕ). k < block_count s) s rec hs _ l.case_arms L.case-arms case-arm-blocks

  pub range-named : ArmNames (λ (k : ℕ). k < block_count s) l.range_arms
  range-named = arm-names (λ (k : ℕ). k < block_count s) s rec hs _ l.range_arms L.range-arms range-arm-blocks

  -- and has a body
  pub case-names : ArmNames (λ (k : ℕ). HasBody k l.bodies) l.case_arms
  case-names =
      named-wanted (λ (k : ℕ). k < block_count s) (λ (k : ℕ). HasBody k l.bodies) l.case_arms case-named
      (λ k h lt. L.body_has k lt
      (or_right (eqb (default_block s) (suc k)) (wanted k (l.case_arms ++ l.range_arms)) (wanted-left k l.case_arms l.range_arms h)))

  pub range-names : ArmNames (λ (k : ℕ). HasBody k l.bodies) l.range_arms
  range-names =
      named-wanted (λ (k : ℕ). k < block_count s) (λ (k : ℕ). HasBody k l.bodies) l.range_arms range-named
      (λ k h lt. L.body_has k lt (or_right (eqb (default_block s) (suc k)) (wanted k (l.case_arms ++ l.range_arms))
      (wanted-right k l.case_arms l.range_arms h)))

  -- so has the default
  pub default-has : (k : ℕ) → default_block s ≡ suc k → HasBody k l.bodies
  default-has k h =
      let le = B.default-exists in
      L.body_has k (omega arith)
      (or_left (eqb (default_block s) (suc k)) (wanted k (l.case_arms ++ l.range_arms)) (eq-eqb (default_block s) (suc k) h))

-- The program of a switch is listed right: its code and pools by what its parts give, its tables by where the targets are shown to lie.
use Prim.Native.Nat.{ℕ, ◌≤◌}
use mathlib.Core.Path.{◌≡◌, refl, subst}
use mathlib.Core.Bool.{Bool, true, false}
use mathlib.Core.List.{List, [], ◌∷◌, Memᴰ}
use native.Mathlib.Omega.{arith}
use borrow.Author.Tests.{eqb-true}
use lib.Dec.{eqb}
use lib.ListN.{length}
use Rattle.sheet.specs.Node.{kind, count, field_a, field_b, child}
use Rattle.sheet.specs.Walk.{skip}
use Rattle.check_shape.specs.Kinds.{bound, case_value}
use Rattle.check_numbers.specs.Numbers.{numbers_ok}
use Rattle.switch_split.specs.Split as Split
use Rattle.lowering.specs.Kinds.{switch_kind}
use Rattle.lowering.specs.Code.{Code}
use Rattle.lowering.specs.Pools.{Pools, emits, const_of, push_const}
use Rattle.lowering.specs.Out.{Rec}
use Rattle.lowering.specs.Nodes.{Right}
use Rattle.lowering.proofs.NodesLaws.{node-bounds, child-valid, subject-valid, guard-valid, body-valid}
use Rattle.lowering.specs.SwitchSheet.{default_block, cases_of, case_blocks}
use Rattle.lowering.specs.SwitchLaid.{SwitchLaid, layout}
use Rattle.lowering.specs.SwitchCode.{default_at, fallback_at, switch_code, last_emits}
use Rattle.lowering.specs.SwitchTables.{one_if, entry_of, target, case_pools, case_rows, range_rows, case_table, range_table}
use Rattle.lowering.specs.Switch.{switch_of, switch}
use Rattle.lowering.proofs.Effect.{Context}
use Rattle.lowering.proofs.Whole.{context_of, depth_at}
use Rattle.lowering.proofs.Meets.{Meets}
use Rattle.lowering.proofs.SwitchBlocks.{Blocks}
use Rattle.lowering.proofs.SwitchChecked.{child-kind, case-node, value-kind}
use Rattle.lowering.proofs.SwitchTargets.{case_target}
use Rattle.lowering.proofs.SwitchTyped.{Within, Ready, switch-ready, depths-agree, default-aim, fallback-aim, case-aim, range-aim}
use Rattle.image_made.proofs.Listed.{ConstOk, TableOk, CaseOk, RangeOk, AllIn, PoolsOk, Listed}
use Rattle.image_made.proofs.Gives.{GivesAll, gives-behind}
use Rattle.image_made.proofs.GivesPools.{const-pushed, const-there}
use Rattle.image_made.proofs.GivesSwitch.{switch-gives, case-pools-give}
use Rattle.image_made.proofs.Facts.{const-at}

-- ---- the value of a Case is a constant

-- constants have the kinds 3 to 6
value-bounds : (k : ℕ) → case_value k ≡ true → (3 ≤ k) × (k ≤ 6)
unfolding case_value
value-bounds k h = by (eqb k 3) (eqb k 5) refl refl
  where
    by : (a b : Bool) → eqb k 3 ≡ a → eqb k 5 ≡ b → (3 ≤ k) × (k ≤ 6)
    by true b e f = omega (arith, eqb-true k 3 e)
    by false true e f = omega (arith, eqb-true k 5 f)
    by false false e f = omega (arith, eqb-true k 6 (rw (e, f) at h))

-- each Case of a checked switch
case-value : (s : List ℕ) (C : Right s) (M : numbers_ok s ≡ true) → kind s 0 ≡ switch_kind → (c : ℕ) → Memᴰ c (cases_of s)
    → ConstOk s (const_of s (child c))
unfolding bound skip
case-value s C M e c m =
    let n = case-node s C M e c m in
    let one = subst (λ (k : ℕ). bound k 0 ≤ count s c) n.1 (node-bounds s C c n.0).1 in
    let v = value-kind (kind s c) (field_a s c) (field_b s c) (kind s (child c)) n.1 (child-kind s C c n.0 0 (omega arith)) in
    let b = value-bounds (kind s (child c)) v in
    const-at s C M (child c) (child-valid s C c n.0 (omega arith)) (kind s (child c)) refl b.0 b.1

-- ---- rows

-- rows of Cases, of ranges, and the table of ranges
case-rows-ok : (s : List ℕ) (l : SwitchLaid) (fallback N : ℕ)
    → ((c : ℕ) → target l.bodies fallback (entry_of (case_blocks s c) l.case_arms) ≤ N)
    → (cs : List ℕ) (p : Pools) → ((c : ℕ) → Memᴰ c cs → ConstOk s (const_of s (child c))) → PoolsOk s p
    → AllIn (CaseOk N (length (case_pools s cs p).consts)) (case_rows s l fallback cs p)
unfolding case_rows case_pools
case-rows-ok s l fallback N to [] p v G = tt
case-rows-ok s l fallback N to (c ∷ cs) p v G =
    let x = const_of s (child c) in
    let ok = v c (Memᴰ.head refl) in
    let q = push_const s x p in
    let good = (const-pushed s 0 p G x ok).good in
    let rest : (d : ℕ) → Memᴰ d cs → ConstOk s (const_of s (child d)) = λ d m. v d (Memᴰ.tail m) in
    let there = const-there s 0 p G x ok in
    let more = (case-pools-give s 0 cs q rest good).more.consts in
    ((to c, omega arith), case-rows-ok s l fallback N to cs q rest good)

flag_small : (b : Bool) → one_if b ≤ 1
flag_small true = omega arith
flag_small false = omega arith

range-rows-ok : (l : SwitchLaid) (fallback N : ℕ)
    → ((e : Split.Entry) → target l.bodies fallback (entry_of e.blocks l.range_arms) ≤ N)
    → (es : List Split.Entry) → AllIn (RangeOk N) (range_rows l fallback es)
unfolding range_rows
range-rows-ok l fallback N to [] = tt
range-rows-ok l fallback N to (e ∷ es) = ((flag_small e.inclusive, to e), range-rows-ok l fallback N to es)

range-table-ok : (fallback N : ℕ) → fallback ≤ N → (es : List Split.Entry) → AllIn (TableOk N) (range_table fallback es)
unfolding range_table
range-table-ok fallback N h [] = tt
range-table-ok fallback N h (e ∷ es) = ((omega arith, h), tt)

-- ---- the whole

-- with as many tables as the switch has
abbrev pub tables_of : List ℕ → Rec → ℕ
tables_of s rec = length (switch s rec).switches

module _ (s : List ℕ) (C : Right s) (M : numbers_ok s ≡ true) (e : kind s 0 ≡ switch_kind) (B : Blocks s) (rec : Rec) (meets : Meets rec)
    (L : GivesAll s (tables_of s rec) rec) where
  abbrev l : SwitchLaid
  l = layout s rec

  abbrev def : ℕ
  def = default_block s

  abbrev code : Code
  code = switch_code def l

  abbrev X : Context
  X = context_of (switch s rec)

  -- targets are places of the code, or its end
  ready : Ready s rec def X l
  ready = switch-ready s rec meets B

  inside : Within code (depth_at code) (length code)
  inside = (depths-agree code, omega arith)

  to_default : default_at def l ≤ length code
  to_default = (default-aim s rec meets def X l ready (depth_at code) (length code) inside).1

  to-fallback : fallback_at def l.splits l ≤ length code
  to-fallback = (fallback-aim s rec meets def X l ready (depth_at code) (length code) inside).1

  to-case : (c : ℕ) → case_target s def l c ≤ length code
  to-case c = (case-aim s rec meets def X l ready (depth_at code) (length code) inside c).1

  -- the rows of ranges go inside
  ranges-ok : (es : List Split.Entry) → l.splits ≡ es → AllIn (RangeOk (length code)) (range_rows l (default_at def l) es)
  unfolding range_rows
  ranges-ok [] q = tt
  ranges-ok (x ∷ es) q =
      range-rows-ok l (default_at def l) (length code)
      (λ y. (range-aim s rec meets def X l ready (depth_at code) (length code) inside x es q y).1) (x ∷ es)

  -- the program of the switch
  pub switch-listed : Listed s (switch s rec)
  unfolding switch switch_of case_table
  switch-listed =
      let T = tables_of s rec in
      let cs = cases_of s in
      let p = emits (last_emits def) l.pools in
      let v = case-value s C M e in
      let g = switch-gives s T rec L B (subject-valid s C e) (guard-valid s C e) (body-valid s C e) def (omega arith) in
      let all = gives-behind g (case-pools-give s T cs p v g.good) in
      record {
        code = all.code;
        pools = all.good;
        tables = ((omega arith, to-fallback), range-table-ok (default_at def l) (length code) to_default l.splits);
        cases = case-rows-ok s l (fallback_at def l.splits l) (length code) to-case cs p v g.good;
        ranges = ranges-ok l.splits refl;
      }

-- The targets of a switch's tables: where the entry of each row's list goes, then the default.
use Prim.Native.Nat.{ℕ}
use mathlib.Core.Path.{◌≡◌, refl, sym, ap, ◌∙◌}
use mathlib.Core.List.{List, [], ◌∷◌, ◌++◌, map}
use lib.ListN.{length, take, get_or}
use lib.Seq.{take-length}
use Rattle.bytecode.specs.declared.Switch.{Switch}
use Rattle.bytecode.specs.declared.SwitchCase.{SwitchCase}
use Rattle.bytecode.specs.declared.SwitchRange.{SwitchRange}
use Rattle.switch_split.specs.Split as Split
use Rattle.lowering.specs.Pools.{Pools, emits, const_of, push_const}
use Rattle.lowering.specs.SwitchSheet.{cases_of, case_blocks}
use Rattle.lowering.specs.SwitchLaid.{SwitchLaid}
use Rattle.lowering.specs.SwitchCode.{default_at, fallback_at, last_emits}
use Rattle.lowering.specs.SwitchTables.{entry_of, target, case_rows, range_rows, case_table, range_table}
use Rattle.lowering.specs.Switch.{switch_of}
use Rattle.sheet.specs.Node.{child}
use Rattle.lowering.proofs.RowCounts.{case-rows-length, range-rows-length}
use Rattle.lowering.proofs.Whole.{no_switch, row_targets, targets_of}

-- where Case c goes, and where split range e goes
abbrev pub case_target : List ℕ → ℕ → SwitchLaid → ℕ → ℕ
case_target s def l c = target l.bodies (fallback_at def l.splits l) (entry_of (case_blocks s c) l.case_arms)

abbrev pub range_target : ℕ → SwitchLaid → Split.Entry → ℕ
range_target def l e = target l.bodies (default_at def l) (entry_of e.blocks l.range_arms)

module _ (s : List ℕ) (l : SwitchLaid) (fb : ℕ) where
  case-rows : (cs : List ℕ) (p : Pools)
      → map (λ (c : SwitchCase). c.target) (case_rows s l fb cs p)
      ≡ map (λ (c : ℕ). target l.bodies fb (entry_of (case_blocks s c) l.case_arms)) cs
  unfolding case_rows
  case-rows [] p = refl
  case-rows (c ∷ cs) p =
      ap (λ (x : List ℕ). target l.bodies fb (entry_of (case_blocks s c) l.case_arms) ∷ x)
      (case-rows cs (push_const s (const_of s (child c)) p))

  range-rows : (es : List Split.Entry)
      → map (λ (c : SwitchRange). c.target) (range_rows l fb es)
      ≡ map (λ (e : Split.Entry). target l.bodies fb (entry_of e.blocks l.range_arms)) es
  unfolding range_rows
  range-rows [] = refl
  range-rows (e ∷ es) = ap (λ (x : List ℕ). target l.bodies fb (entry_of e.blocks l.range_arms) ∷ x) (range-rows es)

pub case-targets : (s : List ℕ) (def : ℕ) (l : SwitchLaid)
    → targets_of (switch_of s def l) 0 ≡ map (case_target s def l) (cases_of s) ++ (fallback_at def l.splits l ∷ [])
unfolding targets_of row_targets switch_of case_table
case-targets s def l =
    let fb = fallback_at def l.splits l in
    let rows = case_rows s l fb (cases_of s) (emits (last_emits def) l.pools) in
    let n : length rows ≡ length (cases_of s) = case-rows-length s l fb (cases_of s) (emits (last_emits def) l.pools) in
    let all : take (length (cases_of s)) rows ≡ rows = ap (λ (k : ℕ). take k rows) (sym n) ∙ take-length rows in
    ap (λ (x : List ℕ). x ++ (fb ∷ []))
    (ap (λ (x : List SwitchCase). map (λ (c : SwitchCase). c.target) x) all
    ∙ case-rows s l fb (cases_of s) (emits (last_emits def) l.pools))

-- the second table
abbrev second_table : ℕ → List Split.Entry → Switch
second_table fb es = record { ranged = 1; first = 0; rows = length es; default = fb }

second_is : (fb : ℕ) (es' : List Split.Entry) (e : Split.Entry) (es : List Split.Entry) → es' ≡ e ∷ es
    → get_or (range_table fb es') 0 no_switch ≡ second_table fb es'
unfolding range_table
second_is fb es' e es q = rw q

pub range-targets : (s : List ℕ) (def : ℕ) (l : SwitchLaid) (e : Split.Entry) (es : List Split.Entry) → l.splits ≡ e ∷ es
    → targets_of (switch_of s def l) 1 ≡ map (range_target def l) l.splits ++ (default_at def l ∷ [])
unfolding targets_of row_targets switch_of
range-targets s def l e es q =
    let fb = default_at def l in
    let rows = range_rows l fb l.splits in
    let n : length rows ≡ length l.splits = range-rows-length l fb l.splits in
    let all : take (length l.splits) rows ≡ rows = ap (λ (k : ℕ). take k rows) (sym n) ∙ take-length rows in
    ap (λ (t : Switch). row_targets (switch_of s def l) t ++ (t.default ∷ [])) (second_is fb l.splits e es q)
    ∙ ap (λ (x : List ℕ). x ++ (fb ∷ []))
    (ap (λ (x : List SwitchRange). map (λ (c : SwitchRange). c.target) x) all ∙ range-rows s l fb l.splits)

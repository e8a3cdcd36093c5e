-- Where the two Switches of a switch go for an integer: to the target of the first Case that is this Int, of the first split range that
-- contains it, or to the fallback.
use Prim.Native.Nat.{ℕ, zero, suc, ◌+◌, ◌<◌, ◌^◌}
use mathlib.Core.Path.{◌≡◌, refl, sym, ap, ap₂, ◌∙◌}
use mathlib.Core.Bool.{Bool, true, false, ◌&&◌}
use mathlib.Core.List.{List, [], ◌∷◌, ◌++◌, map}
use native.Mathlib.Omega.{arith}
use native.Mathlib.Nat.{zero-add}
use lib.Dec.{eqb}
use lib.ListN.{length, get_or, get_or-map}
use Rattle.lowering.proofs.FirstLaws.{first-here, first-later}
use Rattle.sheet.specs.Node.{child}
use Rattle.switch_split.specs.Excess.{shifted, excess, low_word, high_word}
use Rattle.switch_split.proofs.ExcessLaws.{excess-below, excess-words}
use Rattle.switch_split.specs.Range.{Range}
use Rattle.switch_split.specs.Points.{points}
use Rattle.switch_split.proofs.PointsLaws
use Rattle.switch_split.specs.Split as Split
use Rattle.switch_split.specs.Split.{split, holds}
use Rattle.switch_split.proofs.SplitLaws.{Good, Every, split_good}
use Rattle.bytecode.specs.declared.Switch.{Switch}
use Rattle.bytecode.specs.declared.SwitchCase.{SwitchCase}
use Rattle.bytecode.specs.declared.SwitchRange.{SwitchRange}
use Rattle.bytecode.specs.Switch.{switch_words, case_words, range_words}
use Rattle.lowering.specs.Kinds.{int_kind}
use Rattle.lowering.specs.Pools.{Const, Pools, first_where, emits, const_of}
use Rattle.lowering.specs.SwitchSheet.{cases_of, range_of, range_nodes, ranges_of}
use Rattle.lowering.specs.SwitchLaid.{SwitchLaid}
use Rattle.lowering.specs.SwitchTables.{one_if, range_rows, range_table, case_table}
use Rattle.lowering.specs.SwitchCode.{default_at, fallback_at, last_emits}
use Rattle.lowering.specs.Switch.{switch_of}
use Rattle.lowering.specs.Image.{const_words, words}
use Rattle.lowering.specs.Words.{switch_word, case_word, range_word}
use Rattle.lowering.specs.Run.{table_target}
use Rattle.lowering.specs.Guided.{is_int, in_range, row_fits, first_row, switch_way}
use Rattle.lowering.specs.SourceRule.{is_case_of}
use Rattle.lowering.proofs.Whole.{no_switch}
use Rattle.lowering.proofs.Decode.{const-word, switch-word, case-word, range-word}
use Rattle.lowering.proofs.Tables.{table-target}
use Rattle.lowering.proofs.LowerFits.{switch_fits}
use Rattle.lowering.proofs.RowCounts.{case-rows-length, range-rows-length}
use Rattle.lowering.proofs.CaseConsts.{same_int, case-const}
use Rattle.lowering.proofs.SwitchTargets.{case_target, range_target, case-targets, range-targets}

-- the target of the first entry that passes, or the fallback
abbrev pub pick : {A : Type 0} → (A → Bool) → (A → ℕ) → ℕ → List A → ℕ
pick pass goal fb [] = fb
pick pass goal fb (x ∷ xs) = elim (pass x) [ true ↦ goal x | false ↦ pick pass goal fb xs ]

module _ {A : Type 0} (pass : A → Bool) where
  -- rows that are ones for x just where the entries pass
  first-row : (w : List ℕ) (x ranged : ℕ) (d : A) (xs : List A) (r : ℕ)
      → ((i : ℕ) → i < length xs → row_fits w x ranged (r + i) ≡ pass (get_or xs i d))
      → first_row w x ranged (length xs) r ≡ first_where pass xs
  unfolding first_row first_where
  first-row w x ranged d [] r h = refl
  first-row w x ranged d (y ∷ xs) r h =
      let e : r ≡ r + 0 = omega arith in
      ap₂ (λ (t : Bool) (n : ℕ). elim t [ true ↦ 0 | false ↦ suc n ])
      (ap (row_fits w x ranged) e ∙ h 0 (omega arith))
      (first-row w x ranged d xs (suc r) (λ i l. ap (row_fits w x ranged) (omega arith) ∙ h (suc i) (omega arith)))

  module _ (goal : A → ℕ) (fb : ℕ) (x : A) (xs : List A) where
    pub pick_yes : pass x ≡ true → pick pass goal fb (x ∷ xs) ≡ goal x
    pick_yes h = rw (h, pick)

    pub pick_no : pass x ≡ false → pick pass goal fb (x ∷ xs) ≡ pick pass goal fb xs
    pick_no h = rw (h, pick)

  pick_at : (goal : A → ℕ) (fb : ℕ) (xs : List A) → get_or (map goal xs ++ (fb ∷ [])) (first_where pass xs) fb ≡ pick pass goal fb xs
  unfolding first_where
  pick_at goal fb [] = refl
  pick_at goal fb (x ∷ xs) = by (pass x) refl (pick_at goal fb xs)
    where
      by : (t : Bool) → pass x ≡ t → get_or (map goal xs ++ (fb ∷ [])) (first_where pass xs) fb ≡ pick pass goal fb xs
          → get_or (map goal (x ∷ xs) ++ (fb ∷ [])) (first_where pass (x ∷ xs)) fb ≡ pick pass goal fb (x ∷ xs)
      by true h k = rw (first-here pass x xs h) (sym (pick_yes goal fb x xs h))
      by false h k = rw (first-later pass x xs h) (k ∙ sym (pick_no goal fb x xs h))

-- ---- the table of the cases

module _ (s : List ℕ) (def : ℕ) (l : SwitchLaid) where
  abbrev fallback : ℕ
  fallback = fallback_at def l.splits l

  abbrev last : Pools
  last = emits (last_emits def) l.pools

  some-table : 0 < length (switch_of s def l).switches
  unfolding switch_of
  some-table = omega arith

  -- what lookups past the end give
  abbrev no_case : SwitchCase
  no_case = record { target = 0; constant = 0 }

  abbrev no_const : Const
  no_const = record { kind = 0; a = 0; b = 0 }

  -- row i is one for x just where Case i is the Int x
  case-fits : (x i : ℕ) → i < length (cases_of s) → row_fits (words (switch_of s def l)) x 0 (0 + i) ≡ is_case_of s x (get_or (cases_of s) i 0)
  unfolding row_fits is_int is_case_of case_words const_words switch_of
  case-fits x i h =
      let r = switch_of s def l in
      let k = (get_or r.cases i no_case).constant in
      let v = const_of s (child (get_or (cases_of s) i 0)) in
      let c = case-const s l fallback no_case no_const (cases_of s) last i h in
      let at-const = const-word r no_const k in
      let e : case_word (words r) (0 + i) 1 ≡ k = ap (λ (n : ℕ). case_word (words r) n 1) (zero-add i)
      ∙ case-word r no_case i 1 (omega (arith, case-rows-length s l fallback (cases_of s) last)) (omega arith) in
      ap (is_int (words r) x) e
      ∙ ap₂ (λ (m n : ℕ). eqb m int_kind && eqb n x) (at-const 0 c.0 (omega arith))
      (ap₂ excess (at-const 1 c.0 (omega arith)) (at-const 2 c.0 (omega arith)))
      ∙ same_int s v (get_or r.pools.consts k no_const) x c.1

  case-way : (x : ℕ) → switch_way (words (switch_of s def l)) x 0 ≡ first_where (is_case_of s x) (cases_of s)
  unfolding switch_way switch_words switch_of case_table
  case-way x =
      let r = switch_of s def l in
      let at_table : (f : ℕ) → f < 4 → switch_word (words r) 0 f ≡ get_or (switch_words (get_or r.switches 0 no_switch)) f 0 =
      λ f g. switch-word r no_switch 0 f some-table g in
      ap (λ (n : ℕ). first_row (words r) x n (switch_word (words r) 0 2) (switch_word (words r) 0 1)) (at_table 0 (omega arith))
      ∙ ap₂ (λ (n m : ℕ). first_row (words r) x 0 n m) (at_table 2 (omega arith)) (at_table 1 (omega arith))
      ∙ first-row (is_case_of s x) (words r) x 0 0 (cases_of s) 0 (case-fits x)

  -- the first Switch goes to the entry of the first Case that is the Int x
  pub case-target : (x : ℕ) → table_target (words (switch_of s def l)) 0 (switch_way (words (switch_of s def l)) x 0)
      ≡ pick (is_case_of s x) (case_target s def l) fallback (cases_of s)
  unfolding switch_of case_table
  case-target x =
      let r = switch_of s def l in
      ap (table_target (words r) 0) (case-way x)
      ∙ table-target r (switch_fits s def l) 0 some-table (first_where (is_case_of s x) (cases_of s))
      ∙ ap (λ (ts : List ℕ). get_or ts (first_where (is_case_of s x) (cases_of s)) fallback) (case-targets s def l)
      ∙ pick_at (is_case_of s x) (case_target s def l) fallback (cases_of s)

-- ---- the table of the ranges

-- the row of a split range
abbrev range_row : ℕ → SwitchLaid → Split.Entry → SwitchRange
range_row def l e = record { from = shifted e.from; to = shifted e.to; inclusive = one_if e.inclusive; target = range_target def l e }

range-rows-map : (def : ℕ) (l : SwitchLaid) (es : List Split.Entry) → range_rows l (default_at def l) es ≡ map (range_row def l) es
unfolding range_rows
range-rows-map def l [] = refl
range-rows-map def l (e ∷ es) = ap (λ (x : List SwitchRange). range_row def l e ∷ x) (range-rows-map def l es)

-- the ends of an entry are integers of 64 bits
abbrev pub Wide : Split.Entry → Type 0
Wide e = (e.from < 2 ^ 64) × (e.to < 2 ^ 64)

one-if : (t : Bool) → eqb (one_if t) 1 ≡ t
one-if true = refl
one-if false = refl

every-at : (Q : Split.Entry → Type 0) (es : List Split.Entry) (d : Split.Entry) → Every Q es → (i : ℕ) → i < length es → Q (get_or es i d)
every-at Q [] d h i l = absurd (omega arith)
every-at Q (e ∷ es) d h zero l = h.0
every-at Q (e ∷ es) d h (suc i) l = every-at Q es d h.1 i (omega arith)

module _ (s : List ℕ) (def : ℕ) (l : SwitchLaid) (e₀ : Split.Entry) (es : List Split.Entry) (q : l.splits ≡ e₀ ∷ es)
    (wide : Every Wide l.splits) where
  two-tables : 1 < length (switch_of s def l).switches
  unfolding switch_of range_table
  two-tables = rw q (omega arith)

  range-table : get_or (switch_of s def l).switches 1 no_switch
      ≡ record { ranged = 1; first = 0; rows = length l.splits; default = default_at def l }
  unfolding switch_of range_table
  range-table = rw q

  range-row-at : (i : ℕ) → get_or (switch_of s def l).ranges i (range_row def l e₀) ≡ range_row def l (get_or l.splits i e₀)
  unfolding switch_of
  range-row-at i =
      ap (λ (x : List SwitchRange). get_or x i (range_row def l e₀)) (range-rows-map def l l.splits)
      ∙ get_or-map (range_row def l) l.splits i e₀

  range-words : (i f : ℕ) → i < length l.splits → f < 6
      → range_word (words (switch_of s def l)) (0 + i) f ≡ get_or (range_words (range_row def l (get_or l.splits i e₀))) f 0
  unfolding switch_of
  range-words i f h g =
      let r = switch_of s def l in
      ap (λ (n : ℕ). range_word (words r) n f) (zero-add i)
      ∙ range-word r (range_row def l e₀) i f (omega (arith, range-rows-length l (default_at def l) l.splits)) g
      ∙ ap (λ (c : SwitchRange). get_or (range_words c) f 0) (range-row-at i)

  -- row i is one for x just where entry i contains x
  range-fits : (x i : ℕ) → i < length l.splits → row_fits (words (switch_of s def l)) x 1 (0 + i) ≡ holds (get_or l.splits i e₀) x
  unfolding row_fits in_range range_words low_word high_word
  range-fits x i h =
      let r = switch_of s def l in
      let e = get_or l.splits i e₀ in
      let b : Wide e = every-at Wide l.splits e₀ wide i h in
      let from : excess (range_word (words r) (0 + i) 0) (range_word (words r) (0 + i) 1) ≡ e.from =
      ap₂ excess (range-words i 0 h (omega arith)) (range-words i 1 h (omega arith)) ∙ excess-words e.from b.0 in
      let to : excess (range_word (words r) (0 + i) 2) (range_word (words r) (0 + i) 3) ≡ e.to =
      ap₂ excess (range-words i 2 h (omega arith)) (range-words i 3 h (omega arith)) ∙ excess-words e.to b.1 in
      let incl : eqb (range_word (words r) (0 + i) 4) 1 ≡ e.inclusive =
      ap (λ (n : ℕ). eqb n 1) (range-words i 4 h (omega arith)) ∙ one-if e.inclusive in
      rw (from, to, incl)

  range-way : (x : ℕ) → switch_way (words (switch_of s def l)) x 1 ≡ first_where (λ e. holds e x) l.splits
  unfolding switch_way switch_words
  range-way x =
      let r = switch_of s def l in
      let at_table : (f : ℕ) → f < 4
      → switch_word (words r) 1 f
      ≡ get_or (switch_words (record { ranged = 1; first = 0; rows = length l.splits; default = default_at def l })) f 0 =
      λ f g. switch-word r no_switch 1 f two-tables g ∙ ap (λ (t : Switch). get_or (switch_words t) f 0) range-table in
      ap (λ (n : ℕ). first_row (words r) x n (switch_word (words r) 1 2) (switch_word (words r) 1 1)) (at_table 0 (omega arith))
      ∙ ap₂ (λ (n m : ℕ). first_row (words r) x 1 n m) (at_table 2 (omega arith)) (at_table 1 (omega arith))
      ∙ first-row (λ e. holds e x) (words r) x 1 e₀ l.splits 0 (range-fits x)

  -- the second Switch goes to the entry of the first split range that contains x
  pub range-target : (x : ℕ) → table_target (words (switch_of s def l)) 1 (switch_way (words (switch_of s def l)) x 1)
      ≡ pick (λ e. holds e x) (range_target def l) (default_at def l) l.splits
  range-target x =
      let r = switch_of s def l in
      let n = first_where (λ e. holds e x) l.splits in
      ap (table_target (words r) 1) (range-way x)
      ∙ table-target r (switch_fits s def l) 1 two-tables n
      ∙ ap₂ (λ (ts : List ℕ) (d : ℕ). get_or ts n d) (range-targets s def l e₀ es q) (ap (λ (t : Switch). t.default) range-table)
      ∙ pick_at (λ e. holds e x) (range_target def l) (default_at def l) l.splits

-- ---- the split ranges of a sheet are wide

points-wide : (s : List ℕ) (ns : List ℕ) → PointsLaws.All (λ n. n < 2 ^ 64) (points (map (range_of s) ns))
unfolding points range_of
points-wide s [] = tt
points-wide s (r ∷ ns) = (excess-below _ _, (excess-below _ _, points-wide s ns))

good-wide : (rs : List Range) (es : List Split.Entry) → Every (Good (λ n. n < 2 ^ 64) rs) es → Every Wide es
good-wide rs [] h = tt
good-wide rs (e ∷ es) h = ((h.0.start, h.0.end), good-wide rs es h.1)

pub split-wide : (s : List ℕ) → Every Wide (split (ranges_of s))
unfolding ranges_of
split-wide s = good-wide (ranges_of s) (split (ranges_of s)) (split_good (λ n. n < 2 ^ 64) (ranges_of s) (points-wide s (range_nodes s)))

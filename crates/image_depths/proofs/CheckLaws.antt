-- One law for each way through the code that checks the marks.
use Prim.Native.Nat.{ℕ, zero, suc, ◌+◌, ◌-◌, ◌<◌, ◌≤◌, max}
use mathlib.Core.Path.{◌≡◌, refl, sym, ap, ap₂, ◌∙◌}
use mathlib.Core.Bool.{Bool, true, false, ◌&&◌}
use mathlib.Core.List.{List, [], ◌∷◌}
use native.Mathlib.Omega.{arith}
use lib.Dec.{eqb, leb}
use native.Mathlib.Decide.{dec_lt}
use lib.ListN.{length}
use lib.ListN.{take}
use lib.Seq.{take_all}
use Rattle.std.specs.List.{fold, reduce}
use Rattle.std.specs.Option.{unwrap_or}
use Rattle.std.proofs.lemmas.List.{get_or_past}
use Rattle.std.proofs.lemmas.List.Sums.{fold_more}
use Rattle.std.proofs.Math.Nat.{max-zero, zero-max}
use Rattle.image_rule.proofs.WordLaws.{row-there, default-there}
use Rattle.laws.proofs.Bool.{and-lazy}
use Rattle.words.specs.Count.{all_below}
use Rattle.words.proofs.CountLaws.{all-suc, all_same}
use Rattle.bytecode.specs.Effect.{Flow, on, jump, branch, table}
use Rattle.lowering.specs.Words.{instructions, greatest_depth, consts_at, chains_at, switches_at, cases_at, ranges_at, a_at, switch_word}
use Rattle.lowering.specs.Run.{needs, branch_target, row_target, table_target}
use Rattle.image_rule.specs.Rules.{cases, ranges, end_at}
use Rattle.image_rule.specs.Marks.{mark, marks_there, table_node, flow_at, after, edges, edge, place_by, table_by, most, marked, marks_right}
use Rattle.image_depths.specs.Checked.{Checked}
use Rattle.image_depths.specs.Passing.{Ways, leads, places_right, tables_right, MarkedAll}
use Rattle.image_depths.proofs.DeepLaws.{deep-false}

-- where the two ways lead
and-same : (b : Bool) → (b && b) ≡ b
and-same true = refl
and-same false = refl

leads-ways : (F : Flow) (w l : List ℕ) (p m : ℕ) → (eqb (mark l (edge F w p 0)) m && eqb (mark l (edge F w p 1)) m) ≡ leads F w l p m
unfolding leads all_below edges edge branch_target
leads-ways on w l p m = and-same (eqb (mark l (p + 1)) m)
leads-ways jump w l p m = and-same (eqb (mark l (a_at w p)) m)
leads-ways branch w l p m = sym (and-lazy (eqb (mark l (p + 1)) m) (eqb (mark l (a_at w p)) m))
leads-ways table w l p m = and-same (eqb (mark l (table_node w (a_at w p))) m)

pub leads-both : (w l : List ℕ) (p m x y u v : ℕ) → Ways w p x y → u ≡ mark l x → v ≡ mark l y
    → (eqb u m && eqb v m) ≡ leads (flow_at w p) w l p m
leads-both w l p m x y u v W e g =
    ap₂ (λ (i j : ℕ). eqb i m && eqb j m) (e ∙ ap (mark l) W.first) (g ∙ ap (mark l) W.second) ∙ leads-ways (flow_at w p) w l p m

-- one place: without a mark there is nothing to test
pub place_none : (w l : List ℕ) (p m : ℕ) → m ≡ mark l p → m ≡ 0 → true ≡ place_by (mark l p) w l p
unfolding place_by
place_none w l p m e z = ap (λ (x : ℕ). place_by x w l p) (sym (sym e ∙ z))

-- one place with a mark
pub place-by : (w l : List ℕ) (p m n k d : ℕ) (r : Bool) → m ≡ mark l p → (m ≡ 0 → ⊥) → n ≡ after w p (m - 1) → k ≡ needs w p
    → d ≡ m - 1 → r ≡ leads (flow_at w p) w l p (n + 1) → (leb k d && r) ≡ place_by (mark l p) w l p
unfolding place_by leads
place-by w l p m n k d r e z g h j f =
    let s : mark l p ≡ suc (m - 1) = omega arith in
    let next : n + 1 ≡ suc (after w p (m - 1)) = omega (arith, g) in
    ap₂ ◌&&◌ (ap₂ leb h j) (f ∙ ap (leads (flow_at w p) w l p) next) ∙ ap (λ (x : ℕ). place_by x w l p) (sym s)

-- one table
abbrev rows_to : List ℕ → List ℕ → ℕ → ℕ → ℕ → Bool
rows_to w l i m r = eqb (mark l (table_target w i r)) m

-- without a mark there is nothing to test
pub table_none : (w l : List ℕ) (i m : ℕ) → m ≡ mark l (table_node w i) → m ≡ 0 → true ≡ table_by (mark l (table_node w i)) w l i
unfolding table_by
table_none w l i m e z = ap (λ (x : ℕ). table_by x w l i) (sym (sym e ∙ z))

-- with a mark every target must have it
table-some : (w l : List ℕ) (i m : ℕ) → m ≡ mark l (table_node w i) → (m ≡ 0 → ⊥)
    → all_below (suc (switch_word w i 2)) (rows_to w l i m) ≡ table_by (mark l (table_node w i)) w l i
unfolding table_by
table-some w l i m e z =
    let s : m ≡ suc (m - 1) = omega (arith, z) in
    ap (λ (x : ℕ). all_below (suc (switch_word w i 2)) (rows_to w l i x)) s ∙ ap (λ (x : ℕ). table_by x w l i) (sym s ∙ e)

-- the rows by their own test, then the default
pub table-by : (w l : List ℕ) (i m d x : ℕ) (r : Bool) → m ≡ mark l (table_node w i) → (m ≡ 0 → ⊥)
    → r ≡ all_below (switch_word w i 2) (λ j. eqb (mark l (row_target w i j)) m) → d ≡ switch_word w i 3 → x ≡ mark l d
    → (r && eqb x m) ≡ table_by (mark l (table_node w i)) w l i
table-by w l i m d x r e z h g k =
    let n = switch_word w i 2 in
    ap₂ ◌&&◌
    (h
    ∙ all_same (λ j. eqb (mark l (row_target w i j)) m) (rows_to w l i m) n
    (λ j b. ap (λ (t : ℕ). eqb (mark l t) m) (sym (row-there w i j b))))
    (ap (λ (y : ℕ). eqb y m) (k ∙ ap (mark l) (g ∙ sym (default-there w i))))
    ∙ sym (all-suc (rows_to w l i m) n) ∙ table-some w l i m e z

-- the greatest mark: with one mark more, or past the end
most-step : (l : List ℕ) (n : ℕ) → fold max 0 (take (n + 1) l) ≡ max (fold max 0 (take n l)) (mark l n)
most-step l n = by (dec_lt n (length l))
  where
    f : ℕ → ℕ
    f i = fold max 0 (take i l)

    by : Dec (n < length l) → f (n + 1) ≡ max (f n) (mark l n)
    by (yes h) = fold_more max 0 l n 0 h
    by (no h) =
        ap (fold max 0) (take_all (n + 1) l (omega (arith, h)) ∙ sym (take_all n l (omega (arith, h))))
        ∙ sym (max-zero (f n)) ∙ ap (max (f n)) (sym (get_or_past l n 0 (omega (arith, h))))

pub most-fold : (l : List ℕ) (n : ℕ) → fold max 0 (take (n + 1) l) ≡ most l n
unfolding most
most-fold l zero = most-step l 0 ∙ zero-max (mark l 0)
most-fold l (suc n) =
    let s : n + 1 ≡ suc n = omega arith in
    most-step l (suc n) ∙ ap (λ (x : ℕ). max x (mark l (suc n))) (ap (λ (i : ℕ). fold max 0 (take i l)) (sym s) ∙ most-fold l n)

-- the greatest of them, or 0 where there is none
reduced : (l : List ℕ) → unwrap_or (reduce max l) 0 ≡ fold max 0 l
reduced [] = refl
reduced (x ∷ l) = ap (λ (y : ℕ). fold max y l) (sym (zero-max x))

pub most-reduced : (l : List ℕ) (n : ℕ) → unwrap_or (reduce max (take (n + 1) l)) 0 ≡ most l n
most-reduced l n = reduced (take (n + 1) l) ∙ most-fold l n

-- the four tests joined
pub marks-by : (w l : List ℕ) (n g : ℕ) (a b : Bool) (x y : ℕ) → n ≡ instructions w → g ≡ greatest_depth w → a ≡ places_right w l
    → b ≡ tables_right w l → x ≡ mark l n → y ≡ most l n → (a && b && eqb x 2 && eqb y (g + 1)) ≡ marks_right w l
unfolding marks_right places_right tables_right
marks-by w l n g a b x y e f h k p q =
    let s : g + 1 ≡ suc (greatest_depth w) = omega (arith, f) in
    ap₂ ◌&&◌ (ap₂ ◌&&◌ (ap₂ ◌&&◌ h k) (ap (λ (z : ℕ). eqb z 2) (p ∙ ap (mark l) e))) (ap₂ eqb (q ∙ ap (most l) e) s)

-- the whole test: the scratch has room for the marks and for a word of each row
pub room : (w : List ℕ) → Checked w → marks_there w + cases w + ranges w ≤ length w
unfolding end_at ranges_at cases_at switches_at chains_at consts_at
room w K = omega (arith, K.sizes)

-- the pass went to the end: its marks are tested
pub marked-right : (w l : List ℕ) (t r : Bool) → MarkedAll w l t → t ≡ true → r ≡ marks_right w l
    → r ≡ marks_right w (marked w (marks_there w) (instructions w))
marked-right w l t r M e h = h ∙ ap (marks_right w) (M.done e)

-- the pass stopped at a mark without room: the image is not well made
pub marked-wrong : (w l : List ℕ) (t : Bool) → Checked w → instructions w ≤ 4294967295 → MarkedAll w l t → t ≡ false
    → false ≡ marks_right w (marked w (marks_there w) (instructions w))
marked-wrong w l t K b M e = sym (deep-false w K.aims K.named b (M.deep e))

-- The jump that is dropped where chains fall through: by the last chain of some length, and as a loop finds it.
use Prim.Native.Nat.{ℕ, zero, suc, ◌+◌, ◌<◌, min}
use mathlib.Core.Path.{◌≡◌, refl, sym, ◌∙◌, ap, ap₂}
use mathlib.Core.Bool.{Bool, true, false, true≢false}
use mathlib.Core.List.{List, [], ◌∷◌}
use native.Mathlib.Omega.{arith}
use lib.Dec.{eqb}
use lib.ListN.{length, get_or, drop, drop_of_length-le}
use lib.Seq.{drop-cons}
use borrow.Author.Tests.{ne_eqb}
use Rattle.std.specs.List.{fold, range_with_len}
use Rattle.sheet.specs.Limits.{max_entries}
use Rattle.lowering.specs.SwitchSheet.{guard_of}
use Rattle.lowering.specs.Arms.{End, taken, declined, idle, Guard, never, always, tried, guard_kind}
use Rattle.expr_count.specs.Tally.{instructions, nothing, plus, taken_back}
use Rattle.expr_count.specs.Count.{Rec}
use Rattle.switch_count.specs.Arms.{tries_tally, end_of, has_try, end_tally, arm_tally, arms_tally, idle_tally, last_tally, falls_tally}
use Rattle.switch_tables.specs.Columns.{cell, case_heads_at, case_exit_at}
use Rattle.switch_tables.specs.declared.kinds.Exit.{Exit}
use Rattle.switch_tables.specs.declared.kinds.Exit.TheVariants.{Chain, Fallback, Body}
use Rattle.switch_tables.specs.Kinds.{said_exit}
use Rattle.switch_tables.specs.Spans.{one_if}
use Rattle.switch_tables.specs.Planned.{exit_by}
use Rattle.switch_places.specs.Idle.{idle_by, idles_from, Exits}

end-len : (b : Bool) (e : End) → (idle_tally b e).len + one_if (idle_by b e false) ≡ (end_tally b).len
unfolding idle_tally idle_by end_tally taken_back nothing instructions
end-len true (taken k) = refl
end-len true declined = refl
end-len true idle = refl
end-len false e = refl

idle-any : (e : End) (x y : Bool) → idle_by true e x ≡ idle_by true e y
unfolding idle_by
idle-any (taken k) x y = refl
idle-any declined x y = refl
idle-any idle x y = refl

abbrev either : Bool → Bool → Bool → Bool
either true x y = x
either false x y = y

module _ (s : List ℕ) (t : Rec) where
  tries-none : (l : List ℕ) → has_try s l ≡ false → (tries_tally s t l).len ≡ 0
  unfolding has_try tries_tally nothing instructions
  tries-none [] h = refl
  tries-none (k ∷ ks) h = by (guard_kind s (guard_of s k)) refl (tries-none ks)
    where
      by : (g : Guard) → guard_kind s (guard_of s k) ≡ g → (has_try s ks ≡ false → (tries_tally s t ks).len ≡ 0)
          → (tries_tally s t (k ∷ ks)).len ≡ 0
      by never q r = rw (q, tries_tally) (r (rw (q, has_try) at h))
      by always q r = rw (q, tries_tally)
      by tried q r = absurd (true≢false (rw (q, has_try) at h))

  -- chains of no length leave what was before, those of some length do not ask for it
  abbrev Idles : List (List ℕ) → Bool → Type 0
  Idles ls x = idles_from s x ls ≡ either (eqb (arms_tally s t ls).len 0) x (idles_from s false ls)

  idles-by : (ls : List (List ℕ)) (x : Bool) → Idles ls x
  unfolding idles_from idle_by arms_tally arm_tally end_tally plus nothing instructions
  idles-by [] x = refl
  idles-by (l ∷ ls) x = by (has_try s l) refl (idles-by ls x)
    where
      by : (b : Bool) → has_try s l ≡ b → Idles ls x → Idles (l ∷ ls) x
      by true h r =
          rw (h, ne_eqb ((tries_tally s t l).len + 1 + (arms_tally s t ls).len) 0 (λ e. omega arith))
          (ap (λ v. idles_from s v ls) (idle-any (end_of s l) x false))
      by false h r =
          let n : (arms_tally s t (l ∷ ls)).len ≡ (arms_tally s t ls).len = omega (arith, tries-none l h, ap (λ x. (end_tally x).len) h) in
          rw (n, h) r

  pub falls-idle : (ls : List (List ℕ)) → (falls_tally s t ls).len + one_if (idles_from s false ls) ≡ (arms_tally s t ls).len
  unfolding falls_tally idles_from arms_tally last_tally arm_tally plus nothing instructions
  falls-idle [] = refl
  falls-idle (l ∷ ls) =
      by (eqb (arms_tally s t ls).len 0) refl (falls-idle ls) (idles-by ls (idle_by (has_try s l) (end_of s l) false))
    where
      by : (b : Bool) → eqb (arms_tally s t ls).len 0 ≡ b
          → (falls_tally s t ls).len + one_if (idles_from s false ls) ≡ (arms_tally s t ls).len
          → Idles ls (idle_by (has_try s l) (end_of s l) false)
          → (falls_tally s t (l ∷ ls)).len + one_if (idles_from s false (l ∷ ls)) ≡ (arms_tally s t (l ∷ ls)).len
      by true h r i = rw (h, falls_tally) (omega (arith, ap one_if (rw h at i), end-len (has_try s l) (end_of s l)))
      by false h r i = rw (h, falls_tally) (omega (arith, ap one_if (rw h at i), r))

-- ---- the fold

-- what a list leaves, by its exit
abbrev pub idle_said : Exit → Bool → Bool
idle_said (Chain falls) before = falls
idle_said Fallback before = before
idle_said (Body k) before = before

exit-idle : (b : Bool) (x : End) (before : Bool) → idle_said (said_exit (exit_by b x)) before ≡ idle_by b x before
unfolding exit_by idle_by
exit-idle true (taken k) before = refl
exit-idle true declined before = refl
exit-idle true idle before = refl
exit-idle false (taken k) before =
    let three : k + 3 ≡ suc (suc (suc k)) = omega arith in ap (λ (v : ℕ). idle_said (said_exit v) before) three
exit-idle false declined before = refl
exit-idle false idle before = refl

-- what the code folds over the exits of the lists
abbrev pub idle_from : List ℕ → Bool → ℕ → Bool
idle_from w before i = idle_said (said_exit (cell w i)) before

fold-idle : (s w : List ℕ) (ls : List (List ℕ)) → Exits s w ls → (m q : ℕ) (b : Bool) → q + m ≡ length ls
    → fold (idle_from w) b (range_with_len (case_exit_at + q) m) ≡ idles_from s b (drop q ls)
unfolding idles_from
fold-idle s w ls x zero q b e = ap (idles_from s b) (sym (drop_of_length-le ls {i = q} (omega arith)))
fold-idle s w ls x (suc m) q b e =
    let l : List ℕ = get_or ls q [] in
    let inside : q < length ls = omega arith in
    let here : idle_from w b (case_exit_at + q) ≡ idle_by (has_try s l) (end_of s l) b =
    ap (λ (n : ℕ). idle_said (said_exit n) b) (x.exit q inside) ∙ exit-idle (has_try s l) (end_of s l) b in
    let next : case_exit_at + q + 1 ≡ case_exit_at + suc q = omega arith in
    ap₂ (λ v n. fold (idle_from w) v (range_with_len n m)) here next
    ∙ fold-idle s w ls x m (suc q) (idle_by (has_try s l) (end_of s l) b) (omega arith)
    ∙ ap (idles_from s b) (sym (drop-cons ls q [] inside))

pub folded-idle : (s w : List ℕ) (ls : List (List ℕ)) (n y : ℕ) (r : Bool) → n ≡ min y max_entries → y ≡ cell w case_heads_at
    → r ≡ fold (idle_from w) false (range_with_len case_exit_at n) → Exits s w ls → r ≡ idles_from s false ls
folded-idle s w ls n y r m y-is r-is x =
    let start : case_exit_at ≡ case_exit_at + 0 = omega arith in
    let count : n ≡ length ls = omega (arith, m, y-is, x.count, x.few) in
    r-is
    ∙ ap₂ (λ a k. fold (idle_from w) false (range_with_len a k)) start count
    ∙ fold-idle s w ls x (length ls) 0 false (omega arith)

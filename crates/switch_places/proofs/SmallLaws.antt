-- Laws of straight code: one for each way through a function.
use Prim.Native.Nat.{ℕ, zero, suc, ◌+◌, ◌-◌, ◌<◌, ◌≤◌}
use mathlib.Core.Path.{◌≡◌, refl, sym, ◌∙◌, ap, ap₂}
use mathlib.Core.Bool.{Bool, true, false, ◌&&◌, not, true≢false}
use mathlib.Core.List.{List}
use native.Mathlib.Omega.{arith}
use lib.Dec.{eqb}
use lib.ListN.{length, set, length-set}
use lib.Seq.{get_or-set_same, get_or-set_other}
use borrow.Author.Tests.{ne_eqb}
use Rattle.expr_count.specs.declared.tallies.Tally.{Tally}
use Rattle.expr_count.specs.Tally.{counted, instructions, plus, capped}
use Rattle.expr_count.specs.Limits.{cap}
use Rattle.switch_tables.specs.Columns.{size, cell, bands_at, body_at, dispatch_at, default_at, end_at, fallback_at, case_const_at, Within}
use Rattle.switch_tables.specs.Spans.{one_if}
use Rattle.switch_tables.proofs.ColumnLaws.{within-put, within-then}
use Rattle.switch_places.specs.Idle.{idles_from, Exits, second_at, second_tally, Second}
use Rattle.switch_places.specs.Finished.{if_none, default_in, end_by, fall_by, Finished}

pub none : (n a b : ℕ) → n ≡ 0 → a ≡ if_none n a b
unfolding if_none
none n a b e = rw e refl

pub some : (n a b : ℕ) → (n ≡ 0 → ⊥) → b ≡ if_none n a b
unfolding if_none
some zero a b e = absurd (e refl)
some (suc n) a b e = refl

pub default-some : (w : List ℕ) (k after : ℕ) → cell w (body_at + k) ≡ default_in w (suc k) after
unfolding if_none
default-some w k after = ap (cell w) (omega arith)

-- ---- the default, the end and the fallback

module _ (w v₁ v₂ v₃ : List ℕ) (d e f : ℕ) (p₁ : v₁ ≡ set w default_at d) (p₂ : v₂ ≡ set v₁ end_at e) (p₃ : v₃ ≡ set v₂ fallback_at f) where
  pub finish-within : Within default_at case_const_at w v₃
  finish-within =
      rw (p₃, p₂, p₁)
      (within-then
      (within-then (within-put _ _ w default_at d (omega arith) (omega arith)) (within-put _ _ _ end_at e (omega arith) (omega arith)))
      (within-put _ _ _ fallback_at f (omega arith) (omega arith)))

  pub finished : (def start after : ℕ) → (after ≤ cap → d ≡ default_in w def after) → f ≡ fall_by (cell w bands_at) d (cell w dispatch_at)
      → (after < cap → start ≤ cap → e ≡ end_by def start after) → length w ≡ size → after < cap → start ≤ cap
      → Finished w v₃ def start after
  finished def start after hd hf he l m n =
      let v₁ = set w default_at d in
      let v₂ = set v₁ end_at e in
      let long : length v₂ ≡ size = length-set v₁ end_at e ∙ length-set w default_at d ∙ l in
      rw (p₃, p₂, p₁)
      record {
        default_is =
            get_or-set_other v₂ fallback_at default_at f 0 (λ x. omega arith)
            ∙ get_or-set_other v₁ end_at default_at e 0 (λ x. omega arith)
            ∙ get_or-set_same w default_at d 0 (omega (arith, l))
            ∙ hd (omega arith);
        end_is =
            get_or-set_other v₂ fallback_at end_at f 0 (λ x. omega arith)
            ∙ get_or-set_same v₁ end_at e 0 (omega (arith, long, length-set v₁ end_at e))
            ∙ he m n;
        fallback_is =
            get_or-set_same v₂ fallback_at f 0 (omega (arith, long))
            ∙ hf
            ∙ ap (λ x. fall_by (cell w bands_at) x (cell w dispatch_at)) (hd (omega arith));
      }

-- ---- behind the chains of the cases: the second Switch, where there are bands

some-bands : (n : ℕ) → not (eqb (suc n) 0) ≡ true
some-bands n = ap not (ne_eqb (suc n) 0 (λ e. omega arith))

-- one is dropped
drops : (n : ℕ) (i : Bool) (b : ℕ) → b - one_if (not (eqb n 0) && i) ≡ second_at n i b
unfolding if_none
drops zero i b = omega arith
drops (suc n) i b = ap (λ x. b - one_if (x && i)) (some-bands n)

module _ (w v : List ℕ) (b : Tally) (n : ℕ) (i : Bool) (at x : ℕ) (e : n ≡ cell w bands_at)
    (h : (s : List ℕ) (ls : List (List ℕ)) → Exits s w ls → i ≡ idles_from s false ls) (l : at ≡ b.len - one_if (not (eqb n 0) && i))
    (word : at ≤ cap → x ≡ at) (p : v ≡ set w dispatch_at x) where
  abbrev behind : ℕ → Bool → Tally
  behind m z = counted (second_at m z b.len) b.emitted b.defeated

  some-tally : (m : ℕ) (z : Bool) → not (eqb m 0) ≡ true → capped (plus (behind m z) (instructions 1)) ≡ second_tally m z b
  unfolding if_none
  some-tally zero z q = absurd (true≢false (sym q))
  some-tally (suc m) z q = refl

  none-tally : (m : ℕ) (z : Bool) → not (eqb m 0) ≡ false → behind m z ≡ second_tally m z b
  unfolding if_none
  none-tally zero z q = refl
  none-tally (suc m) z q = absurd (true≢false (sym (some-bands m) ∙ q))

  abbrev Behind : Tally → Type 0
  Behind r = (s : List ℕ) (ls : List (List ℕ)) → Exits s w ls → b.len ≤ cap → Second (cell w bands_at) (idles_from s false ls) b w v r

  second : (r : Tally) → r ≡ second_tally n i b → Behind r
  second r q s ls y m =
      rw (← e, ← h s ls y)
      record { put = p ∙ ap (set w dispatch_at) (word (omega (arith, l)) ∙ l ∙ drops n i b.len); sum = q }

  pub second-some : (one r : Tally) → not (eqb n 0) ≡ true → one ≡ instructions 1
      → r ≡ capped (plus (counted at b.emitted b.defeated) one) → Behind r
  second-some one r q o z =
      second r
      (z ∙ ap₂ (λ (k : ℕ) y. capped (plus (counted k b.emitted b.defeated) y)) (l ∙ drops n i b.len) o ∙ some-tally n i q)

  pub second_none : not (eqb n 0) ≡ false → Behind (counted at b.emitted b.defeated)
  second_none q =
      second (counted at b.emitted b.defeated)
      (ap (λ k. counted k b.emitted b.defeated) (l ∙ drops n i b.len) ∙ none-tally n i q)

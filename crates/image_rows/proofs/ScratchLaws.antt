-- What a store does to the marks and to the words of rows.
use Prim.Native.Nat.{ℕ, ◌≤◌, min, max}
use mathlib.Core.Path.{◌≡◌, refl, sym, ap, ◌∙◌}
use mathlib.Core.List.{List}
use lib.ListN.{length, set, get_or-eq_default}
use lib.Seq.{set_out}
use Rattle.lowering.specs.Words.{word}
use Rattle.image_rule.specs.Marks.{come}
use Rattle.image_rule.proofs.ComeLaws.{come-new}
use Rattle.image_rows.specs.AllRows.{row_of}
use Rattle.image_rows.specs.Scratch.{Stepped}

-- behind the marks nothing is left
pub come-past : (m : ℕ) (l : List ℕ) (t : ℕ) → length l ≤ t → come m l t ≡ l
come-past m l t h = come-new m l t (get_or-eq_default l 0 h) ∙ set_out l t m h

-- one row of a table
module _ (w : List ℕ) (m k left was : ℕ) (l n n' : List ℕ) (before : was ≡ word n k) (raised : n' ≡ set n k (max was left)) where
  pub stepped_fresh : (t : ℕ) (l' : List ℕ) → was ≡ 0 → t ≡ row_of w k → l' ≡ come m l t → Stepped w m k left 1 l n l' n'
  stepped_fresh t l' z g e = record {
    fresh = λ q. (refl, e ∙ ap (come m l) g);
    again = λ q. absurd (q (sym before ∙ z));
    rest = raised ∙ ap (λ x. set n k (max x left)) before;
  }

  pub stepped-again : (r : ℕ) → (was ≡ 0 → ⊥) → r ≡ min was left → Stepped w m k left r l n l n'
  stepped-again r z h = record {
    fresh = λ q. absurd (z (before ∙ q));
    again = λ q. (h ∙ ap (λ x. min x left) before, refl);
    rest = raised ∙ ap (λ x. set n k (max x left)) before;
  }

-- The loop that makes the hash of a list: its invariant, `Mixing`, with start, step and end. Assumed: at most 64.
use Prim.Native.Nat.{ℕ, suc, ◌+◌, ◌*◌, ◌/◌, ◌%◌, ◌≤◌, ◌<◌}
use mathlib.Core.Path.{◌≡◌, sym, ◌∙◌, ap}
use mathlib.Core.List.{List, ◌∷◌}
use native.Mathlib.Omega.{arith}
use native.Mathlib.Numerals.{add-one}
use lib.ListN.{length, get_or, drop}
use lib.Seq.{drop-cons, drop-length}
use Rattle.sheet.specs.Limits.{max_entries}
use Rattle.switch_tables.specs.Hash.{mixed, hash_of}

-- of the list a the first i are mixed in
pub record Mixing (a : List ℕ) (h i : ℕ) : Type 0 where
  pub within : i ≤ length a
  pub small : h < 281474976710656
  pub left : length a ≤ max_entries → mixed h (drop i a) ≡ hash_of a

module _ (a : List ℕ) where
  pub mixing-start : Mixing a (length a % 4294967296) 0
  unfolding hash_of
  mixing-start = record {
    within = omega arith;
    small = omega arith;
    left = λ few. let e : length a % 4294967296 ≡ length a = omega arith in ap (λ (k : ℕ). mixed k a) e;
  }

  pub mixing-on : (h i x : ℕ) → Mixing a h i → i < length a → x ≡ get_or a i 0
      → Mixing a ((h + x + 1) % 4294967296 * 2654435769 / 65536) (i + 1)
  unfolding mixed
  mixing-on h i x c l ex = record {
    within = omega arith;
    small = omega arith;
    left = λ few.
        let cons : drop i a ≡ x ∷ drop (i + 1) a =
        rw add-one (drop-cons a i 0 l ∙ ap (λ (z : ℕ). z ∷ drop (suc i) a) (sym ex)) in
        sym (ap (mixed h) cons) ∙ c.left few;
  }

  pub mixing-end : (h i : ℕ) → Mixing a h i → length a ≤ i → length a ≤ max_entries → h % 4294967296 ≡ hash_of a
  unfolding mixed
  mixing-end h i c l few =
      let e : i ≡ length a = omega (arith, c.within) in
      sym (ap (mixed h) (ap (λ (k : ℕ). drop k a) e ∙ drop-length a)) ∙ c.left few

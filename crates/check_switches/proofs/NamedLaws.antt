-- docs/PORT.md and docs/PROVING.md name these laws; the loops that used them go over a walk's nodes now.
use Prim.Native.Nat.{ℕ, suc, ◌+◌, ◌-◌, ◌<◌}
use mathlib.Core.Path.{◌≡◌, ap, sym, ◌∙◌}
use mathlib.Core.Bool.{Bool, true, false}
use mathlib.Core.List.{List}
use lib.ListN.{length, take, get_or, set}
use Rattle.laws.proofs.Numbers.{one_less}
use Rattle.sheet.specs.Node.{child, next}
use Rattle.sheet.specs.Walk.{siblings, skip}
use Rattle.sheet.proofs.WalkLaws.{siblings-more, siblings-fail, skip-add}
use Rattle.check_switches.specs.Switch.{distinct_by, apart, distinct}
use Rattle.check_switches.specs.Key.{value_key}
use Rattle.check_switches.proofs.KeyLaws as numbers

-- a Case that differs from all behind it is passed
module _ (s : List ℕ) where
  distinct-step : (m p : ℕ) → siblings (apart s p) s m (next s p) ≡ true → distinct s (suc m) p ≡ distinct s m (next s p)
  unfolding distinct_by
  distinct-step m p h = rw (h, distinct_by)

  pub distinct_more : (m p : ℕ) → 0 < m → siblings (apart s p) s (m - 1) (next s p) ≡ true → distinct s m p ≡ distinct s (m - 1) (next s p)
  distinct_more m p h e = ap (λ n. distinct s n p) (one_less m h) ∙ distinct-step (m - 1) p e

-- The walk over m siblings, of which i are passed, with node j next: what is left equals the whole, q.
module _ (P : ℕ → Bool) (s : List ℕ) (m : ℕ) (i j : ℕ) {q : Bool} (whole : siblings P s (m - i) j ≡ q) where
  pub walk_more : {k : ℕ} {t : Bool} → i < m → t ≡ P j → t ≡ true → k ≡ next s j → siblings P s (m - (i + 1)) k ≡ q
  walk_more h p e n =
      ap (siblings P s (m - (i + 1))) n
      ∙ sym (siblings-more P s m i j h (sym p ∙ e))
      ∙ whole

  pub walk-fails : {t : Bool} → i < m → t ≡ P j → t ≡ false → false ≡ q
  walk-fails h p e = sym (siblings-fail P s m i j h (sym p ∙ e)) ∙ whole

-- The numbers of i cases from node at on are in k, each another; node j is next.
pub record Keys (s : List ℕ) (at i j : ℕ) (k : List ℕ) : Type 0 where
  pub here : j ≡ skip s i at
  pub kept : (a : ℕ) → a < i → get_or k a 0 ≡ value_key s (child (skip s a at))
  pub differ : (a b : ℕ) → a < b → b < i → value_key s (child (skip s a at)) ≡ value_key s (child (skip s b at)) → ⊥

module _ (s : List ℕ) (at : ℕ) where
  pub keys_step : {i j : ℕ} {k : List ℕ} {c v n : ℕ} → Keys s at i j k → i < length k → c ≡ child j → v ≡ value_key s c → n ≡ next s j
      → ((a : ℕ) → a < length (take i k) → get_or (take i k) a 0 ≡ v → ⊥) → Keys s at (i + 1) n (set k i v)
  unfolding skip
  keys_step {i} {j} {k} {c} {v} {n} K h hc hv hn other =
      let before : numbers.Keys s at i k = record { kept = K.kept; differ = K.differ } in
      let now : numbers.Keys s at (i + 1) (set k i v) = numbers.keys_step s at before h K.here hc hv other in
      record {
        here = hn ∙ ap (next s) K.here ∙ sym (skip-add s i 1 at);
        kept = now.kept;
        differ = now.differ;
      }

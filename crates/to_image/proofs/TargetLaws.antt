-- The targets that the flat table tells are those of the definition: of each case, and of each entry of the split.
use Prim.Native.Nat.{ℕ, ◌+◌, ◌-◌, ◌≤◌, ◌<◌}
use mathlib.Core.Path.{◌≡◌, refl, sym, ap, ◌∙◌, subst}
use mathlib.Core.Bool.{Bool, true, false}
use mathlib.Core.List.{List, [], ◌∷◌}
use native.Mathlib.Omega.{arith}
use lib.ListN.{length, get_or}
use Rattle.sheet.specs.Limits.{max_depth}
use Rattle.lowering.specs.All.{All}
use Rattle.lowering.specs.SwitchSheet.{block_count, guard_of}
use Rattle.lowering.specs.Arms.{End, taken, declined, idle, Guard, never, always, tried, guard_kind}
use Rattle.expr_count.specs.Count.{tally}
use Rattle.switch_count.specs.Arms.{end_of, has_try}
use Rattle.switch_count.specs.Place.{body_place, end_target, list_target}
use Rattle.switch_model.proofs.SameLaws.{AllIn}
use Rattle.switch_model.proofs.NodeLaws.{lists-place}
use borrow.Author.Tests.{lt-ltb, le-ltb, eq-eqb, ne_eqb}
use Rattle.switch_tables.specs.Columns.{body_at, cell}
use Rattle.switch_tables.specs.Numbers.{number_in}
use Rattle.switch_tables.specs.Planned.{Placed, Chained, entries, exit_by, exit_of, chain_place}
use Rattle.write_rows.specs.TableRows.{target_in, target_at}

-- where a list goes, by its exit
module _ (w : List ℕ) (exit place fallback : ℕ) where
  target-chain : exit < 2 → place ≡ target_in w exit place fallback
  unfolding target_in
  target-chain h = rw (lt-ltb exit 2 h, target_in)

  target_none : exit ≡ 2 → fallback ≡ target_in w exit place fallback
  unfolding target_in
  target_none e = rw (le-ltb exit 2 (omega arith), eq-eqb exit 2 e, target_in)

  target-body : 2 ≤ exit → (exit ≡ 2 → ⊥) → cell w (body_at + exit - 3) ≡ target_in w exit place fallback
  unfolding target_in
  target-body h n = rw (le-ltb exit 2 h, ne_eqb exit 2 n, target_in)

-- what is read, cell by cell
target_is : (w : List ℕ) (number exits places fallback q e p f : ℕ) → q ≡ cell w number → e ≡ cell w (exits + q)
    → p ≡ cell w (places + q) → f ≡ cell w fallback
    → target_in w e p f ≡ target_at w number exits places fallback
unfolding target_at
target_is w number exits places fallback q e p f a b c d = rw (b, c, d, a)

-- a list that ends with a block names it
named_end : (s : List ℕ) (P : ℕ → Type 0) (k : ℕ) (m : List ℕ) → All P m → end_of s m ≡ taken k → P k
unfolding end_of
named_end s P k [] a e = absurd (let z : ◌≡◌ {A = ℕ} 0 1 = cc in omega arith)
named_end s P k (j ∷ js) a e = by (guard_kind s (guard_of s j)) refl (named_end s P k js a.1)
  where
    by : (g : Guard) → guard_kind s (guard_of s j) ≡ g → (end_of s js ≡ taken k → P k) → P k
    by never h rest = rest (rw (h, end_of) at e)
    by tried h rest = rest (rw (h, end_of) at e)
    by always h rest = let same = rw (h, end_of) at e in subst P (cc) a.0

module _ {s w : List ℕ} (P : Placed s w) where
  abbrev at : ℕ → ℕ
  at = body_place s (tally max_depth s) (entries s)

  goes_by : (m : List ℕ) → All (λ k. k < block_count s) m → (place fallback : ℕ) (b : Bool) (e : End) → end_of s m ≡ e
      → target_in w (exit_by b e) place fallback ≡ elim b [ true ↦ place | false ↦ end_target at fallback e ]
  unfolding exit_by end_target
  goes_by m named place fallback true (taken k) q = sym (target-chain w 1 place fallback (omega arith))
  goes_by m named place fallback true declined q = sym (target-chain w 0 place fallback (omega arith))
  goes_by m named place fallback true idle q = sym (target-chain w 0 place fallback (omega arith))
  goes_by m named place fallback false (taken k) q =
      let back : body_at + (k + 3) - 3 ≡ body_at + k = omega arith in
      sym (target-body w (k + 3) place fallback (omega arith) (λ (z : k + 3 ≡ 2). omega arith))
      ∙ ap (cell w) back
      ∙ P.bodies k (named_end s (λ j. j < block_count s) k m named q)
  goes_by m named place fallback false declined q = sym (target_none w 2 place fallback refl)
  goes_by m named place fallback false idle q = sym (target_none w 2 place fallback refl)

  -- where a list l of the heads ls goes, whose number stands in the table
  pub goes-to : {ls : List (List ℕ)} {b places exits : ℕ} (l : List ℕ) (number other fallback : ℕ)
      → AllIn (λ k. k < block_count s) ls → Chained s (tally max_depth s) w ls b places exits → number_in l ls < length ls
      → cell w number ≡ number_in l ls → cell w other ≡ fallback
      → target_at w number exits places other
      ≡ list_target s at fallback (chain_place s (tally max_depth s) ls b (number_in l ls)) (get_or ls (number_in l ls) [])
  unfolding list_target
  goes-to {ls} {b} {places} {exits} l number other fallback named C few n-is f-is =
      let q = number_in l ls in
      let m = get_or ls q [] in
      sym
      (target_is w number exits places other q (exit_of s m) (chain_place s (tally max_depth s) ls b q) fallback (sym n-is)
      (sym (C.exits q few))
      (sym (C.places q few)) (sym f-is))
      ∙ goes_by m (lists-place (λ k. k < block_count s) ls named q few) (chain_place s (tally max_depth s) ls b q) fallback (has_try s m)
      (end_of s m) refl

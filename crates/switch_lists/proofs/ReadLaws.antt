-- The loop that reads the Refs of a Case into the room that is lent: its invariant, `Reading`, with start, step and end. Of the list
-- something is said where there is room for 64.
use Prim.Native.Nat.{ℕ, zero, suc, ◌+◌, ◌≤◌, ◌<◌, min}
use mathlib.Core.Path.{◌≡◌, refl, sym, ◌∙◌, ap}
use mathlib.Core.List.{List, [], ◌∷◌, ◌++◌, map, append-nil, append_assoc}
use native.Mathlib.Omega.{arith}
use native.Mathlib.Numerals.{add-one}
use lib.ListN.{length, set, take, length-set}
use lib.Seq.{take-suc-set}
use Rattle.sheet.specs.Limits.{max_entries}
use Rattle.sheet.specs.Node.{next}
use Rattle.sheet.specs.Rest.{rest}
use Rattle.sheet.specs.Walk.{sibling_list}
use Rattle.sheet.specs.declared.Siblings.{Siblings}
use Rattle.lowering.specs.SwitchSheet.{nodes_from}
use Rattle.switch_tables.proofs.NodesLaws.{nodes-length, nodes-read}

-- one more behind the first n
pub push : (room : List ℕ) {xs : List ℕ} (n y : ℕ) → n < length room → take n room ≡ xs → take (n + 1) (set room n y) ≡ xs ++ (y ∷ [])
push room n y wide e = rw add-one (take-suc-set room n y wide) ∙ ap (λ (l : List ℕ). l ++ (y ∷ [])) e

-- the walk goes over the nodes of the definition
siblings-are : (s : List ℕ) (n j : ℕ) → sibling_list s n j ≡ nodes_from s n j
unfolding sibling_list nodes_from
siblings-are s zero j = refl
siblings-are s (suc n) j = ap (λ (xs : List ℕ). j ∷ xs) (siblings-are s n (next s j))

pub rest-is : {w v : Siblings} {s : List ℕ} {n j : ℕ} → w ≡ v → v.sheet.now ≡ s → v.left ≡ n → v.at ≡ j → rest w ≡ nodes_from s n j
rest-is {w} {v} {s} {n} {j} e a b c = rw (e, a, b, c) (siblings-are s n j)

-- of the nodes `all` those before `left` are read by f into the front of the room, i of them
pub record Reading (f : ℕ → ℕ) (all start room : List ℕ) (i : ℕ) (left : List ℕ) : Type 0 where
  pub few : length all ≤ max_entries
  pub same : length room ≡ length start
  pub count : i + length left ≡ length all
  pub list : max_entries ≤ length start → take i room ++ map f left ≡ map f all

pub reading-start : (f : ℕ → ℕ) (s : List ℕ) (n j : ℕ) (all room : List ℕ) (i : ℕ) → all ≡ nodes_from s n j → n ≤ max_entries → i ≡ 0
    → Reading f all room room i all
reading-start f s n j all room i e few z = record {
  few = omega (arith, ap length e ∙ nodes-length s n j);
  same = refl;
  count = omega arith;
  list = λ wide. rw z refl;
}

module _ (f : ℕ → ℕ) (all start room : List ℕ) (i : ℕ) (left : List ℕ) (c : Reading f all start room i left) where
  pub reading-on : (j y p : ℕ) (v more : List ℕ) (i' : ℕ) → left ≡ j ∷ more → p ≡ i → i' ≡ i + 1 → y ≡ f j → v ≡ set room p y
      → Reading f all start v i' more
  reading-on j y p v more i' e p-is q y-is w =
      let shorter : length left ≡ suc (length more) = ap length e in
      record {
        few = c.few;
        same = ap length w ∙ length-set room p y ∙ c.same;
        count = omega (arith, c.count);
        list = λ wide.
            let front : take i' v ≡ take i room ++ (f j ∷ []) =
            rw (q, w, p-is, y-is) (push room i (f j) (omega (arith, c.count, c.few, c.same)) refl) in
            ap (λ (l : List ℕ). l ++ map f more) front
            ∙ append_assoc (take i room) (f j ∷ []) (map f more)
            ∙ ap (λ (l : List ℕ). take i room ++ map f l) (sym e)
            ∙ c.list wide;
      }

  pub reading-end : (s : List ℕ) (n j₀ m : ℕ) (whole : List ℕ) → left ≡ [] → all ≡ nodes_from s n j₀ → n ≡ min m max_entries
      → map f (nodes_from s m j₀) ≡ whole → (x : ℕ) → x ≡ min n (length room) → max_entries ≤ length start
      → take x room ≡ take max_entries whole
  reading-end s n j₀ m whole e nodes n-is q x x-is wide =
      let none : length left ≡ 0 = ap length e in
      let long : length all ≡ n = ap length nodes ∙ nodes-length s n j₀ in
      let is : x ≡ i = omega (arith, c.count, c.few, c.same) in
      ap (λ (k : ℕ). take k room) is
      ∙ sym (append-nil (take i room))
      ∙ ap (λ (l : List ℕ). take i room ++ map f l) (sym e)
      ∙ c.list wide
      ∙ ap (map f) nodes
      ∙ ap (λ (k : ℕ). map f (nodes_from s k j₀)) n-is
      ∙ nodes-read s f max_entries m j₀
      ∙ ap (take max_entries) q

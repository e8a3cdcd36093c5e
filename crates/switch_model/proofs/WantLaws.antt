-- Which blocks have a body, by the lists of blocks.
use Prim.Native.Nat.{ℕ, suc, ◌+◌}
use mathlib.Core.Path.{◌≡◌, refl, sym, ap, ◌∙◌}
use mathlib.Core.Bool.{Bool, false, ◌||◌, or_assoc}
use mathlib.Core.List.{List, [], ◌∷◌}
use lib.Dec.{eqb}
use lib.ListN.{length}
use Rattle.lowering.proofs.DropLaws.{entry-wants, wanted-drop, wanted-append}
use Rattle.switch_split.specs.Split as Split
use Rattle.lowering.specs.Pools.{Pools, emits}
use Rattle.lowering.specs.Out.{Rec}
use Rattle.lowering.specs.SwitchSheet.{default_block, guard_of}
use Rattle.lowering.specs.Arms.{Tries, Arm, Guard, never, always, tried, guard_kind, try_at, tries_of, entry_extent, arm_chains, distinct_from}
use Rattle.lowering.specs.Arms.{distinct}
use Rattle.lowering.specs.Bodies.{try_wants, end_wants, wanted}
use Rattle.lowering.specs.SwitchLaid.{lay_cases, case_arms_of, lay_ranges, layout}
use Rattle.switch_model.specs.Change.{case_lists, range_lists}
use Rattle.switch_model.proofs.TryLaws.{of-never, of-always, of-tried}
use Rattle.switch_model.proofs.ArmLaws.{entry_at, arm_pools}
use Rattle.switch_model.proofs.BodyLaws.{wanted_in}
use Rattle.switch_model.proofs.SwitchLaws.{wanted_of}

-- block k is tried or taken for a list of blocks
unfoldable pub list_wants : List ℕ → ℕ → List ℕ → Bool
list_wants s k [] = false
list_wants s k (j ∷ js) =
    elim (guard_kind s (guard_of s j)) [
      | never ↦ list_wants s k js
      | always ↦ eqb k j
      | tried ↦ eqb k j || list_wants s k js
    ]

-- for one of the lists
unfoldable pub lists_want : List ℕ → ℕ → List (List ℕ) → Bool
lists_want s k [] = false
lists_want s k (l ∷ ls) = list_wants s k l || lists_want s k ls

module _ (s : List ℕ) (k : ℕ) where
  module _ (j : ℕ) (js : List ℕ) where
    wants-never : guard_kind s (guard_of s j) ≡ never → list_wants s k (j ∷ js) ≡ list_wants s k js
    unfolding list_wants
    wants-never h = rw (h, list_wants)

    wants-always : guard_kind s (guard_of s j) ≡ always → list_wants s k (j ∷ js) ≡ eqb k j
    unfolding list_wants
    wants-always h = rw (h, list_wants)

    wants-tried : guard_kind s (guard_of s j) ≡ tried → list_wants s k (j ∷ js) ≡ (eqb k j || list_wants s k js)
    unfolding list_wants
    wants-tried h = rw (h, list_wants)

  abbrev tries_want : Tries → Bool
  tries_want t = try_wants k t.tries || end_wants k t.end

  tries-want : (rec : Rec) (ks : List ℕ) (b : ℕ) (p : Pools) → tries_want (tries_of s rec ks b p) ≡ list_wants s k ks
  unfolding tries_of list_wants try_wants end_wants try_at
  tries-want rec [] b p = refl
  tries-want rec (j ∷ js) b p = by (guard_kind s (guard_of s j)) refl (tries-want rec js)
    where
      by : (g : Guard) → guard_kind s (guard_of s j) ≡ g → ((b : ℕ) (p : Pools) → tries_want (tries_of s rec js b p) ≡ list_wants s k js)
          → tries_want (tries_of s rec (j ∷ js) b p) ≡ list_wants s k (j ∷ js)
      by never h more = ap tries_want (of-never s j js rec b p h) ∙ more b p ∙ sym (wants-never j js h)
      by always h more = ap tries_want (of-always s j js rec b p h) ∙ sym (wants-always j js h)
      by tried h more =
          let o = rec (guard_of s j) b 1 p in
          let r = tries_of s rec js (b + length o.code + 1) (emits 1 o.pools) in
          ap tries_want (of-tried s j js rec b p h)
          ∙ or_assoc (eqb k j) (try_wants k r.tries) (end_wants k r.end)
          ∙ ap (λ t. eqb k j || t) (more (b + length o.code + 1) (emits 1 o.pools))
          ∙ sym (wants-tried j js h)

  arms-want : (rec : Rec) (ls : List (List ℕ)) (b : ℕ) (p : Pools) → wanted k (arm_chains s rec ls b p).arms ≡ lists_want s k ls
  unfolding arm_chains wanted lists_want
  arms-want rec [] b p = refl
  arms-want rec (l ∷ ls) b p =
      let t = tries_of s rec l b p in
      rw (
        entry-wants k b t.tries t.end,
        tries-want rec l b p,
        arms-want rec ls (b + entry_extent (entry_at s rec l b p)) (arm_pools s rec l b p),
      )

  case-arms : (es : List Split.Entry) (as' : List Arm) → wanted k (case_arms_of es as') ≡ wanted k as'
  unfolding case_arms_of
  case-arms [] as' = refl
  case-arms (e ∷ es) as' = wanted-drop k as'

  range-arms : (rec : Rec) (es : List Split.Entry) (b : ℕ) (p : Pools)
      → wanted k (lay_ranges s rec es b p).arms ≡ lists_want s k (range_lists es)
  unfolding lay_ranges wanted lists_want distinct distinct_from
  range-arms rec [] b p = refl
  range-arms rec (e ∷ es) b p = arms-want rec (range_lists (e ∷ es)) (b + 1) (emits 1 p)

  -- a body is laid out for the default block, and for the blocks of the lists
  pub want_is : (rec : Rec)
      → wanted_of (default_block s) (layout s rec) k
      ≡ (eqb (default_block s) (suc k) || (lists_want s k (case_lists s) || lists_want s k (range_lists (layout s rec).splits)))
  unfolding layout wanted_in lay_cases
  want_is rec =
      let l = layout s rec in
      ap (λ t. eqb (default_block s) (suc k) || t)
      (wanted-append k l.case_arms l.range_arms
      ∙ ap (λ t. t || wanted k l.range_arms) (case-arms l.splits _ ∙ arms-want rec (case_lists s) _ _)
      ∙ ap (λ t. lists_want s k (case_lists s) || t) (range-arms rec l.splits _ _))

-- What the flat table says of guards, of chains and of heads, in the words of the definition.
use Rattle.std.proofs.Common.{◌≡◌, ℕ, zero, suc, ◌+◌, ◌<◌, ◌≤◌, min, Bool, true, false, ltb, List, [], ◌∷◌, length, get_or, sym, refl, ap}
use Rattle.std.proofs.Common.{◌∙◌, add-one, arith, le-ltb, eq-eqb, ne_eqb}
use borrow.Table.Steps.{cases}
use borrow.Author.Tests.{le-leb, lt-leb}
use lib.Dec.{leb}
use mathlib.Core.Bool.{true≢false}
use native.Mathlib.Decide.{ℕ_discrete, dec_le}
use Rattle.std.specs.Prelude.{Option, None, Some}
use Rattle.sheet.specs.Limits.{max_entries}
use Rattle.lowering.specs.SwitchSheet.{guard_of}
use Rattle.lowering.specs.Arms.{End, taken, declined, idle, Guard, never, always, tried, guard_kind}
use Rattle.expr_model.specs.Made.{Made}
use Rattle.scratch.specs.declared.Layout.{Layout}
use Rattle.scratch_store.specs.declared.State.{State}
use Rattle.scratch_store.specs.Does.{Left}
use Rattle.switch_model.specs.Change as change
use Rattle.switch_model.specs.Last.{last_of}
use Rattle.switch_model.proofs.LastLaws.{last-passes, last-fails, tried_at}
use Rattle.switch_count.specs.Arms.{has_try, end_of}
use Rattle.switch_count.specs.Total.{case_lists}
use Rattle.expr_count.specs.Count.{Rec}
use Rattle.switch_tables.specs.declared.kinds.Guard as Word
use Rattle.switch_tables.specs.Kinds.{said_guard}
use Rattle.switch_tables.specs.Table.{known_of}
use Rattle.switch_tables.proofs.KindLaws.{rule_by, rule-said}
use Rattle.switch_tables.specs.Planned.{exit_by, Placed}
use Rattle.switch_emit.specs.Parts.{chain_in, LastBelow, is_at}

-- ---- guards

pub guard-is : (s : List ℕ) (t : Rec) (g : ℕ) (v : Word.Guard) → v ≡ said_guard (known_of s t g).kind → guard_kind s g ≡ rule_by v
unfolding known_of
guard-is s t g v e = sym (rule-said (guard_kind s g) _) ∙ ap rule_by (sym e)

-- what is left, in other words
pub left-next : {s : List ℕ} {l : Layout} {xs ys : List ℕ} {st r : State} {F G : Made → Made} (H : Made → Made) → Left s l xs st F ys r G
    → ((b : Made) → G b ≡ H b) → Left s l xs st F ys r H
left-next H left e = record {
  each = λ a h f. let o = left.each a h f in record { now = o.now; held = o.held; same = sym (e o.now) ∙ o.same };
}

-- ---- the last head that has a chain

same-tries : (s ks : List ℕ) → has_try s ks ≡ change.any_tried s ks
unfolding has_try change.any_tried
same-tries s [] = refl
same-tries s (k ∷ ks) = by (guard_kind s (guard_of s k)) refl (same-tries s ks)
  where
    by : (g : Guard) → guard_kind s (guard_of s k) ≡ g → has_try s ks ≡ change.any_tried s ks
        → has_try s (k ∷ ks) ≡ change.any_tried s (k ∷ ks)
    by never e more = rw (e, has_try, change.any_tried) more
    by always e more = rw (e, has_try, change.any_tried)
    by tried e more = rw (e, has_try, change.any_tried)

exit-chain : (b : Bool) (e : End) → ltb (exit_by b e) 2 ≡ b
unfolding exit_by
exit-chain true (taken k) = refl
exit-chain true declined = refl
exit-chain true idle = refl
exit-chain false (taken k) = le-ltb (k + 3) 2 (omega arith)
exit-chain false declined = refl
exit-chain false idle = refl

last-same : (f g : ℕ → Bool) (n : ℕ) → ((i : ℕ) → i < n → f i ≡ g i) → last_of f n ≡ last_of g n
unfolding last_of
last-same f g zero h = refl
last-same f g (suc n) h =
    let q = h n (omega arith) in
    cases (f n) (λ e. rw (e, sym q ∙ e, last_of)) (λ e. rw (e, sym q ∙ e, last_of) (last-same f g n (λ i l. h i (omega arith))))

pub chain-is : (s w : List ℕ) → Placed s w → (i : ℕ) → i < length (change.case_lists s)
    → chain_in w i ≡ change.any_tried s (get_or (change.case_lists s) i [])
unfolding case_lists
chain-is s w P i l =
    let ks = get_or (change.case_lists s) i [] in
    ap (λ (x : ℕ). ltb x 2) (P.case_chains.exits i l) ∙ exit-chain (has_try s ks) (end_of s ks) ∙ same-tries s ks

pub last-chain : (s w : List ℕ) (n : ℕ) → Placed s w → n ≡ length (change.case_lists s)
    → last_of (chain_in w) n ≡ last_of (tried_at s (change.case_lists s)) (length (change.case_lists s))
last-chain s w n P e =
    let ls = change.case_lists s in
    rw e (last-same (chain_in w) (tried_at s ls) (length ls) (chain-is s w P))

-- ---- the last, as a search from behind finds it

module _ (test : ℕ → Bool) where
  last-is : (n i : ℕ) → i < n → test i ≡ true → ((k : ℕ) → i < k → k < n → test k ≡ false) → last_of test n ≡ suc i
  last-is zero i l t h = absurd (omega arith)
  last-is (suc n) i l t h =
      elim (ℕ_discrete i n) [
        | yes e ↦ ap (last_of test) (sym (add-one n)) ∙ last-passes test n (rw e at t) ∙ omega (arith, e)
        | no e ↦
            ap (last_of test) (sym (add-one n)) ∙ last-fails test n (h n (omega arith) (omega arith))
            ∙ last-is n i (omega arith) t (λ k a b. h k a (omega arith))
      ]

  -- of those that pass, the one behind which none passes
  pub last-at : (n i : ℕ) (r : Option ℕ) → LastBelow test n r → i < n → test i ≡ true → is_at r i ≡ leb (last_of test n) (i + 1)
  last-at n i None h l t = absurd (true≢false (sym t ∙ h i l))
  last-at n i (Some k) h l t =
      rw (last-is n k h.0 h.1 h.2)
      (elim (ℕ_discrete k i) [
        | yes e ↦ eq-eqb k i e ∙ sym (le-leb (suc k) (i + 1) (omega (arith, e)))
        | no e ↦
            elim (dec_le k i) [
              | yes g ↦ absurd (true≢false (sym t ∙ h.2 i (omega arith) l))
              | no g ↦ ne_eqb k i e ∙ sym (lt-leb (suc k) (i + 1) (omega arith))
            ]
      ])

-- ---- counts

-- not cut off
pub capped-all : (n m b top : ℕ) → n ≡ min m top → m ≡ b → b ≤ top → n ≡ b
capped-all n m b top e h l = omega arith

pub capped-below : (n m b i : ℕ) → n ≡ min m max_entries → m ≡ b → i < n → i < b
capped-below n m b i e h l = omega arith

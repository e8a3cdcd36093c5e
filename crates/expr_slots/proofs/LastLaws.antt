-- A search among the numbers below n, the last one first, as a chain over a range answers it.
use Prim.Native.Nat.{ℕ, zero, suc, ◌+◌, ◌-◌, ◌<◌}
use mathlib.Core.Path.{◌≡◌, refl, sym, ap, ap₂, ◌∙◌}
use mathlib.Core.Bool.{Bool, true, false}
use mathlib.Core.List.{List, [], ◌∷◌}
use native.Mathlib.Omega.{arith}
use lib.ListN.{length}
use denote.Param.Members.{Mut}
use denote.Ref.{Bor}
use Rattle.std.specs.Prelude.{Option, Some, None, cond, IfSome}
use Rattle.std.specs.List.{find, FoldsTo}
use Rattle.std.specs.Fn.{CalledAt}
use Rattle.std.specs.Iterator.{YieldsThen}
use Rattle.std.specs.Option.{MatchOption, option_map}
use Rattle.std.specs.Iterator.Adapters.{rev_source, rev_steps}
use Rattle.std.specs.declared.ops.Range.{Range}
use Rattle.std.specs.declared.iter.Rev.{Rev}
use Rattle.std.proofs.lemmas.Iterator.{YieldsList}
use Rattle.std.proofs.lemmas.Iterator.Consumers.{YieldsList-from_shown}
use Rattle.std.proofs.lemmas.Iterator.Search.{find_from_yields_List}
use Rattle.text.specs.Same.{same}
use Rattle.sheet.specs.Node.{local_text}
use Rattle.sheet.specs.Text.{text}
use Rattle.lowering.specs.Slots.{resolve_below}
use Rattle.expr_slots.specs.Found.{found}
use Rattle.expr_slots.proofs.SlotLaws.{takes-last, passes-last}

-- n numbers from a on, the last one first
pub down : ℕ → ℕ → List ℕ
down a zero = []
down a (suc n) = (a + n) ∷ down a n

abbrev pub back : Range ℕ → Option ℕ → Range ℕ → Type 0
back s r t = (t.start ≡ s.start) × MatchOption r ((s.end - s.start ≡ 0) × (t.end ≡ s.end)) (λ x. (0 < s.end - s.start) × (x ≡ t.end) × (s.end ≡ t.end + 1))

first-down : (a n b m x : ℕ) → n ≡ suc m → x ≡ a + m → b ≡ a → down a n ≡ x ∷ down b m
unfolding down
first-down a n b m x e f g = ap (down a) e ∙ ap (λ w. w ∷ down a m) (sym f) ∙ ap (λ w. x ∷ down w m) (sym g)

yields-down : (s : Rev (Range ℕ)) → YieldsList (rev_steps back) (λ x. x) s (down (rev_source s).start ((rev_source s).end - (rev_source s).start))
unfolding down
yields-down =
    YieldsList-from_shown (rev_steps back) (λ x. x) (λ u. down (rev_source u).start ((rev_source u).end - (rev_source u).start))
    (λ s t p. ap (λ n. length (down (rev_source s).start n)) p.1.0)
    (λ s x t p.
    first-down (rev_source s).start ((rev_source s).end - (rev_source s).start) (rev_source t).start ((rev_source t).end - (rev_source t).start) x
    (omega (arith, p.0, p.1.0, p.1.2)) (omega (arith, p.0, p.1.0, p.1.1, p.1.2)) p.0)

as-is : (r : Option ℕ) → r ≡ option_map (λ x. x) r
as-is None = refl
as-is (Some x) = refl

pub found-down : {F : Type 0} {g : Mut F (Bor ℕ × Unit {0}) Bool} {s : Rev (Range ℕ)} (test : ℕ → Bool) (u : Rev (Range ℕ)) (f : F) (n : ℕ) (r : Option ℕ)
    → (xs : List ℕ) × (j : F) × YieldsThen (rev_steps back) s xs r u × FoldsTo (λ p x q. CalledAt g p x false q) f xs j × IfSome r (λ x. (h : F) × CalledAt g j x true h)
    → rev_source s ≡ record { start = 0; end = n } → ((x : ℕ) (b : Bool) (q : F) → CalledAt g f x b q → (q ≡ f) × (b ≡ test x)) → r ≡ find test (down 0 n)
found-down {s = s} test u f n r d e k =
    as-is r
    ∙ find_from_yields_List test u f r d (yields-down s) k
    ∙ ap (λ (w : Range ℕ). find test (down w.start (w.end - w.start))) e
    ∙ ap (λ w. find test (down 0 w)) (omega arith)

-- two tests that agree below n find the same
pub found-same : (f g : ℕ → Bool) (n : ℕ) → ((x : ℕ) → x < n → f x ≡ g x) → find f (down 0 n) ≡ find g (down 0 n)
unfolding down
found-same f g zero h = refl
found-same f g (suc n) h =
    ap₂ (λ b r. cond b (Some (0 + n)) r) (h (0 + n) (omega arith)) (found-same f g n (λ x l. h x (omega arith)))

module _ (s name : List ℕ) where
  abbrev pub test : ℕ → Bool
  test v = same (text s (local_text s v)) name

  one-more : (n : ℕ) → find test (down 0 n) ≡ found (resolve_below n s name)
      → find test (down 0 (suc n)) ≡ found (resolve_below (suc n) s name)
  unfolding found down
  one-more n before = by (test n) refl
    where
      rest : Option ℕ
      rest = find test (down 0 n)

      first : find test (down 0 (suc n)) ≡ cond (test n) (Some n) rest
      first = ap (λ k. cond (test k) (Some k) rest) (omega arith)

      by : (b : Bool) → test n ≡ b → find test (down 0 (suc n)) ≡ found (resolve_below (suc n) s name)
      by true h = first ∙ ap (λ c. cond c (Some n) rest) h ∙ sym (ap found (takes-last s name n h))
      by false h = first ∙ ap (λ c. cond c (Some n) rest) h ∙ before ∙ sym (ap found (passes-last s name n h))

  -- the last local with the name
  pub last-found : (n : ℕ) → find test (down 0 n) ≡ found (resolve_below n s name)
  unfolding found resolve_below down
  last-found zero = refl
  last-found (suc n) = one-more n (last-found n)

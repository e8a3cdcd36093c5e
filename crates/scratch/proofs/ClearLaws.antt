-- Words that are set to 0, one by one: all of them are 0, and no other word changes; so a run that is filled at once is the same.
use Prim.Native.Nat.{ℕ, zero, suc, ◌+◌, ◌-◌, ◌≤◌, ◌<◌, min}
use mathlib.Core.Path.{◌≡◌, refl, sym, ap, ◌∙◌}
use mathlib.Core.List.{List}
use native.Mathlib.Omega.{arith}
use native.Mathlib.Decide.{dec_lt}
use lib.ListN.{length, get_or, set, take, drop, length-set, replicate, length-replicate, get_or-replicate}
use lib.Seq.{get_or-set_same, get_or-set_other}
use borrow.Author.Rules.{rules}
use borrow.Rule.Slice.PartMut.{put_mid}
use Rattle.std.proofs.lemmas.List.{places, same_lists, get_or_default}
use Rattle.scratch.specs.Clear.{cleared}

pub cleared-length : (at n : ℕ) (xs : List ℕ) → length (cleared at n xs) ≡ length xs
unfolding cleared
cleared-length at zero xs = refl
cleared-length at (suc n) xs = length-set (cleared at n xs) (at + n) 0 ∙ cleared-length at n xs

-- no other word changes
pub cleared-other : (at n : ℕ) (xs : List ℕ) (i : ℕ) → ((k : ℕ) → k < n → at + k ≡ i → ⊥) → get_or (cleared at n xs) i 0 ≡ get_or xs i 0
unfolding cleared
cleared-other at zero xs i off = refl
cleared-other at (suc n) xs i off =
    get_or-set_other (cleared at n xs) (at + n) i 0 0 (λ q. off n (omega arith) (sym q))
    ∙ cleared-other at n xs i (λ k l q. off k (omega arith) q)

-- each is 0, where it is there
cleared-here : (at n : ℕ) (xs : List ℕ) (k : ℕ) → at ≤ k → k < at + n → k < length xs → get_or (cleared at n xs) k 0 ≡ 0
unfolding cleared
cleared-here at zero xs k low high room = absurd (omega arith)
cleared-here at (suc n) xs k low high room = by (dec_lt k (at + n)) (λ d. cleared-here at n xs k low d room)
  where
    by : Dec (k < at + n) → (k < at + n → get_or (cleared at n xs) k 0 ≡ 0) → get_or (set (cleared at n xs) (at + n) 0) k 0 ≡ 0
    by (yes d) r = get_or-set_other (cleared at n xs) (at + n) k 0 0 (λ q. omega arith) ∙ r d
    by (no d) r =
        let z : k ≡ at + n = omega arith in
        let m = cleared-length at n xs in
        ap (λ (i : ℕ). get_or (set (cleared at n xs) (at + n) 0) i 0) z ∙ get_or-set_same (cleared at n xs) (at + n) 0 0 (omega arith)

pub cleared-zero : (at n : ℕ) (xs : List ℕ) → at + n ≤ length xs → (k : ℕ) → k < n → get_or (cleared at n xs) (at + k) 0 ≡ 0
cleared-zero at n xs room k l = cleared-here at n xs (at + k) (omega arith) (omega arith) (omega arith)

-- a run that is filled, cut off at the end of the words, where no word is left to set
module _ (at n start stop : ℕ) (xs ys : List ℕ) (from : start ≡ min at (length xs)) (to : stop ≡ min (start + n) (length xs))
    (filled : ys ≡ replicate (length (take (stop - start) (drop start xs))) 0) where
  zeros : ys ≡ replicate (stop - start) 0
  zeros =
      let l : length (take (stop - start) (drop start xs)) ≡ stop - start = search (rules, places) in
      filled ∙ ap (λ (m : ℕ). replicate m 0) l

  run-length : length (put_mid start (stop - start) xs ys) ≡ length xs
  run-length = let l : length ys ≡ stop - start = ap length zeros ∙ length-replicate (stop - start) 0 in search (rules, places)

  run-at : (k : ℕ) → k < length xs → Dec (k < start) → Dec (k < stop)
      → get_or (put_mid start (stop - start) xs ys) k 0 ≡ get_or (cleared at n xs) k 0
  run-at k h (yes a) b =
      let l : length ys ≡ stop - start = ap length zeros ∙ length-replicate (stop - start) 0 in
      let e : get_or (put_mid start (stop - start) xs ys) k 0 ≡ get_or xs k 0 = search (rules, places) in
      e ∙ sym (cleared-other at n xs k (λ i m q. omega arith))
  run-at k h (no a) (yes b) =
      let l : length ys ≡ stop - start = ap length zeros ∙ length-replicate (stop - start) 0 in
      let e : get_or (put_mid start (stop - start) xs ys) k 0 ≡ get_or ys (k - start) 0 = search (rules, places) in
      let z : get_or ys (k - start) 0 ≡ 0 =
      ap (λ (l : List ℕ). get_or l (k - start) 0) zeros ∙ get_or-replicate (stop - start) (k - start) 0 0 (omega arith) in
      e ∙ z ∙ sym (cleared-here at n xs k (omega arith) (omega arith) h)
  run-at k h (no a) (no b) =
      let l : length ys ≡ stop - start = ap length zeros ∙ length-replicate (stop - start) 0 in
      let e : get_or (put_mid start (stop - start) xs ys) k 0 ≡ get_or xs k 0 = search (rules, places) in
      e ∙ sym (cleared-other at n xs k (λ i m q. omega arith))

  pub cleared-run : put_mid start (stop - start) xs ys ≡ cleared at n xs
  cleared-run =
      same_lists _ _ (run-length ∙ sym (cleared-length at n xs))
      (λ k d h.
      let m = run-length in
      let c = cleared-length at n xs in
      get_or_default _ k d 0 h ∙ run-at k (omega arith) (dec_lt k start) (dec_lt k stop) ∙ get_or_default _ k 0 d (omega arith))

-- Laws of the numbers' checks on what the code has read, each in the form of one answer.
use Prim.Native.Nat.{ℕ, ◌+◌, ◌<◌, ◌≤◌}
use mathlib.Core.Path.{◌≡◌, refl, ap, sym, subst, ◌∙◌}
use mathlib.Core.Bool.{Bool, true, false, ◌&&◌, ◌||◌, not}
use mathlib.Core.List.{List}
use native.Mathlib.Omega.{arith}
use lib.Dec.{leb, ltb, eqb}
use Rattle.words.specs.Word.{word}
use Rattle.words.specs.Count.{all_below}
use Rattle.words.proofs.CountLaws.{all-fails}
use Rattle.sheet.specs.Sections.{text_count, locals_at}
use Rattle.sheet.specs.Node.{kind, field_a, field_b, field_c, namespace_word, local_text_by}
use Rattle.sheet.specs.Kinds.{property_kind, switch_kind, range_kind, ref_kind}
use Rattle.check_numbers.specs.Numbers.{names_text, exist, number_by, number_among, local_by, local_ok}

-- the tests of a node's numbers, where r says whether it names a text
pub exist-read : (X K k a b c x : ℕ) {r : Bool} → r ≡ names_text k
    → (leb x X
    && (not r || ltb a X)
    && (not (eqb k property_kind) || (ltb b X && ltb c X))
    && (not (eqb k switch_kind) || leb c K)
    && (not (eqb k range_kind) || ltb b K)
    && (not (eqb k ref_kind) || ltb a K))
    ≡ exist X K k a b c x
unfolding exist
exist-read X K k a b c x h = cc

-- the test r of node n, on its kind, fields and namespace as they were read
pub among-read : (s : List ℕ) (X K n : ℕ) {k a b c x : ℕ} {r : Bool} → k ≡ kind s n → a ≡ field_a s n → b ≡ field_b s n → c ≡ field_c s n
    → x ≡ namespace_word s n → r ≡ exist X K k a b c x → r ≡ number_among s X K n
unfolding number_by
among-read s X K n hk ha hb hc hx h = cc

-- the test of the name of local l, as it is read
pub local-read : (s : List ℕ) (l : ℕ) {x at : ℕ} → x ≡ text_count s → at ≡ locals_at s → ltb (word s (at + l)) x ≡ local_ok s l
unfolding local_by local_text_by
local-read s l hx ha = rw (hx, ha) refl

-- A test of each number below m, which was read as the count k.
module _ (f : ℕ → Bool) {m k : ℕ} (read : m ≡ k) where
  pub below_fails : {n : ℕ} {r : Bool} → n < m → r ≡ f n → r ≡ false → false ≡ all_below k f
  below_fails {n} h p e = sym (all-fails f k n (subst (λ x. n < x) read h) (sym p ∙ e))

  pub below_all : {n : ℕ} → n ≤ m → m ≤ n → all_below n f ≡ true → true ≡ all_below k f
  below_all {n} g h q =
      let same : k ≡ n = omega arith in
      sym (ap (λ x. all_below x f) same ∙ q)

-- The table has the effects' numbers; what an instruction pushes and pops is small.
use Prim.Native.Nat.{ℕ, zero, suc, ◌+◌, ◌-◌, ◌*◌, ◌/◌, ◌%◌, ◌≤◌, ◌<◌}
use mathlib.Core.Path.{◌≡◌, refl, sym, ap, ◌∙◌, subst}
use mathlib.Core.Bool.{Bool, true, false}
use mathlib.Core.List.{List, [], ◌∷◌, ◌++◌}
use native.Mathlib.Omega.{arith}
use borrow.Author.Tests.{eq-eqb, ne_eqb, eqb-true, eqb-false, ltb-true, ltb-false, leb-true}
use lib.Dec.{eqb, ltb, leb}
use lib.ListN.{get_or, get_or-eq_default}
use Rattle.words.specs.Count.{all_below}
use Rattle.words.proofs.CountLaws.{all-at}
use Rattle.bytecode.specs.Effect.{Effect, row, effects, effect, ref_argc, Count, fixed, argc, argc_ref, pops_a, needs_a, operands, on}
use Rattle.bytecode.specs.Effect.{popped}
use Rattle.bytecode.specs.Table.{count_number, flow_number, numbers_of, numbers, effect_table, entry}

-- number f of element k
none : Effect
none = row 0 0 0 fixed on

-- numbers past the list are 0
numbers-none : (f : ℕ) → f < 5 → get_or (numbers_of none) f 0 ≡ 0
unfolding numbers_of count_number flow_number none
numbers-none zero h = refl
numbers-none (suc zero) h = refl
numbers-none (suc (suc zero)) h = refl
numbers-none (suc (suc (suc zero))) h = refl
numbers-none (suc (suc (suc (suc zero)))) h = refl
numbers-none (suc (suc (suc (suc (suc f))))) h = absurd (omega arith)

-- the first five numbers are those of the first effect, the others those of the rest
front : (e : Effect) (l : List ℕ) (f : ℕ) → f < 5 → get_or (numbers_of e ++ l) f 0 ≡ get_or (numbers_of e) f 0
unfolding numbers_of
front e l zero h = refl
front e l (suc zero) h = refl
front e l (suc (suc zero)) h = refl
front e l (suc (suc (suc zero))) h = refl
front e l (suc (suc (suc (suc zero)))) h = refl
front e l (suc (suc (suc (suc (suc f))))) h = absurd (omega arith)

behind : (e : Effect) (l : List ℕ) (i : ℕ) → get_or (numbers_of e ++ l) (suc (suc (suc (suc (suc i))))) 0 ≡ get_or l i 0
unfolding numbers_of
behind e l i = refl

-- number f of effect k
numbers-at : (es : List Effect) (k f : ℕ) → f < 5 → get_or (numbers es) (5 * k + f) 0 ≡ get_or (numbers_of (get_or es k none)) f 0
unfolding numbers
numbers-at [] k f h = sym (numbers-none f h)
numbers-at (e ∷ es) zero f h =
    let here : 5 * zero + f ≡ f = omega arith in
    ap (λ (i : ℕ). get_or (numbers_of e ++ numbers es) i 0) here ∙ front e (numbers es) f h
numbers-at (e ∷ es) (suc k) f h =
    let more : 5 * suc k + f ≡ suc (suc (suc (suc (suc (5 * k + f))))) = omega arith in
    ap (λ (i : ℕ). get_or (numbers_of e ++ numbers es) i 0) more ∙ behind e (numbers es) (5 * k + f) ∙ numbers-at es k f h

-- the code reads the entry
pub table-entry : (kind f : ℕ) → f < 5 → get_or effect_table (5 * kind + f) 0 ≡ entry kind f
unfolding entry effect none
table-entry kind f h = numbers-at effects kind f h

none-pushes : none.pushes ≤ 1
unfolding none
none-pushes = omega arith

-- a kind past the table has no effect
past : (kind : ℕ) → 25 ≤ kind → effect kind ≡ none
unfolding effect none
past kind h = get_or-eq_default effects (row 0 0 0 fixed on) h

-- and kind 0 has none
pub no_effect : (kind : ℕ) → (1 ≤ kind → 25 ≤ kind) → effect kind ≡ row 0 0 0 fixed on
unfolding effect none
no_effect zero h = refl
no_effect (suc k) h = past (suc k) (h (omega arith))

-- no instruction pushes more than one
pub pushes-one : (kind : ℕ) → (effect kind).pushes ≤ 1
unfolding all_below effect
pushes-one kind = by (ltb kind 25) refl
  where
    by : (t : Bool) → ltb kind 25 ≡ t → (effect kind).pushes ≤ 1
    by true h = leb-true (effect kind).pushes 1 (all-at (λ (k : ℕ). leb (effect k).pushes 1) 25 kind refl (ltb-true kind 25 h))
    by false h = subst (λ (e : Effect). e.pushes ≤ 1) (sym (past kind (ltb-false kind 25 h))) none-pushes

-- in the shapes of the code
pub ref-local : (b : ℕ) → b / 256 ≡ 0 → b % 256 - 1 ≡ ref_argc b
unfolding ref_argc
ref-local b h = rw (eq-eqb (b / 256) 0 h, ref_argc)

pub ref-other : (b : ℕ) → (b / 256 ≡ 0 → ⊥) → b % 256 ≡ ref_argc b
unfolding ref_argc
ref-other b h = rw (ne_eqb (b / 256) 0 h, ref_argc)

-- a count of arguments is less than 256
ref-small : (b : ℕ) → ref_argc b < 256
ref-small b = by (eqb (b / 256) 0) refl
  where
    by : (t : Bool) → eqb (b / 256) 0 ≡ t → ref_argc b < 256
    by true e = let z = ref-local b (eqb-true (b / 256) 0 e) in omega arith
    by false e = let z = ref-other b (eqb-false (b / 256) 0 e) in omega arith

-- a bound of a and of what a chain takes bounds what is popped on top
pub popped-small : (t : Count) (a b n m : ℕ) → 256 ≤ m → a ≤ m → n ≤ m → popped t a b n ≤ m
unfolding popped
popped-small fixed a b n m h ha hn = omega arith
popped-small argc a b n m h ha hn = omega arith
popped-small argc_ref a b n m h ha hn = let r = ref-small b in omega arith
popped-small pops_a a b n m h ha hn = ha
popped-small needs_a a b n m h ha hn = omega arith
popped-small operands a b n m h ha hn = hn

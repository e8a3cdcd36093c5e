-- The definition's answer put behind what has been made: how emitting and lowering go on from there.
use Prim.Native.Nat.{ℕ, suc, ◌+◌}
use mathlib.Core.Path.{◌≡◌, refl, sym, ap, ◌∙◌}
use mathlib.Core.List.{[], ◌∷◌, ◌++◌, append_assoc, append-nil}
use native.Mathlib.Omega.{arith}
use lib.ListN.{length, length-append}
use Rattle.bytecode.specs.declared.Op.{Op}
use Rattle.lowering.specs.Code.{Ins, Code, ins}
use Rattle.lowering.specs.Pools.{Pools, emits}
use Rattle.lowering.specs.Out.{Out, out, Rec, and_then}
use Rattle.expr_model.specs.Made.{Made, made, place, after, emit}

-- o behind a, at depth d then
abbrev pub put : Out → ℕ → Made → Made
put o d a = made (a.code ++ o.code) o.pools d

-- the answer for the place, the depth and the pools of a
abbrev pub put_at : (ℕ → ℕ → Pools → Out) → ℕ → Made → Made
put_at f d a = put (f (place a) a.depth a.pools) d a

-- one value more
abbrev pub behind : (ℕ → ℕ → Pools → Out) → Made → Made
behind f a = put_at f (suc a.depth) a

-- the lowering of a node as a change
abbrev pub low_of : Rec → ℕ → Made → Made
low_of rec j a = behind (rec j) a

pub made-path : {c e : Code} {p q : Pools} {m n : ℕ} → c ≡ e → p ≡ q → m ≡ n → made c p m ≡ made e q n
made-path h i k = rw (h, i, k)

pub put-none : (a : Made) → a ≡ put (out [] a.pools) a.depth a
put-none a = made-path (sym (append-nil a.code)) refl refl

pub put-emit : (op : Op) (pos n : ℕ) (o : Out) (d : ℕ) (a : Made)
    → emit op pos n (put o d a) ≡ put (and_then o (ins op d pos ∷ [])) (after op n d) a
unfolding emit and_then
put-emit op pos n o d a = made-path (append_assoc a.code o.code (ins op d pos ∷ [])) refl refl

pub put-put : (o r : Out) (d e : ℕ) (a : Made) → put r e (put o d a) ≡ put (out (o.code ++ r.code) r.pools) e a
put-put o r d e a = made-path (append_assoc a.code o.code r.code) refl refl

pub put-place : (o : Out) (d : ℕ) (a : Made) → place (put o d a) ≡ place a + length o.code
put-place o d a = length-append a.code o.code

-- a node lowered there, at place b
pub put_low : (rec : Rec) (j : ℕ) (o : Out) (d b : ℕ) (a : Made) → place a + length o.code ≡ b
    → low_of rec j (put o d a) ≡ put (out (o.code ++ (rec j b d o.pools).code) (rec j b d o.pools).pools) (suc d) a
put_low rec j o d b a h =
    ap (λ n. put (rec j n d o.pools) (suc d) (put o d a)) (put-place o d a ∙ h) ∙ put-put o (rec j b d o.pools) d (suc d) a

-- instructions one after another
pub emits-add : (m n : ℕ) (p : Pools) → emits n (emits m p) ≡ emits (m + n) p
unfolding emits
emits-add m n p = let e : p.emitted + m + n ≡ p.emitted + (m + n) = omega arith in rw e

out-path : {c e : Code} {p q : Pools} → c ≡ e → p ≡ q → out c p ≡ out e q
out-path h i = rw (h, i)

pub then-then : (o : Out) (c e : Code) → and_then (and_then o c) e ≡ and_then o (c ++ e)
unfolding and_then
then-then o c e =
    out-path (append_assoc o.code c e)
    (emits-add (length c) (length e) o.pools ∙ ap (λ n. emits n o.pools) (sym (length-append c e)))

-- the definition puts an instruction before the rest
pub put-around : (o : Out) (i : Ins) (r : Out) (d e : ℕ) (a : Made)
    → put r e (put (and_then o (i ∷ [])) d a) ≡ put (out (o.code ++ (i ∷ r.code)) r.pools) e a
unfolding and_then
put-around o i r d e a =
    put-put (out (o.code ++ (i ∷ [])) o.pools) r d e a
    ∙ made-path (ap (λ (c : Code). a.code ++ c) (append_assoc o.code (i ∷ []) r.code)) refl refl

pub around-place : (o : Out) (i : Ins) (d : ℕ) (a : Made) → place (put (and_then o (i ∷ [])) d a) ≡ place a + length o.code + 1
unfolding and_then
around-place o i d a = omega (arith, length-append a.code (o.code ++ (i ∷ [])), length-append o.code (i ∷ []))

-- the same with two instructions
pub put-around-both : (o : Out) (i k : Ins) (r : Out) (d e : ℕ) (a : Made)
    → put r e (put (and_then o (i ∷ k ∷ [])) d a) ≡ put (out (o.code ++ (i ∷ k ∷ r.code)) r.pools) e a
unfolding and_then
put-around-both o i k r d e a =
    put-put (out (o.code ++ (i ∷ k ∷ [])) o.pools) r d e a
    ∙ made-path (ap (λ (c : Code). a.code ++ c) (append_assoc o.code (i ∷ k ∷ []) r.code)) refl refl

pub around-both-place : (o : Out) (i k : Ins) (d : ℕ) (a : Made) → place (put (and_then o (i ∷ k ∷ [])) d a) ≡ place a + length o.code + 2
unfolding and_then
around-both-place o i k d a = omega (arith, length-append a.code (o.code ++ (i ∷ k ∷ [])), length-append o.code (i ∷ k ∷ []))

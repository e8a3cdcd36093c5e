-- What a lowering adds is what its tally says: so many instructions of code, and to the pools so many emitted, and an `eval` or none.
use Prim.Native.Nat.{ℕ, ◌+◌}
use mathlib.Core.Path.{◌≡◌, refl, sym, ap, ◌∙◌}
use mathlib.Core.Bool.{◌||◌, or_assoc, or-false}
use mathlib.Core.List.{◌∷◌, ◌++◌}
use native.Mathlib.Omega.{arith}
use lib.ListN.{length, length-append}
use Rattle.lowering.specs.Code.{Ins, Code}
use Rattle.lowering.specs.Pools.{Pools, emits}
use Rattle.lowering.specs.Out.{Out, Rec}
use Rattle.expr_count.specs.declared.tallies.Tally.{Tally}
use Rattle.expr_count.specs.Tally.{instructions, nothing, plus}
use Rattle.expr_count.specs.Count as Count

-- with tally t, n instructions of code take the pools p to q
pub record Adds (p : Pools) (t : Tally) (n : ℕ) (q : Pools) : Type 0 where
  pub length-is : n ≡ t.len
  pub emitted-is : q.emitted ≡ p.emitted + t.emitted
  pub defeated-is : q.defeated ≡ (p.defeated || t.defeated)

abbrev pub OutAdds : Pools → Tally → Out → Type 0
OutAdds p t o = Adds p t (length o.code) o.pools

-- t is the tally of each node that rec lowers
pub record Counts (rec : Rec) (t : Count.Rec) : Type 0 where
  pub each : (j b d : ℕ) (p : Pools) → OutAdds p (t j) (rec j b d p)

pub adds_none : (p : Pools) → Adds p nothing 0 p
unfolding nothing instructions
adds_none p = record { length-is = refl; emitted-is = omega arith; defeated-is = sym (or-false p.defeated) }

pub adds-emits : (n : ℕ) (p : Pools) → Adds p (instructions n) n (emits n p)
unfolding instructions emits
adds-emits n p = record { length-is = refl; emitted-is = refl; defeated-is = sym (or-false p.defeated) }

pub adds-seq : {p q r : Pools} {t u : Tally} {m n : ℕ} → Adds p t m q → Adds q u n r → Adds p (plus t u) (m + n) r
unfolding plus
adds-seq {p} {q} {r} {t} {u} g h =
    record {
      length-is = omega arith;
      emitted-is = omega arith;
      defeated-is = h.defeated-is ∙ ap (λ b. b || u.defeated) g.defeated-is ∙ or_assoc p.defeated t.defeated u.defeated;
    }

-- the same with the length, or the tally, said otherwise
pub adds-length : {p q : Pools} {t : Tally} {m n : ℕ} → n ≡ m → Adds p t m q → Adds p t n q
adds-length e g = record { length-is = e ∙ g.length-is; emitted-is = g.emitted-is; defeated-is = g.defeated-is }

pub adds-tally : {p q : Pools} {t u : Tally} {n : ℕ} → t ≡ u → Adds p t n q → Adds p u n q
adds-tally {p} {q} {t} {u} {n} e g = rw (← e) g

-- pools that differ only in what is pooled
pub record Alike (p q : Pools) : Type 0 where
  pub emitted-same : q.emitted ≡ p.emitted
  pub defeated-same : q.defeated ≡ p.defeated

pub adds-into : {p q r : Pools} {t : Tally} {n : ℕ} → Alike q r → Adds p t n q → Adds p t n r
adds-into a g =
    record {
      length-is = g.length-is;
      emitted-is = a.emitted-same ∙ g.emitted-is;
      defeated-is = a.defeated-same ∙ g.defeated-is;
    }

pub adds-from : {p q r : Pools} {t : Tally} {n : ℕ} → Alike p q → Adds q t n r → Adds p t n r
adds-from {p} {q} {r} {t} a g =
    record {
      length-is = g.length-is;
      emitted-is = g.emitted-is ∙ ap (λ m. m + t.emitted) a.emitted-same;
      defeated-is = g.defeated-is ∙ ap (λ b. b || t.defeated) a.defeated-same;
    }

-- one instruction between two pieces of code
pub length-around : (c : Code) (i : Ins) (c' : Code) → length (c ++ (i ∷ c')) ≡ length c + 1 + length c'
length-around c i c' = omega (arith, length-append c (i ∷ c'))

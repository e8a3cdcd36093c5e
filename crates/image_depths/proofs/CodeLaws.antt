-- What is read of an instruction is what a run goes by.
use Prim.Native.Nat.{ℕ, zero, suc, ◌+◌, ◌≤◌}
use mathlib.Core.Bool.{true, false}
use lib.Dec.{eqb}
use mathlib.Core.Path.{◌≡◌, refl, ap, ap₂, ◌∙◌}
use mathlib.Core.Logic.{◌⊎◌, inl, inr}
use mathlib.Core.List.{List}
use native.Mathlib.Omega.{arith}
use borrow.Author.Tests.{ne_eqb}
use Rattle.bytecode.specs.Effect.{effect, popped, kept, Count}
use Rattle.bytecode.proofs.TableLaws as tables
use Rattle.bytecode.specs.Coded.{count_of, flow_of}
use Rattle.bytecode.specs.declared.table.Top.TheVariants.{the_data, Nothing, Argc, RefArgc, PopsA, NeedsA}
use Rattle.bytecode.specs.declared.table.Flow.TheVariants as flows
use Rattle.lowering.specs.Words.{kind_at, a_at, b_at, chain_word}
use Rattle.lowering.specs.Run.{chain_takes, pops, pushes, needs}
use Rattle.std.specs.Prelude.{Option}
use Rattle.image_read.specs.Kinds.{root_of}
use Rattle.image_read.specs.declared.RootKind.{RootKind}
use Rattle.image_read.proofs.KindLaws.{root-past}
use Rattle.image_depths.specs.Passing.{taken, Read}

-- what a chain takes, by the kind of its root
taken-kind : (n k : ℕ) → taken (root_of k) n ≡ n + elim (eqb k 3) [ true ↦ 1 | false ↦ 0 ]
unfolding taken root_of
taken-kind n zero = omega arith
taken-kind n (suc zero) = omega arith
taken-kind n (suc (suc zero)) = omega arith
taken-kind n (suc (suc (suc zero))) = refl
taken-kind n (suc (suc (suc (suc k)))) =
    let k4 = suc (suc (suc (suc k))) in
    rw (root-past k4 (omega arith), ne_eqb k4 3 (λ e. omega arith)) (omega arith)

pub takes-read : (w : List ℕ) (i n k x : ℕ) (o : Option RootKind) → x ≡ taken o n → o ≡ root_of k → k ≡ chain_word w i 0 → n ≡ chain_word w i 5
    → x ≡ chain_takes w i
unfolding chain_takes
takes-read w i n k x o e q root count =
    e ∙ ap₂ taken (q ∙ ap root_of root) count ∙ taken-kind (chain_word w i 5) (chain_word w i 0)

-- only one count looks at the chain
pub popped-rest : (t : the_data) (a b n : ℕ)
    → (t ≡ Nothing) ⊎ ((t ≡ Argc) ⊎ ((t ≡ RefArgc) ⊎ ((t ≡ PopsA) ⊎ (t ≡ NeedsA))))
    → popped (count_of t) a b 0 ≡ popped (count_of t) a b n
unfolding popped count_of
popped-rest t a b n (inl e) = rw e refl
popped-rest t a b n (inr (inl e)) = rw e refl
popped-rest t a b n (inr (inr (inl e))) = rw e refl
popped-rest t a b n (inr (inr (inr (inl e)))) = rw e refl
popped-rest t a b n (inr (inr (inr (inr e)))) = rw e refl

-- what is popped on top without a chain is small
pub popped-small : (c : Count) (a b : ℕ) → a ≤ 4294967296 → popped c a b 0 ≤ 4294967296
popped-small c a b h = tables.popped-small c a b 0 4294967296 (omega arith) h (omega arith)

-- all that is read of the instruction at p
module _ (w : List ℕ) (p k a b top z x y s : ℕ) (t : the_data) (f : flows.the_data)
    (kind : k ≡ kind_at w p) (first : a ≡ a_at w p) (second : b ≡ b_at w p) (column : count_of t ≡ (effect k).count)
    (counts : top ≡ popped (count_of t) a b (chain_takes w a)) (pop : z ≡ (effect k).pops) (keep : x ≡ (effect k).keeps)
    (keeps : y ≡ kept (count_of t) a) (flow : flow_of f ≡ (effect k).flow) (push : s ≡ (effect k).pushes) where
  pops-read : z + top ≡ pops w p
  unfolding pops
  pops-read = cc

  needs-read : z + top + x + y ≡ needs w p
  unfolding needs
  needs-read =
      let h = pops-read in
      cc

  pub code_read : Read w p (record { a = a; flow = f; pushes = s; pops = z + top; needs = z + top + x + y })
  unfolding pushes
  code_read = record {
    a = first;
    flow = flow ∙ ap (λ (j : ℕ). (effect j).flow) kind;
    pushes = push ∙ ap (λ (j : ℕ). (effect j).pushes) kind;
    pops = pops-read;
    needs = needs-read;
  }

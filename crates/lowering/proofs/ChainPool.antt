-- The chain that `chain_at` finds or `push_chain` adds takes as many operands as asked for, and a root off the
-- stack if and only if asked for.
use Prim.Native.Nat.{ℕ, ◌<◌}
use mathlib.Core.Path.{◌≡◌, refl, sym, ap, ◌∙◌}
use mathlib.Core.Bool.{Bool, true, false, ◌&&◌, and-eq-true_iff}
use mathlib.Core.List.{List, []}
use lib.Dec.{eqb}
use lib.ListN.{length, get_or, length-append}
use lib.Seq.{get_or_at}
use native.Mathlib.Omega.{arith}
use borrow.Author.Tests.{eqb-true, eqb-false}
use Rattle.lowering.proofs.FirstLaws.{first-within, first_passes}
use Rattle.text.specs.Same.{same}
use Rattle.text.proofs.SameLaws.{same_true}
use Rattle.bytecode.specs.declared.Root.{Root}
use Rattle.bytecode.specs.declared.Root.TheVariants.{Local, Named, This, Temporary}
use Rattle.bytecode.specs.declared.Step.{Step}
use Rattle.bytecode.specs.declared.Chain.{Chain}
use Rattle.bytecode.specs.Chain.{root_words}
use Rattle.lowering.specs.Pools.{Pools, first_where, steps_of, steps_words, same_chain, chain_at, new_chain, push_chain}
use Rattle.lowering.specs.Chain.{on_stack}
use Rattle.lowering.proofs.Effect.{no_chain}
use Rattle.lowering.proofs.Meets.{Grows, grows-refl}

-- whether a root is on the stack shows in its words
words_on_stack : List ℕ → ℕ
words_on_stack w = elim (eqb (get_or w 0 0) 3) [ true ↦ 1 | false ↦ 0 ]

on_stack-words : (r : Root) → on_stack r ≡ words_on_stack (root_words r)
unfolding on_stack words_on_stack root_words
on_stack-words (Local slot i) = refl
on_stack-words (Named i pos) = refl
on_stack-words (This pos) = refl
on_stack-words Temporary = refl

same-on_stack : (r r' : Root) → same (root_words r) (root_words r') ≡ true → on_stack r' ≡ on_stack r
same-on_stack r r' h = on_stack-words r' ∙ ap words_on_stack (sym (same_true (root_words r) (root_words r') h)) ∙ sym (on_stack-words r)

-- entry i of these chains is one that takes this many operands and, by its root, this much more
pub record Holds (cs : List Chain) (i n stack : ℕ) : Type 0 where
  pub within : i < length cs
  pub operands : (get_or cs i no_chain).operands ≡ n
  pub root : on_stack (get_or cs i no_chain).root ≡ stack

module _ (root : Root) (xs : List Step) (n : ℕ) (p : Pools) where
  same-holds : (i : ℕ) → i < length p.chains → same_chain p root xs n (get_or p.chains i no_chain) ≡ true
      → Holds p.chains i n (on_stack root)
  unfolding same_chain
  same-holds i h k =
      let c = get_or p.chains i no_chain in
      let all = (and-eq-true_iff (same (root_words root) (root_words c.root) && eqb n c.operands)
      (same (steps_words xs) (steps_words (steps_of p c)))).0 k in
      let both = (and-eq-true_iff (same (root_words root) (root_words c.root)) (eqb n c.operands)).0 all.0 in
      record { within = h; operands = sym (eqb-true n c.operands both.1); root = same-on_stack root c.root both.0 }

  new-holds : (i : ℕ) → i ≡ length p.chains → Holds (new_chain root xs n p).chains i n (on_stack root)
  unfolding new_chain
  new-holds i h =
      let c : Chain = record { root = root; first = length p.steps; steps = length xs; operands = n } in
      let at-end = get_or_at p.chains c [] no_chain i (sym h) in
      record {
        within = rw length-append (omega arith);
        operands = ap (λ (k : Chain). k.operands) at-end;
        root = ap (λ (k : Chain). on_stack k.root) at-end;
      }

  -- the two answers of push_chain
  pub push-new : eqb (chain_at root xs n p) (length p.chains) ≡ true → push_chain root xs n p ≡ new_chain root xs n p
  unfolding push_chain
  push-new h = rw (h, push_chain)

  pub push-old : eqb (chain_at root xs n p) (length p.chains) ≡ false → push_chain root xs n p ≡ p
  unfolding push_chain
  push-old h = rw (h, push_chain)

  pub chain-grows : Grows p.chains (push_chain root xs n p).chains
  unfolding new_chain
  chain-grows = by (eqb (chain_at root xs n p) (length p.chains)) refl
    where
      by : (t : Bool) → eqb (chain_at root xs n p) (length p.chains) ≡ t → Grows p.chains (push_chain root xs n p).chains
      by true h = rw (push-new h) (record { more = _; whole = refl })
      by false h = rw (push-old h) (grows-refl p.chains)

  pub chain-holds : Holds (push_chain root xs n p).chains (chain_at root xs n p) n (on_stack root)
  unfolding chain_at
  chain-holds = by (eqb (chain_at root xs n p) (length p.chains)) refl
    where
      by : (t : Bool) → eqb (chain_at root xs n p) (length p.chains) ≡ t
          → Holds (push_chain root xs n p).chains (chain_at root xs n p) n (on_stack root)
      by true h = rw (push-new h) (new-holds (chain_at root xs n p) (eqb-true (chain_at root xs n p) (length p.chains) h))
      by false h =
          let ne = eqb-false (chain_at root xs n p) (length p.chains) h in
          let le = first-within (same_chain p root xs n) p.chains in
          let lt : first_where (same_chain p root xs n) p.chains < length p.chains = omega arith in
          rw (push-old h) (same-holds (chain_at root xs n p) lt (first_passes (same_chain p root xs n) no_chain p.chains lt))

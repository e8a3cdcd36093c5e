-- An expression lowered from nothing: what the scratch holds in the end is the program of the definition.
use Prim.Native.Nat.{ℕ, ◌+◌, ◌≤◌}
use mathlib.Core.Path.{◌≡◌, sym, ap, ◌∙◌}
use mathlib.Core.List.{List, ◌++◌}
use native.Mathlib.Omega.{arith}
use lib.ListN.{length, drop}
use borrow.Author.Tests.{ne_eqb}
use Rattle.lowering.proofs.LowerFits.{lower-plain}
use Rattle.sheet.specs.Limits.{max_depth}
use Rattle.sheet.specs.Sections.{node_count}
use Rattle.sheet.specs.Node.{kind}
use Rattle.lowering.specs.Kinds.{switch_kind}
use Rattle.lowering.specs.Pools.{no_pools}
use Rattle.lowering.specs.Expression.{expression}
use Rattle.lowering.specs.Program.{plain}
use Rattle.lowering.specs.Image.{words}
use Rattle.lowering.specs.Outcome.{lower}
use Rattle.lowering.specs.Nodes.{Right, Valid}
use Rattle.checks.proofs.AcceptedLaws.{accepted-sizes, accepted-shape}
use Rattle.lowering.proofs.NodesLaws.{right, root-valid}
use Rattle.switch_count.proofs.TotalLaws.{total-emitted}
use Rattle.expr_model.specs.Made.{Made, nothing, lowered}
use Rattle.scratch.specs.declared.Layout.{Layout}
use Rattle.scratch.proofs.PlaceLaws.{index-fits}
use Rattle.scratch_locals.specs.Pass.{Begins}
use Rattle.scratch_store.specs.declared.State.{State}
use Rattle.scratch_store.specs.States as states
use Rattle.scratch_store.specs.Holds.{Fit, Holds}
use Rattle.scratch_store.specs.Does.{Does}
use Rattle.scratch_store.proofs.StartLaws.{fresh_holds}
use Rattle.write_front.specs.Front.{front}
use Rattle.write_front.proofs.FrontFacts.{plain-front}
use Rattle.to_image.specs.Making.{Ready}

checked-right : {s : List ℕ} {e m : ℕ} → Ready s e m → Right s
checked-right {s} R = right s (accepted-sizes s R.accepted) (accepted-shape s R.accepted)

-- a scratch that is cleared holds nothing
pub first_holds : {s : List ℕ} {l : Layout} (xs zs : List ℕ) (c : State) → Ready s l.most (length xs) → l.nodes ≡ node_count s
    → c ≡ states.start l → Begins s l xs zs → Holds s l zs c nothing
first_holds {s} {l} xs zs c R nodes c_is begins =
    let space = R.space in
    let few = R.few in
    let small = (checked-right R).few in
    let end = index-fits l in
    let fit : Fit s l xs = record { space = omega arith; few = omega arith; nodes = nodes; small = omega arith } in
    fresh_holds s l xs zs c fit (omega arith) begins c_is

-- the same words, read through the store
pub begins-in : {s xs zs us : List ℕ} {l : Layout} → us ≡ zs → Begins s l xs zs → Begins s l xs us
begins-in e b = rw e b

pub holds-in : {s ys zs : List ℕ} {l : Layout} {st : State} {a : Made} → zs ≡ ys → Holds s l ys st a → Holds s l zs st a
holds-in e h = rw e h

-- the image of an expression
module _ {s : List ℕ} (h : kind s 0 ≡ switch_kind → ⊥) (l : Layout) (xs zs ys img : List ℕ) (q r : State) (len : ℕ)
    (R : Ready s l.most (length xs)) (nodes : l.nodes ≡ node_count s)
    (c : State) (c_is : c ≡ states.start l) (begins : Begins s l xs zs)
    (done : Right s → Valid s 0 → Does s l zs c ys q (lowered max_depth s 0)) (r-is : r ≡ q)
    (counted : (a : Made) → Holds s l ys r a → (sw ca ra : ℕ) → len ≡ length (front a sw ca ra) + 0) where
  plain-words : words (lower s) ≡ front (lowered max_depth s 0 nothing) 0 0 0
  unfolding lowered nothing
  plain-words = ap words (lower-plain s (ne_eqb (kind s 0) switch_kind h)) ∙ plain-front (expression max_depth s 0 0 0 no_pools) 1

  plain-holds : Holds s l ys r (lowered max_depth s 0 nothing)
  unfolding lowered nothing plain
  plain-holds =
      let C = checked-right R in
      let e-is = R.emitted in
      let all = sym (ap (λ p. p.pools.emitted) (lower-plain s (ne_eqb (kind s 0) switch_kind h))) ∙ total-emitted s in
      rw r-is ((done C (root-valid s C)).holds nothing (first_holds xs zs c R nodes c_is begins) (omega arith))

  pub plain-counted : len ≡ length (words (lower s))
  plain-counted = omega (arith, counted (lowered max_depth s 0 nothing) plain-holds 0 0 0, ap length plain-words)

  pub plain-wrote : {img' : List ℕ}
      → ((a : Made) → Holds s l ys r a → length (front a 0 0 0) ≤ length img → img' ≡ front a 0 0 0 ++ drop (length (front a 0 0 0)) img)
      → length (words (lower s)) ≤ length img → img' ≡ words (lower s) ++ drop (length (words (lower s))) img
  plain-wrote wrote h =
      let long = ap length plain-words in
      rw plain-words (wrote (lowered max_depth s 0 nothing) plain-holds (omega (arith, h, long)))

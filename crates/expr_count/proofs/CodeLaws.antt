-- Laws of the count, in the shapes of the code: sums that are cut off on the way, and what is left of a loop.
use Prim.Native.Nat.{ℕ, zero, suc, ◌+◌, ◌*◌, ◌-◌, ◌≤◌, ◌<◌}
use mathlib.Core.Path.{◌≡◌, refl, sym, ap, ◌∙◌}
use mathlib.Core.Bool.{Bool, true, ◌||◌, or-false}
use mathlib.Core.List.{List, [], ◌∷◌}
use native.Mathlib.Omega.{arith}
use Rattle.sheet.specs.Limits.{max_depth}
use Rattle.sheet.specs.Node.{kind, count, child, next}
use Rattle.sheet.specs.Walk.{skip, sibling_list}
use Rattle.lowering.specs.Flatten.{links}
use Rattle.expr_count.specs.declared.operands.Operands.{Operands}
use Rattle.expr_count.specs.declared.tallies.Tally.{Tally}
use Rattle.expr_count.specs.declared.plans.Plan.TheVariants.{Parts, Coalesce, Chain}
use Rattle.expr_count.specs.declared.links.Link.TheVariants.{Lowers, Fails, Nowhere}
use Rattle.expr_count.specs.Tally.{instructions, nothing, plus, taken_back, capped}
use Rattle.expr_count.proofs.TallyLaws.{tally-path, plus-nothing, nothing-plus, plus_assoc}
use Rattle.expr_count.proofs.TallyLaws.{capped_left, capped-right, capped-both, back-capped}
use Rattle.expr_count.specs.Plan.{is_leaf, plan}
use Rattle.expr_count.proofs.PlanLaws.{leaf-plan}
use Rattle.expr_count.specs.Link.{link, least, temporary}
use Rattle.expr_count.specs.Count.{Rec, siblings, coalesce, walk_on, walk, chain_by, chain, follow, tally_by}

-- ---- sums

pub nothing-capped : capped nothing ≡ nothing
unfolding capped nothing instructions
nothing-capped = refl

pub one-capped : capped (instructions 1) ≡ instructions 1
unfolding capped instructions
one-capped = refl

-- one more, before the rest
pub capped-more : (a b c : Tally) → capped (plus (capped (plus a (capped b))) c) ≡ capped (plus a (plus b c))
capped-more a b c =
    capped_left (plus a (capped b)) c
    ∙ ap capped (plus_assoc a (capped b) c)
    ∙ swap
  where
    swap : capped (plus a (plus (capped b) c)) ≡ capped (plus a (plus b c))
    swap = sym (capped-right a (plus (capped b) c)) ∙ ap (λ x. capped (plus a x)) (capped_left b c) ∙ capped-right a (plus b c)

-- nothing more
capped-none : (a : Tally) → capped a ≡ a → a ≡ capped (plus a nothing)
capped-none a h = sym h ∙ ap capped (sym (plus-nothing a))

-- ---- siblings: the gaps of all of them, and their own sum

-- the sum of these nodes, without gaps
unfoldable pub summed : Rec → List ℕ → Tally
summed t [] = nothing
summed t (j ∷ js) = plus (t j) (summed t js)

-- one more, with its gap
gap-first :
    (k m gap : ℕ) (u x : Tally) → m ≡ gap + k
    → plus (plus u (instructions gap)) (plus (instructions k) x) ≡ plus (instructions m) (plus u x)
unfolding plus instructions
gap-first k m gap u x e = tally-path (omega arith) (omega arith) (ap (λ b. b || x.defeated) (or-false u.defeated))

-- all gaps before
siblings-summed :
    (s : List ℕ) (t : Rec) (gap n j : ℕ)
    → siblings s t gap n j ≡ plus (instructions (gap * n)) (summed t (sibling_list s n j))
unfolding siblings summed sibling_list nothing
siblings-summed s t gap zero j =
    let e : 0 ≡ gap * 0 = omega arith in
    sym (nothing-plus (instructions 0)) ∙ ap (λ m. plus (instructions m) (instructions 0)) e
siblings-summed s t gap (suc n) j =
    let e : gap * suc n ≡ gap + gap * n = omega arith in
    ap (plus (plus (t j) (instructions gap))) (siblings-summed s t gap n (next s j))
    ∙ gap-first (gap * n) (gap * suc n) gap (t j) (summed t (sibling_list s n (next s j))) e

-- a leaf, with p instructions before
leaf-first : (p : ℕ) (x : Tally) → plus (instructions (p + 1)) x ≡ plus (instructions p) (plus (instructions 1) x)
unfolding plus instructions
leaf-first p x = tally-path (omega arith) (omega arith) refl

-- another node
node-first : (p : ℕ) (u x : Tally) → plus u (plus (instructions p) x) ≡ plus (instructions p) (plus u x)
unfolding plus instructions
node-first p u x = tally-path (omega arith) (omega arith) refl

module _ (s : List ℕ) (t : Rec) (gap n : ℕ) where
  -- where there are none
  no-sum : (j : ℕ) → capped (siblings s t gap 0 j) ≡ nothing
  unfolding siblings nothing instructions capped
  no-sum j = refl

  pub sum-none : {r : Tally} (j : ℕ) → n ≡ 0 → r ≡ nothing → r ≡ capped (siblings s t gap n j)
  sum-none j e h = h ∙ sym (ap (λ m. capped (siblings s t gap m j)) e ∙ no-sum j)

  pub sum-starts :
      (j : ℕ)
      → capped (plus nothing (plus (instructions (0 + gap * n)) (summed t (sibling_list s n j)))) ≡ capped (siblings s t gap n j)
  sum-starts j =
      let e : 0 + gap * n ≡ gap * n = omega arith in
      ap (λ m. capped (plus nothing (plus (instructions m) (summed t (sibling_list s n j))))) e
      ∙ ap capped (nothing-plus (plus (instructions (gap * n)) (summed t (sibling_list s n j))))
      ∙ ap capped (sym (siblings-summed s t gap n j))

-- ys are left, the next of them j; p instructions are of leaves and gaps, and a is the sum of the other nodes
module _ (t : Rec) (p : ℕ) (a : Tally) {ys : List ℕ} where
  module _ {j : ℕ} {zs : List ℕ} (is : ys ≡ j ∷ zs) where
    next-summed : summed t ys ≡ plus (t j) (summed t zs)
    unfolding summed
    next-summed = ap (summed t) is

    pub sum-leaf : t j ≡ instructions 1
        → capped (plus a (plus (instructions (p + 1)) (summed t zs))) ≡ capped (plus a (plus (instructions p) (summed t ys)))
    sum-leaf one =
        ap (λ x. capped (plus a x)) (leaf-first p (summed t zs))
        ∙ ap (λ x. capped (plus a (plus (instructions p) (plus x (summed t zs))))) (sym one)
        ∙ ap (λ x. capped (plus a (plus (instructions p) x))) (sym next-summed)

    pub sum-node :
        capped (plus (capped (plus a (capped (t j)))) (plus (instructions p) (summed t zs)))
        ≡ capped (plus a (plus (instructions p) (summed t ys)))
    sum-node =
        capped-more a (t j) (plus (instructions p) (summed t zs))
        ∙ ap (λ x. capped (plus a x)) (node-first p (t j) (summed t zs))
        ∙ ap (λ x. capped (plus a (plus (instructions p) x))) (sym next-summed)

  pub sum_done : ys ≡ [] → capped (plus a (instructions p)) ≡ capped (plus a (plus (instructions p) (summed t ys)))
  unfolding summed
  sum_done is =
      ap (λ x. capped (plus a x)) (sym (plus-nothing (instructions p)))
      ∙ ap (λ zs. capped (plus a (plus (instructions p) (summed t zs)))) (sym is)

-- a leaf is one instruction, with any number of levels
pub leaf-tally : (here : ℕ → Bool) (levels : ℕ) (s : List ℕ) (j : ℕ) → is_leaf (kind s j) ≡ true → tally_by here levels s j ≡ instructions 1
unfolding tally_by follow siblings
leaf-tally here zero s j h = refl
leaf-tally here (suc levels) s j h =
    ap (λ p. follow p s (tally_by here levels s) j) (leaf-plan s j here h) ∙ nothing-plus (instructions 1)

-- ---- links: cs are left, the next of them c, and a is the sum of those passed

module _ (s : List ℕ) (t : Rec) (a : Tally) {c : ℕ} {cs ds : List ℕ} (is : cs ≡ c ∷ ds) where
  walk-on : (o : Operands) → link s c ≡ Lowers o → walk s t cs ≡ plus (siblings s t 0 o.n o.from) (walk s t ds)
  unfolding walk walk_on
  walk-on o h = rw (is, h)

  pub walk_more : (o : Operands) → link s c ≡ Lowers o
      → capped (plus (capped (plus a (capped (siblings s t 0 o.n o.from)))) (walk s t ds)) ≡ capped (plus a (walk s t cs))
  walk_more o l =
      capped-more a (siblings s t 0 o.n o.from) (walk s t ds) ∙ ap (λ x. capped (plus a x)) (sym (walk-on o l))

  pub walk-fails : link s c ≡ Fails → capped a ≡ a → a ≡ capped (plus a (walk s t cs))
  unfolding walk walk_on
  walk-fails l k = rw (is, l) (capped-none a k)

  pub walk-nowhere : link s c ≡ Nowhere → capped a ≡ a → a ≡ capped (plus a (walk s t cs))
  unfolding walk walk_on
  walk-nowhere l k = rw (is, l) (capped-none a k)

pub walk-done : (s : List ℕ) (t : Rec) (a : Tally) {cs : List ℕ} → cs ≡ [] → capped a ≡ a → a ≡ capped (plus a (walk s t cs))
unfolding walk
walk-done s t a e k = rw e (capped-none a k)

-- ---- chains

-- by how far a chain comes
pub by-nowhere : (far : ℕ) (u v : Tally) → far ≡ 0 → chain_by far u v ≡ instructions 1
unfolding chain_by
by-nowhere zero u v h = refl
by-nowhere (suc far) u v h = absurd (omega arith)

pub by-failed : (far : ℕ) (u v : Tally) → 1 ≤ far → far < 2 → chain_by far u v ≡ plus (taken_back u) (instructions 1)
unfolding chain_by
by-failed zero u v g h = absurd (omega arith)
by-failed (suc zero) u v g h = refl
by-failed (suc (suc far)) u v g h = absurd (omega arith)

pub by_whole : (far : ℕ) (u v : Tally) → 2 ≤ far → chain_by far u v ≡ plus (plus u v) (instructions 1)
unfolding chain_by
by_whole zero u v h = absurd (omega arith)
by_whole (suc zero) u v h = absurd (omega arith)
by_whole (suc (suc far)) u v h = refl

module _ (s : List ℕ) (t : Rec) (j : ℕ) where
  pub chain-stays : least s (links max_depth s j) ≡ 0 → instructions 1 ≡ capped (chain s t j)
  unfolding chain chain_by
  chain-stays h = rw (h, chain_by) (sym one-capped)

  pub chain-fails : least s (links max_depth s j) ≡ 1
      → capped (plus (taken_back (capped (walk s t (links max_depth s j)))) (instructions 1)) ≡ capped (chain s t j)
  unfolding chain chain_by
  chain-fails h = rw (h, chain_by, back-capped) (capped_left (taken_back (walk s t (links max_depth s j))) (instructions 1))

  pub chain-lowers : (least s (links max_depth s j) ≡ 0 → ⊥) → (least s (links max_depth s j) ≡ 1 → ⊥)
      → capped (plus (capped (plus (capped (walk s t (links max_depth s j))) (capped (siblings s t 0 (temporary s (child j)) (child j)))))
      (instructions 1)) ≡ capped (chain s t j)
  unfolding chain
  chain-lowers g h =
      let u = walk s t (links max_depth s j) in
      let v = siblings s t 0 (temporary s (child j)) (child j) in
      rw (by_whole (least s (links max_depth s j)) u v (omega arith), capped-both u v) (capped_left (plus u v) (instructions 1))

  pub coalesce-counts : capped (plus (capped (siblings s t 2 (count s j - 1) (child j))) (capped (t (skip s (count s j - 1) (child j)))))
      ≡ capped (coalesce s t j)
  unfolding coalesce
  coalesce-counts = capped-both (siblings s t 2 (count s j - 1) (child j)) (t (skip s (count s j - 1) (child j)))

-- ---- nodes

module _ (here : ℕ → Bool) (levels : ℕ) (s : List ℕ) (j : ℕ) where
  pub tally-none : levels ≡ 0 → instructions 1 ≡ capped (tally_by here levels s j)
  unfolding tally_by
  tally-none h = rw h (sym one-capped)

  tally-some : (levels ≡ 0 → ⊥) → tally_by here levels s j ≡ follow (plan here s j) s (tally_by here (levels - 1) s) j
  unfolding tally_by
  tally-some h = let e : levels ≡ suc (levels - 1) = omega arith in ap (λ n. tally_by here n s j) e

  pub tally-parts : (gap : ℕ) (o : Operands) (rest : Tally) → (levels ≡ 0 → ⊥) → plan here s j ≡ Parts gap o rest
      → capped (plus (capped (siblings s (tally_by here (levels - 1) s) gap o.n o.from)) rest) ≡ capped (tally_by here levels s j)
  unfolding follow
  tally-parts gap o rest h p = rw (tally-some h, p) (capped_left (siblings s (tally_by here (levels - 1) s) gap o.n o.from) rest)

  pub tally-coalesce : (levels ≡ 0 → ⊥) → plan here s j ≡ Coalesce
      → capped (coalesce s (tally_by here (levels - 1) s) j) ≡ capped (tally_by here levels s j)
  unfolding follow
  tally-coalesce h p = rw (tally-some h, p)

  pub tally-chain : (levels ≡ 0 → ⊥) → plan here s j ≡ Chain
      → capped (chain s (tally_by here (levels - 1) s) j) ≡ capped (tally_by here levels s j)
  unfolding follow
  tally-chain h p = rw (tally-some h, p)

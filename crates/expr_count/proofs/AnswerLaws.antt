-- Laws of the count by the answers of the code: each result that the code reads is given by an equation.
use Prim.Native.Nat.{ℕ, ◌+◌, ◌*◌, ◌-◌, ◌≤◌, ◌<◌}
use mathlib.Core.Path.{◌≡◌, refl, sym, ap, ap₂, ◌∙◌}
use mathlib.Core.Bool.{Bool, true}
use mathlib.Core.List.{List, [], ◌∷◌}
use native.Mathlib.Omega.{arith}
use lib.ListN.{length}
use Rattle.sheet.specs.Limits.{max_depth}
use Rattle.sheet.specs.Node.{count, child}
use Rattle.sheet.specs.Rest.{rest}
use Rattle.sheet.specs.Walk.{skip, sibling_list}
use Rattle.sheet.specs.declared.Siblings.{Siblings}
use Rattle.sheet.proofs.WalkedLaws.{siblings-long}
use Rattle.lowering.specs.Limits.{max_elements}
use Rattle.lowering.specs.Flatten.{links}
use Rattle.expr_rules.specs.declared.chains.Read.{Read}
use Rattle.expr_rules.specs.declared.chains.Links.{Links}
use Rattle.expr_rules.specs.Links.{nodes_left}
use Rattle.expr_rules.proofs.LinksLaws.{Left, Begun, Turn}
use Rattle.expr_count.specs.declared.tallies.Tally.{Tally}
use Rattle.expr_count.specs.declared.operands.Operands.{Operands}
use Rattle.expr_count.specs.declared.plans.Plan.{Plan}
use Rattle.expr_count.specs.declared.plans.Plan.TheVariants.{Parts}
use Rattle.expr_count.specs.declared.links.Link.{Link}
use Rattle.expr_count.specs.declared.links.Link.TheVariants.{Lowers, Fails, Nowhere}
use Rattle.expr_count.specs.Tally.{instructions, nothing, plus, taken_back, capped}
use Rattle.expr_count.proofs.TallyLaws.{nothing-plus, capped-capped}
use Rattle.expr_count.specs.Plan.{one, operands, array, plan}
use Rattle.expr_count.proofs.PlanLaws.{array-few, array-many}
use Rattle.expr_count.specs.Link.{is_plain, link, least, temporary}
use Rattle.expr_count.proofs.LinkLaws.{plain-chain, reach-on, reach-none}
use Rattle.expr_count.specs.Count.{Rec, siblings, coalesce, walk, chain, tally_by}
use Rattle.expr_count.proofs.CodeLaws.{
  summed,
  one-capped,
  nothing-capped,
  sum-starts,
  sum-leaf,
  sum-node,
  sum_done,
  walk_more,
  walk-fails,
  walk-nowhere,
  walk-done,
  chain-stays,
  chain-fails,
  chain-lowers,
  coalesce-counts,
  tally-parts,
}

-- ---- plans

pub array-lowers : (s : List ℕ) (j : ℕ) {n : ℕ} → n ≡ count s j → n ≤ max_elements → operands s j 1 1 ≡ array s j
array-lowers s j e h = array-few s j (omega arith)

pub array-stays : (s : List ℕ) (j : ℕ) {n : ℕ} → n ≡ count s j → max_elements < n → one ≡ array s j
array-stays s j e h = array-many s j (omega arith)

-- a sum of the code, by what is summed
sum_by : {a b x y r : Tally} → a ≡ x → b ≡ y → r ≡ capped (plus a b) → r ≡ capped (plus x y)
sum_by e f h = h ∙ ap₂ (λ (u v : Tally). capped (plus u v)) e f

-- a sum is cut off
sum-cut : (a b : Tally) {r : Tally} → r ≡ capped (plus a b) → capped r ≡ r
sum-cut a b h = ap capped h ∙ capped-capped (plus a b) ∙ sym h

nothing-cut : {a : Tally} → a ≡ nothing → capped a ≡ a
nothing-cut e = ap capped e ∙ nothing-capped ∙ sym e

-- ---- siblings: ys are left; `leaves` of those passed are leaves, and a is the sum of the others, without the gaps

pub record SumLeft (s : List ℕ) (t : Rec) (gap n from : ℕ) (a : Tally) (leaves : ℕ) (ys : List ℕ) : Type 0 where
  pub few : leaves + length ys ≤ n
  pub rest : capped (plus a (plus (instructions (leaves + gap * n)) (summed t ys))) ≡ capped (siblings s t gap n from)

-- a walk begins with all of them
pub rest-is : {w v : Siblings} {s : List ℕ} {n j : ℕ} → w ≡ v → v.sheet.now ≡ s → v.left ≡ n → v.at ≡ j → rest w ≡ sibling_list s n j
rest-is e a b c = rw (e, a, b, c) refl

module _ (s : List ℕ) (t : Rec) (gap n from : ℕ) where
  pub sum-begins : {a : Tally} {ys : List ℕ} → a ≡ nothing → ys ≡ sibling_list s n from → SumLeft s t gap n from a 0 ys
  sum-begins e is =
      record {
        few = omega (arith, ap length is, siblings-long s n from);
        rest =
            ap₂ (λ (x : Tally) (zs : List ℕ). capped (plus x (plus (instructions (0 + gap * n)) (summed t zs)))) e is
            ∙ sum-starts s t gap n from;
      }

  module _ {leaves : ℕ} {a : Tally} {ys : List ℕ} (S : SumLeft s t gap n from a leaves ys) where
    pub sum-more : {j : ℕ} {zs : List ℕ} → ys ≡ j ∷ zs → leaves < n
    sum-more is = omega (arith, ap length is, S.few)

    pub sum-passes :
        {j : ℕ} {zs : List ℕ} {b : Tally} {m : ℕ} → ys ≡ j ∷ zs → t j ≡ instructions 1 → b ≡ a → m ≡ leaves + 1
        → SumLeft s t gap n from b m zs
    sum-passes {zs = zs} is one b_is m-is =
        let more : leaves + 1 + gap * n ≡ leaves + gap * n + 1 = omega arith in
        record {
          few = omega (arith, S.few, ap length is, m-is);
          rest =
              ap₂ (λ (x : Tally) (l : ℕ). capped (plus x (plus (instructions (l + gap * n)) (summed t zs)))) b_is m-is
              ∙ ap (λ (l : ℕ). capped (plus a (plus (instructions l) (summed t zs)))) more
              ∙ sum-leaf t (leaves + gap * n) a is one
              ∙ S.rest;
        }

    pub sum_goes :
        {j : ℕ} {zs : List ℕ} {u b : Tally} {m : ℕ} → ys ≡ j ∷ zs → u ≡ capped (t j) → b ≡ capped (plus a u) → m ≡ leaves
        → SumLeft s t gap n from b m zs
    sum_goes {zs = zs} is u-is b_is m-is =
        let all = b_is ∙ ap (λ (x : Tally). capped (plus a x)) u-is in
        record {
          few = omega (arith, S.few, ap length is, m-is);
          rest =
              ap₂ (λ (x : Tally) (l : ℕ). capped (plus x (plus (instructions (l + gap * n)) (summed t zs)))) all m-is
              ∙ sum-node t (leaves + gap * n) a is
              ∙ S.rest;
        }

    pub sum-ends : {g b : Tally} → ys ≡ [] → g ≡ instructions (leaves + gap * n) → b ≡ capped (plus a g)
        → b ≡ capped (siblings s t gap n from)
    sum-ends is g-is b_is =
        b_is ∙ ap (λ (x : Tally). capped (plus a x)) g-is ∙ sum_done t (leaves + gap * n) a is ∙ S.rest

-- ---- links: a is the sum of those passed

pub record WalkLeft (s : List ℕ) (t : Rec) (j : ℕ) (a : Tally) (it : Links) : Type 0 where
  pub left : Left s it
  pub cut : capped a ≡ a
  pub rest : capped (plus a (walk s t (nodes_left it))) ≡ capped (walk s t (links max_depth s j))

module _ {s : List ℕ} {t : Rec} {j : ℕ} {a : Tally} {it : Links} where
  pub walk_begins : Begun s it (links max_depth s j) → a ≡ nothing → WalkLeft s t j a it
  walk_begins b e =
      let all = walk s t (links max_depth s j) in
      record {
        left = b.left;
        cut = nothing-cut e;
        rest =
            ap (λ cs. capped (plus a (walk s t cs))) b.nodes
            ∙ ap (λ (x : Tally). capped (plus x all)) e
            ∙ ap capped (nothing-plus all);
      }

  module _ (W : WalkLeft s t j a it) where
    pub walk-goes :
        {p : Read} {k : Links} {l : Link} {o : Operands} {u b : Tally} → Turn s it p k → l ≡ link s p.link → l ≡ Lowers o
        → u ≡ capped (siblings s t 0 o.n o.from) → b ≡ capped (plus a u) → WalkLeft s t j b k
    walk-goes {k = k} {o = o} {u = u} turn l-is told u-is b_is =
        let all = b_is ∙ ap (λ (x : Tally). capped (plus a x)) u-is in
        record {
          left = turn.left;
          cut = sum-cut a u b_is;
          rest =
              ap (λ (x : Tally). capped (plus x (walk s t (nodes_left k)))) all
              ∙ walk_more s t a turn.nodes o (sym l-is ∙ told)
              ∙ W.rest;
        }

    pub walk-failed : {p : Read} {k : Links} {l : Link} → Turn s it p k → l ≡ link s p.link → l ≡ Fails
        → a ≡ capped (walk s t (links max_depth s j))
    walk-failed turn l-is told = walk-fails s t a turn.nodes (sym l-is ∙ told) W.cut ∙ W.rest

    pub walk-lost : {p : Read} {k : Links} {l : Link} → Turn s it p k → l ≡ link s p.link → l ≡ Nowhere
        → a ≡ capped (walk s t (links max_depth s j))
    walk-lost turn l-is told = walk-nowhere s t a turn.nodes (sym l-is ∙ told) W.cut ∙ W.rest

    pub walk_ends : nodes_left it ≡ [] → a ≡ capped (walk s t (links max_depth s j))
    walk_ends e = walk-done s t a e W.cut ∙ W.rest

-- ---- how far a chain comes: those passed all lower, so it comes as far as those left let it

pub record ReachLeft (s : List ℕ) (j : ℕ) (it : Links) : Type 0 where
  pub left : Left s it
  pub rest : least s (nodes_left it) ≡ least s (links max_depth s j)

module _ {s : List ℕ} {j : ℕ} {it : Links} where
  pub reach-begins : Begun s it (links max_depth s j) → ReachLeft s j it
  reach-begins b = record { left = b.left; rest = ap (least s) b.nodes }

  module _ (R : ReachLeft s j it) where
    pub reach-goes :
        {p : Read} {k : Links} {l : Link} {o : Operands} → Turn s it p k → l ≡ link s p.link → l ≡ Lowers o → ReachLeft s j k
    reach-goes turn l-is told =
        record { left = turn.left; rest = sym (reach-on s turn.nodes (sym l-is ∙ told)) ∙ R.rest }

    -- a link without a step
    pub reach-lost : {p : Read} {k : Links} {l : Link} → Turn s it p k → l ≡ link s p.link → l ≡ Nowhere
        → 0 ≡ least s (links max_depth s j)
    reach-lost turn l-is told = sym (reach-none s turn.nodes (sym l-is ∙ told)) ∙ R.rest

    pub reach-ends : nodes_left it ≡ [] → 2 ≡ least s (links max_depth s j)
    unfolding least
    reach-ends e = sym (ap (least s) e) ∙ R.rest

-- ---- nodes

module _ (s : List ℕ) (t : Rec) (j : ℕ) where
  pub chain-plain : {b : Bool} {r : Tally} → b ≡ is_plain s j → b ≡ true → r ≡ instructions 1 → r ≡ capped (chain s t j)
  chain-plain e h r-is = r-is ∙ sym (ap capped (plain-chain s t j (sym e ∙ h)) ∙ one-capped)

  module _ {far : ℕ} (e : far ≡ least s (links max_depth s j)) where
    pub chain-stayed : {r : Tally} → far ≡ 0 → r ≡ instructions 1 → r ≡ capped (chain s t j)
    chain-stayed h r-is = r-is ∙ chain-stays s t j (sym e ∙ h)

    pub chain-failed :
        {w b i r : Tally} → far ≡ 1 → w ≡ capped (walk s t (links max_depth s j)) → b ≡ taken_back w → i ≡ instructions 1
        → r ≡ capped (plus b i)
        → r ≡ capped (chain s t j)
    chain-failed h w-is b_is i-is r-is = sum_by (b_is ∙ ap taken_back w-is) i-is r-is ∙ chain-fails s t j (sym e ∙ h)

    pub chain-lowered :
        {w u v i r : Tally} {root n : ℕ} → (far ≡ 0 → ⊥) → (far ≡ 1 → ⊥) → w ≡ capped (walk s t (links max_depth s j)) → root ≡ child j
        → n ≡ temporary s root → u ≡ capped (siblings s t 0 n root) → v ≡ capped (plus w u) → i ≡ instructions 1 → r ≡ capped (plus v i)
        → r ≡ capped (chain s t j)
    chain-lowered g h w-is root_is n-is u-is v-is i-is r-is =
        let lowered = u-is ∙ ap₂ (λ (m k : ℕ). capped (siblings s t 0 m k)) (n-is ∙ ap (temporary s) root_is) root_is in
        sum_by (sum_by w-is lowered v-is) i-is r-is ∙ chain-lowers s t j (λ q. g (e ∙ q)) (λ q. h (e ∙ q))

  pub coalesce-counted :
      {m n first last : ℕ} {u v r : Tally} → m ≡ count s j → n ≡ m - 1 → first ≡ child j → u ≡ capped (siblings s t 2 n first)
      → last ≡ skip s n first → v ≡ capped (t last) → r ≡ capped (plus u v) → r ≡ capped (coalesce s t j)
  coalesce-counted m-is n-is first-is u-is last-is v-is r-is =
      let n-all = n-is ∙ ap (λ (x : ℕ). x - 1) m-is in
      let others = u-is ∙ ap₂ (λ (x k : ℕ). capped (siblings s t 2 x k)) n-all first-is in
      let last-all = v-is ∙ ap (λ (x : ℕ). capped (t x)) (last-is ∙ ap₂ (skip s) n-all first-is) in
      sum_by others last-all r-is ∙ coalesce-counts s t j

pub tally-parted :
    (here : ℕ → Bool) (levels : ℕ) (s : List ℕ) (j : ℕ) {p : Plan} {gap : ℕ} {o : Operands} {rest u r : Tally} → (levels ≡ 0 → ⊥)
    → p ≡ plan here s j → p ≡ Parts gap o rest
    → u ≡ capped (siblings s (tally_by here (levels - 1) s) gap o.n o.from) → r ≡ capped (plus u rest)
    → r ≡ capped (tally_by here levels s j)
tally-parted here levels s j {gap = gap} {o = o} {rest = rest} h p-is told u-is r-is =
    r-is ∙ ap (λ (x : Tally). capped (plus x rest)) u-is ∙ tally-parts here levels s j gap o rest h (sym p-is ∙ told)

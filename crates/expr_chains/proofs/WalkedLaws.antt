-- Walks that answer several things at once: the links passed and those left give what the whole chain has.
use Prim.Native.Nat.{ℕ, ◌+◌, ◌*◌, ◌≤◌}
use mathlib.Core.Path.{◌≡◌, refl, sym, ap, subst, ◌∙◌}
use mathlib.Core.Bool.{Bool, true, false, ◌&&◌, and-true, and_assoc}
use mathlib.Core.List.{List, [], ◌∷◌, map}
use native.Mathlib.Omega.{arith}
use lib.ListN.{length}
use Rattle.std.proofs.lemmas.List.{length-map}
use Rattle.sheet.specs.Limits.{max_depth}
use Rattle.lowering.specs.Flatten.{StepRule, step_rule, links, has_step, flattens}
use Rattle.expr_rules.specs.declared.chains.Read.{Read}
use Rattle.expr_rules.specs.declared.chains.Links.{Links}
use Rattle.expr_rules.specs.Reads.{read_of}
use Rattle.expr_rules.specs.Links.{links_left, nodes_left}
use Rattle.expr_rules.proofs.LinksLaws.{Left, Begun, Turn}
use Rattle.expr_chains.specs.Steps.{step_operands, operands_of, chain_operands, link_count}
use Rattle.expr_chains.specs.Lowers.{lowers_by, step_lowers, all_lower, lowers}
use Rattle.std.specs.Ordering.{ord_min}
use Rattle.expr_chains.specs.contracts.DistanceOrd.TheImpl as Order
use Rattle.expr_chains.specs.declared.Distance.{Distance}
use Rattle.expr_chains.specs.declared.Distance.TheVariants.{Nowhere, TakenBack, Whole}
use Rattle.expr_chains.specs.Walked.{Counted, Grades, Comes, flattens_at, lowers_at}
use Rattle.expr_chains.proofs.LoopLaws.{width_few}
use Rattle.expr_chains.proofs.LinkLaws.{links-most}

-- m operands before the links cs
pub record Taking (s : List ℕ) (j m : ℕ) (cs : List ℕ) : Type 0 where
  pub small : m + 255 * length cs ≤ 255 * max_depth
  pub taken : m + operands_of s cs ≡ chain_operands s j

taking-begins : (s : List ℕ) (j : ℕ) → Taking s j 0 (links max_depth s j)
unfolding chain_operands link_count
taking-begins s j = let few = links-most s j in record { small = omega arith; taken = omega arith }

module _ {s : List ℕ} {j m c w : ℕ} {cs ds : List ℕ} (R : Taking s j m cs) (is : cs ≡ c ∷ ds) (e : w ≡ step_operands s c) where
  pub few-operands : m + w ≤ 255 * max_depth
  few-operands = let few = ap length is in omega (arith, width_few s c, R.small, e)

  taking-goes : Taking s j (m + w) ds
  unfolding operands_of
  taking-goes =
      let few = ap length is in
      let all = ap (operands_of s) is in
      record { small = omega (arith, width_few s c, R.small, e); taken = omega (arith, all, R.taken, e) }

taking-ends : {s : List ℕ} {j m : ℕ} {cs : List ℕ} → Taking s j m cs → cs ≡ [] → m ≡ chain_operands s j
unfolding operands_of
taking-ends {s} R e = let all = ap (operands_of s) e in omega (arith, all, R.taken)

-- ---- links and operands

pub record CountLeft (s : List ℕ) (j n m : ℕ) (it : Links) : Type 0 where
  pub left : Left s it
  pub linked : n + length (nodes_left it) ≡ link_count s j
  pub taking : Taking s j m (nodes_left it)

-- as many as the iterator gives
pub count-told : (s : List ℕ) (j : ℕ) (it : Links) → links_left it ≡ map (read_of s) (links max_depth s j)
    → length (links_left it) ≡ link_count s j
unfolding link_count
count-told s j it h = ap length h ∙ length-map (links max_depth s j) (read_of s)

module _ {s : List ℕ} {j : ℕ} {it : Links} where
  pub count-begins : Begun s it (links max_depth s j) → CountLeft s j 0 0 it
  unfolding link_count
  count-begins b = record {
    left = b.left;
    linked = omega (arith, ap length b.nodes);
    taking = subst (Taking s j 0) (sym b.nodes) (taking-begins s j);
  }

  module _ {n m : ℕ} (R : CountLeft s j n m it) where
    pub count-goes : {p : Read} {t : Links} {w : ℕ} → Turn s it p t → w ≡ step_operands s p.link → CountLeft s j (n + 1) (m + w) t
    count-goes u e = record {
      left = u.left;
      linked = omega (arith, ap length u.nodes, R.linked);
      taking = taking-goes R.taking u.nodes e;
    }

    pub count-more : {p : Read} {t : Links} → Turn s it p t → n + 1 ≤ max_depth
    count-more u = omega (arith, ap length u.nodes, R.linked, links-most s j)

    pub count-ends : nodes_left it ≡ [] → Counted s j (record { links = n; operands = m })
    count-ends e = record { links_are = omega (arith, ap length e, R.linked); operands_are = taking-ends R.taking e }

-- ---- how far it comes

module _ (s : List ℕ) (c : ℕ) (cs : List ℕ) where
  flat-and : flattens s (c ∷ cs) ≡ (has_step (step_rule s c) && flattens s cs)
  unfolding flattens
  flat-and = by (has_step (step_rule s c)) refl
    where
      by : (b : Bool) → has_step (step_rule s c) ≡ b → flattens s (c ∷ cs) ≡ (has_step (step_rule s c) && flattens s cs)
      by true h = rw (h, flattens)
      by false h = rw (h, flattens)

  lower-and : all_lower s (c ∷ cs) ≡ (step_lowers s c && all_lower s cs)
  unfolding all_lower
  lower-and = by (step_lowers s c) refl
    where
      by : (b : Bool) → step_lowers s c ≡ b → all_lower s (c ∷ cs) ≡ (step_lowers s c && all_lower s cs)
      by true h = rw (h, all_lower)
      by false h = rw (h, all_lower)

-- a chain comes as far with a link as the link alone lets it
pub grades-by : {s : List ℕ} {c : ℕ} {r : StepRule} {d : Distance} → r ≡ step_rule s c → flattens_at d ≡ has_step r
    → lowers_at d ≡ lowers_by r s c
    → Grades s c d
unfolding step_lowers
grades-by {s} {c} e f l = record { flattens_is = f ∙ ap has_step e; lowers_is = l ∙ ap (λ r. lowers_by r s c) e }

-- the lesser of two
lesser : Distance → Distance → Distance
lesser a b = ord_min (Order.cmp-value).it a b

lesser-flattens : (a b : Distance) → flattens_at (lesser a b) ≡ (flattens_at a && flattens_at b)
unfolding flattens_at lesser
lesser-flattens Nowhere Nowhere = refl
lesser-flattens Nowhere TakenBack = refl
lesser-flattens Nowhere Whole = refl
lesser-flattens TakenBack Nowhere = refl
lesser-flattens TakenBack TakenBack = refl
lesser-flattens TakenBack Whole = refl
lesser-flattens Whole Nowhere = refl
lesser-flattens Whole TakenBack = refl
lesser-flattens Whole Whole = refl

lesser-lowers : (a b : Distance) → lowers_at (lesser a b) ≡ (lowers_at a && lowers_at b)
unfolding lowers_at lesser
lesser-lowers Nowhere Nowhere = refl
lesser-lowers Nowhere TakenBack = refl
lesser-lowers Nowhere Whole = refl
lesser-lowers TakenBack Nowhere = refl
lesser-lowers TakenBack TakenBack = refl
lesser-lowers TakenBack Whole = refl
lesser-lowers Whole Nowhere = refl
lesser-lowers Whole TakenBack = refl
lesser-lowers Whole Whole = refl

-- so far it comes with the links passed
pub record FarLeft (s : List ℕ) (j : ℕ) (d : Distance) (m : ℕ) (it : Links) : Type 0 where
  pub left : Left s it
  pub flat : (flattens_at d && flattens s (nodes_left it)) ≡ flattens s (links max_depth s j)
  pub low : (lowers_at d && all_lower s (nodes_left it)) ≡ lowers s j
  pub taking : Taking s j m (nodes_left it)

module _ {s : List ℕ} {j : ℕ} {it : Links} where
  pub far-begins : Begun s it (links max_depth s j) → FarLeft s j Whole 0 it
  unfolding lowers flattens_at lowers_at
  far-begins b = record {
    left = b.left;
    flat = ap (flattens s) b.nodes;
    low = ap (all_lower s) b.nodes;
    taking = subst (Taking s j 0) (sym b.nodes) (taking-begins s j);
  }

  module _ {d : Distance} {m : ℕ} (R : FarLeft s j d m it) where
    pub far-goes :
        {p : Read} {t : Links} {g e : Distance} {w : ℕ} → Turn s it p t → Grades s p.link g → e ≡ ord_min (Order.cmp-value).it d g
        → w ≡ step_operands s p.link → FarLeft s j e (m + w) t
    unfolding lesser
    far-goes {p} {t} {g} {e} u G e-is w-is =
        let c = p.link in
        let ds = nodes_left t in record {
          left = u.left;
          flat =
              ap (λ x. x && flattens s ds) (ap flattens_at e-is ∙ lesser-flattens d g)
              ∙ and_assoc (flattens_at d) (flattens_at g) (flattens s ds)
              ∙ ap (λ x. flattens_at d && x)
              (ap (λ x. x && flattens s ds) G.flattens_is ∙ sym (flat-and s c ds) ∙ ap (flattens s) (sym u.nodes))
              ∙ R.flat;
          low =
              ap (λ x. x && all_lower s ds) (ap lowers_at e-is ∙ lesser-lowers d g)
              ∙ and_assoc (lowers_at d) (lowers_at g) (all_lower s ds)
              ∙ ap (λ x. lowers_at d && x)
              (ap (λ x. x && all_lower s ds) G.lowers_is ∙ sym (lower-and s c ds) ∙ ap (all_lower s) (sym u.nodes))
              ∙ R.low;
          taking = taking-goes R.taking u.nodes w-is;
        }

    pub far-ends : nodes_left it ≡ [] → Comes s j (record { distance = d; operands = m })
    unfolding flattens all_lower
    far-ends e = record {
      flattens_is = sym (and-true (flattens_at d)) ∙ ap (λ ls. flattens_at d && flattens s ls) (sym e) ∙ R.flat;
      lowers_is = sym (and-true (lowers_at d)) ∙ ap (λ ls. lowers_at d && all_lower s ls) (sym e) ∙ R.low;
      operands_are = taking-ends R.taking e;
    }

-- The walk along a chain's links, step by step.
use Rattle.std.proofs.Common.{◌≡◌, ℕ, zero, suc, ◌-◌, Bool, true, false, List, [], ◌∷◌, sym, refl, ap, ◌∙◌, subst, arith}
use Rattle.sheet.specs.Limits.{max_depth}
use Rattle.lowering.specs.Flatten.{links, goes_on, rest_of, operand_of, step_rule}
use Rattle.lowering.proofs.ChainNodesLaws.{links-more, links-last, links-none}
use Rattle.lowering.specs.Nodes.{Right, Valid, Row}
use Rattle.expr_chains.specs.Lowers.{step_lowers}
use Rattle.expr_chains.specs.Pooled.{All}
use Rattle.expr_count.specs.declared.links.Link.TheVariants.{Lowers}
use Rattle.expr_count.specs.declared.operands.Operands.{Operands}
use Rattle.expr_count.specs.Link.{link}
use Rattle.expr_model.specs.Made.{Made, lowered}
use Rattle.expr_model.specs.Construct.{Low, steps, step_by}
use Rattle.expr_model.proofs.NodeLaws.{link-node, link-next}
use Rattle.scratch.specs.declared.Layout.{Layout}
use Rattle.scratch_store.specs.declared.State.{State}
use Rattle.scratch_store.specs.Does.{Does, Left}
use Rattle.scratch_store.proofs.DoesLaws.{left-start, left-by, left_end}
use Rattle.expr_emit.specs.declared.after.After.TheVariants.{Nothing}
use Rattle.scratch_keys.specs.Used.{ChainKey}
use Rattle.expr_emit.specs.ChainParts.{step_names}
use Rattle.expr_emit.specs.Linked.{Linked}
use Rattle.expr_emit.proofs.KeyFacts.{next-key}
use Rattle.expr_emit.specs.Siblings.{rows}
use Rattle.expr_emit.proofs.StepDoes.{link-lowers, link_row, step-does}
use Rattle.expr_emit.proofs.CycleMore.{steps-grows}

-- the rest of a link, where it is one too
linked-next : (s : List ℕ) → Right s → (c : ℕ) → Linked s c → goes_on s c ≡ true → Linked s (rest_of s c)
linked-next s C c L g = let next = link-next s C c L.link g in record { link = next; key = next-key s c next.valid g }

-- the links of a chain are links
links-linked : (s : List ℕ) → Right s → (n c : ℕ) → Linked s c → All (Linked s) (links n s c)
links-linked s C zero c L = subst (All (Linked s)) (sym (links-none s 0 c (omega arith))) tt
links-linked s C (suc n) c L = by (λ d M. links-linked s C n d M) (goes_on s c) refl
  where
    by : ((d : ℕ) → Linked s d → All (Linked s) (links n s d)) → (b : Bool) → goes_on s c ≡ b → All (Linked s) (links (suc n) s c)
    by more true g =
        let less : n ≡ suc n - 1 = omega arith in
        let others = subst (λ (m : ℕ). All (Linked s) (links m s (rest_of s c))) less (more (rest_of s c) (linked-next s C c L g)) in
        subst (All (Linked s)) (sym (links-more s (suc n) c (omega arith) g)) (L, others)
    by more false g = subst (All (Linked s)) (sym (links-last s (suc n) c (omega arith) g)) (L, tt)

-- the steps, by whether the first lowers
module _ (s : List ℕ) (low : Low) (c : ℕ) (cs : List ℕ) (a : Made) where
  steps_on : step_lowers s c ≡ true → steps s low (c ∷ cs) a ≡ steps s low cs (step_by (step_rule s c) s low c a)
  unfolding steps
  steps_on h = rw (h, steps)

  steps-stop : step_lowers s c ≡ false → steps s low (c ∷ cs) a ≡ a
  unfolding steps
  steps-stop h = rw (h, steps)

-- on the way, from (ws, st) to (xs, q): the links cs are left
pub record Walking (s : List ℕ) (l : Layout) (levels j : ℕ) (ws : List ℕ) (st : State) (xs : List ℕ) (q : State) (cs : List ℕ) : Type 0 where
  pub linked : All (Linked s) cs
  pub rest : Left s l ws st (steps s (lowered levels s) (links max_depth s j)) xs q (steps s (lowered levels s) cs)

pub walk-starts : {s : List ℕ} {l : Layout} (levels : ℕ) (xs : List ℕ) (st : State) (j : ℕ) {cs : List ℕ} → Right s → Linked s j
    → cs ≡ links max_depth s j → Walking s l levels j xs st xs st cs
walk-starts {s} {l} levels xs st j C L e =
    subst (Walking s l levels j xs st xs st) (sym e)
    (record { linked = links-linked s C max_depth j L; rest = left-start xs st (steps s (lowered levels s) (links max_depth s j)) })

-- no link is left
pub walk-done : {s : List ℕ} {l : Layout} {ws xs : List ℕ} {st q : State} {cs : List ℕ} (levels j : ℕ) → cs ≡ []
    → Walking s l levels j ws st xs q cs → Does s l ws st xs q (steps s (lowered levels s) (links max_depth s j))
unfolding steps
walk-done {s} levels j e W =
    left_end (record {
      each = λ a h f. let o = W.rest.each a h f in
          record { now = o.now; held = o.held; same = sym (ap (λ ds. steps s (lowered levels s) ds o.now) e) ∙ o.same };
    })

module _ {s : List ℕ} {l : Layout} {ws xs : List ℕ} {st q : State} {bs ds : List ℕ} (levels j c : ℕ) where
  -- link c does not lower
  pub walk-fails : bs ≡ c ∷ ds → Walking s l levels j ws st xs q bs → step_lowers s c ≡ false
      → Does s l ws st xs q (steps s (lowered levels s) (links max_depth s j))
  walk-fails e W t =
      left_end (record {
        each = λ a h f. let o = W.rest.each a h f in
            record {
              now = o.now;
              held = o.held;
              same =
                  sym (ap (λ bs. steps s (lowered levels s) bs o.now) e ∙ steps-stop s (lowered levels s) c ds o.now t)
                  ∙ o.same;
            };
      })

module _ {s : List ℕ} {l : Layout} {ws xs ys zs : List ℕ} {st q t r : State} {bs cs : List ℕ} (levels j c : ℕ) (o : Operands)
    (e : bs ≡ c ∷ cs) (C : Right s) (W : Walking s l levels j ws st xs q bs) (is : link s c ≡ Lowers o)
    (args : Right s → Row s o.n o.from → Does s l xs q ys t (rows s (lowered levels s) Nothing o.n o.from))
    (names : Valid s (operand_of s c) → ChainKey s c → Does s l ys t zs r (step_names (step_rule s c) s (operand_of s c))) where
  walk-links : All (Linked s) (c ∷ cs)
  walk-links = subst (All (Linked s)) e W.linked

  link-does : Does s l xs q zs r (step_by (step_rule s c) s (lowered levels s) c)
  link-does =
      let L = walk-links.0 in
      step-does (lowered levels s) c o is (args C (link_row s c o C L.link is)) (names (link-node s C c L.link) L.key)

  pub walk-on : Walking s l levels j ws st zs r cs
  walk-on = record {
    linked = walk-links.1;
    rest =
        left-by (steps s (lowered levels s) cs) W.rest link-does
        (λ b k. ap (λ ds. steps s (lowered levels s) ds b) e ∙ steps_on s (lowered levels s) c cs b (link-lowers s c o is))
        (steps-grows levels s cs);
  }

-- Laws of the section of steps: along one chain, and chain by chain.
use Prim.Native.Nat.{ℕ, zero, suc, ◌+◌, ◌*◌, ◌≤◌, ◌<◌}
use mathlib.Core.Path.{◌≡◌, sym, ap, ◌∙◌}
use mathlib.Core.List.{List, [], ◌∷◌, ◌++◌, map, append-nil}
use native.Mathlib.Omega.{arith}
use native.Mathlib.Numerals.{add-one}
use lib.ListN.{length, take, drop, get_or, length-drop, length-map}
use lib.Seq.{length-take-le, take_all, drop-nil}
use Rattle.lowering.proofs.Decode as Decode
use Rattle.lowering.proofs.Widths.{step-width}
use Rattle.sheet.specs.Limits.{max_depth}
use Rattle.sheet.specs.Node.{field_a, field_b, field_c}
use Rattle.bytecode.specs.declared.Step.{Step}
use Rattle.bytecode.specs.Chain.{step_words}
use Rattle.lowering.specs.Limits.{step_width}
use Rattle.lowering.specs.Flatten as flatten
use Rattle.lowering.specs.Flatten.{index, method, step_rule, operand_of, links}
use Rattle.lowering.specs.Pools.{Name, steps_words}
use Rattle.expr_chains.specs.Steps.{name_in, step_with, step_as, step_operands, steps_in, chain_steps, link_count, steps_from}
use Rattle.expr_rules.specs.declared.chains.Read.{Read}
use Rattle.expr_rules.specs.declared.chains.Links.{Links}
use Rattle.expr_rules.specs.Reads.{read_of}
use Rattle.expr_rules.specs.Links.{links_left, nodes_left}
use Rattle.expr_rules.proofs.LinksLaws.{Left, Begun, Turn}
use Rattle.expr_chains.specs.Kept.{step_count}
use Rattle.expr_chains.proofs.KeptLaws.{steps-length, all-steps-length, steps-snoc}
use Rattle.expr_chains.proofs.LoopLaws.{width_few}
use Rattle.expr_chains.proofs.LinkLaws.{links-most}
use Rattle.expr_chains.proofs.WordsLaws.{steps-append}
use Rattle.write_sections.specs.Written.{Written}
use Rattle.write_sections.specs.Put.{put_part}
use Rattle.write_sections.proofs.PutLaws.{written_next, written_all}
use Rattle.write_sections.proofs.RowLaws.{take_more, take_whole}
use Rattle.write_sections.proofs.ChainRows.{count-more, count-part}

-- what stands at place i, and behind it
pub record Split (l : List Step) (i : ℕ) (x : Step) (r : List Step) : Type 0 where
  pub within : i < length l
  pub front : take (suc i) l ≡ take i l ++ (x ∷ [])
  pub behind : drop (suc i) l ≡ r

split : (l : List Step) (i : ℕ) (x : Step) (r : List Step) → drop i l ≡ x ∷ r → Split l i x r
split [] i x r e = absurd (omega (arith, ap length (sym (drop-nil i) ∙ e)))
split (y ∷ l) zero x r e = record { within = omega arith; front = cc; behind = cc }
split (y ∷ l) (suc i) x r e =
    let s = split l i x r e in
    record { within = omega (arith, s.within); front = ap (λ (z : List Step). y ∷ z) s.front; behind = s.behind }

abbrev pub step_rows : List ℕ → List Name → ℕ → ℕ → List ℕ
step_rows s ns j i = steps_words (take i (chain_steps s ns j))

-- i links are passed, with n operands, and the steps of those left are the ones behind the first i
pub record Ahead (s : List ℕ) (ns : List Name) (j i n : ℕ) (it : Links) : Type 0 where
  pub left : Left s it
  pub few : n ≤ 255 * i
  pub steps : steps_in s ns n (nodes_left it) ≡ drop i (chain_steps s ns j)

module _ (s : List ℕ) (ns : List Name) (j : ℕ) where
  pub ahead-begins : {it : Links} → Begun s it (links max_depth s j) → Ahead s ns j 0 0 it
  unfolding chain_steps
  ahead-begins b = record { left = b.left; few = omega arith; steps = ap (steps_in s ns 0) b.nodes }

  -- so many links at most
  pub links-few : (it : Links) → links_left it ≡ map (read_of s) (links max_depth s j) → length (links_left it) ≤ max_depth
  unfolding link_count
  links-few it e = omega (arith, ap length e, length-map (links max_depth s j) (read_of s), links-most s j)

  step-rows-length : (i : ℕ) → i ≤ link_count s j → length (step_rows s ns j i) ≡ step_width * i
  step-rows-length i h =
      let n = steps-length s ns j in
      Decode.steps-length (take i (chain_steps s ns j))
      ∙ ap (λ (m : ℕ). step_width * m) (length-take-le i (chain_steps s ns j) (omega arith))

  words-one : (x : Step) → steps_words (x ∷ []) ≡ step_words x
  unfolding steps_words
  words-one x = append-nil (step_words x)

  -- one link is next
  module _ {i n : ℕ} {it t : Links} {p : Read} (h : Ahead s ns j i n it) (u : Turn s it p t) where
    here : Split (chain_steps s ns j) i (step_as (step_rule s p.link) s ns p.link n)
        (steps_in s ns (n + step_operands s p.link) (nodes_left t))
    unfolding steps_in
    here = split (chain_steps s ns j) i _ _ (sym h.steps ∙ ap (steps_in s ns n) u.nodes)

    pub ahead-within : i < link_count s j
    ahead-within = omega (arith, here.within, steps-length s ns j)

    pub ahead-goes : {w : ℕ} → w ≡ step_operands s p.link → Ahead s ns j (i + 1) (n + w) t
    ahead-goes e = record {
      left = u.left;
      few = omega (arith, width_few s p.link, h.few, e);
      steps = rw (add-one i, e) (sym here.behind);
    }

    -- their operands are few
    pub ahead-few : {w : ℕ} → w ≡ step_operands s p.link → n + w ≤ 255 * max_depth
    ahead-few e = omega (arith, width_few s p.link, h.few, e, ahead-within, links-most s j)

    pub step-next :
        {x₀ x y : List ℕ} (at : ℕ) (z : Step) (w : List ℕ) → length x₀ ≡ step_width * link_count s j
        → z ≡ step_as (step_rule s p.link) s ns p.link n → w ≡ step_words z → at ≡ step_width * i → y ≡ put_part x at step_width w
        → Written x₀ x (step_rows s ns j i)
        → Written x₀ y (step_rows s ns j (i + 1))
    step-next at z w e f q o r v =
        let m = ahead-within in
        let row : w ≡ step_words (step_as (step_rule s p.link) s ns p.link n) = q ∙ ap step_words f in
        let more : step_rows s ns j (i + 1) ≡ step_rows s ns j i ++ w =
        ap steps_words (ap (λ (k : ℕ). take k (chain_steps s ns j)) (add-one i) ∙ here.front)
        ∙ steps-append (take i (chain_steps s ns j)) (step_as (step_rule s p.link) s ns p.link n ∷ [])
        ∙ ap (λ (k : List ℕ). step_rows s ns j i ++ k) (words-one (step_as (step_rule s p.link) s ns p.link n) ∙ sym row) in
        rw (r, more)
        (written_next v at step_width w (step-rows-length i (omega arith) ∙ sym o) (ap length q ∙ step-width z) (omega arith))

  -- no link is left
  pub step-done :
      {x₀ x : List ℕ} {i n : ℕ} {it : Links} → length x₀ ≡ step_width * link_count s j → Ahead s ns j i n it → nodes_left it ≡ []
      → Written x₀ x (step_rows s ns j i) → x ≡ steps_words (chain_steps s ns j)
  unfolding steps_in
  step-done {i = i} {n = m} e h z v =
      let n = steps-length s ns j in
      let none = ap length (sym h.steps ∙ ap (steps_in s ns m) z) in
      let all = ap steps_words (take_all i (chain_steps s ns j) (omega (arith, none, length-drop i (chain_steps s ns j)))) in
      written_all v (ap length all ∙ Decode.steps-length (chain_steps s ns j) ∙ ap (λ (m : ℕ). step_width * m) n ∙ sym e) ∙ all

-- where a name of link c stands
pub named_by :
    (s : List ℕ) (ns : List Name) (c : ℕ) {o t i : ℕ} (field : ℕ → ℕ) → o ≡ operand_of s c → t ≡ field o → i ≡ name_in s ns t
    → i ≡ name_in s ns (field (operand_of s c))
named_by s ns c field e f g = g ∙ ap (name_in s ns) (f ∙ ap field e)

-- names that the step of link c does not have may stand at any place
module _ (s : List ℕ) (ns : List Name) (c n a b d : ℕ) where
  abbrev Is : Step → Type 0
  Is x = x ≡ step_with (step_rule s c) s c n a b d → x ≡ step_as (step_rule s c) s ns c n

  pub step-index : {x : Step} → step_rule s c ≡ index → Is x
  unfolding step_as step_with
  step-index h e = e ∙ rw h

  pub step-none : {x : Step} → step_rule s c ≡ flatten.none → Is x
  unfolding step_as step_with
  step-none h e = e ∙ rw h

  pub step-method : {x : Step} → step_rule s c ≡ method → a ≡ name_in s ns (field_a s (operand_of s c)) → Is x
  unfolding step_as step_with
  step-method h p e = e ∙ rw (h, p)

  pub step-property :
      {x : Step} → a ≡ name_in s ns (field_a s (operand_of s c)) → b ≡ name_in s ns (field_b s (operand_of s c))
      → d ≡ name_in s ns (field_c s (operand_of s c)) → Is x
  unfolding step_as
  step-property p q r e = e ∙ rw (p, q, r)

-- chain by chain
abbrev pub all_rows : List ℕ → List Name → List ℕ → ℕ → List ℕ
all_rows s ns js i = steps_words (steps_from s ns (take i js))

module _ (s : List ℕ) (ns : List Name) (js : List ℕ) where
  all-length : (is : List ℕ) → length (steps_words (steps_from s ns is)) ≡ step_width * step_count s is
  all-length is = Decode.steps-length (steps_from s ns is) ∙ ap (λ (n : ℕ). step_width * n) (all-steps-length s ns is)

  pub all-next :
      {x₀ x y : List ℕ} (i at k : ℕ) (w : List ℕ) → length x₀ ≡ step_width * step_count s js → i < length js
      → at ≡ step_width * step_count s (take i js)
      → k ≡ step_width * link_count s (get_or js i 0) → w ≡ steps_words (chain_steps s ns (get_or js i 0)) → y ≡ put_part x at k w
      → Written x₀ x (all_rows s ns js i) → Written x₀ y (all_rows s ns js (i + 1))
  all-next i at k w e h f m q r v =
      let j = get_or js i 0 in
      let more : all_rows s ns js (i + 1) ≡ all_rows s ns js i ++ w =
      ap steps_words (ap (steps_from s ns) (take_more js i h) ∙ steps-snoc s ns (take i js) j)
      ∙ steps-append (steps_from s ns (take i js)) (chain_steps s ns j)
      ∙ ap (λ (l : List ℕ). all_rows s ns js i ++ l) (sym q) in
      let wide : length w ≡ k =
      ap length q ∙ Decode.steps-length (chain_steps s ns j) ∙ ap (λ (z : ℕ). step_width * z) (steps-length s ns j) ∙ sym m in
      rw (r, more)
      (written_next v at k w (all-length (take i js) ∙ sym f) wide (omega (arith, count-more s js i h, count-part s js (i + 1))))

  pub all-fits : (i at : ℕ) → i < length js → at ≡ step_width * step_count s (take i js)
      → at + step_width * link_count s (get_or js i 0) ≤ step_width * step_count s js
  all-fits i at h f = omega (arith, count-more s js i h, count-part s js (i + 1))

  pub all_end :
      {x₀ x : List ℕ} (i : ℕ) → length x₀ ≡ step_width * step_count s js → length js ≤ i → Written x₀ x (all_rows s ns js i)
      → x ≡ steps_words (steps_from s ns js)
  all_end i e h v =
      let all = ap (λ (l : List ℕ). steps_words (steps_from s ns l)) (take_whole js i h) in
      written_all v (ap length all ∙ all-length js ∙ sym e) ∙ all

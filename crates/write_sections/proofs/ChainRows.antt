-- Laws of the section of chains, and of how many steps they have.
use Prim.Native.Nat.{ℕ, ◌+◌, ◌*◌, ◌≤◌, ◌<◌}
use mathlib.Core.Path.{◌≡◌, sym, ap, ◌∙◌}
use mathlib.Core.List.{List, [], ◌∷◌, ◌++◌}
use native.Mathlib.Omega.{arith}
use lib.ListN.{length, take, drop, get_or, take-append-drop}
use lib.Seq.{length-take-le}
use borrow.Author.Tests.{ne_eqb}
use Rattle.lowering.proofs.Parts.{section-length}
use Rattle.lowering.proofs.Widths.{chain-width}
use Rattle.sheet.specs.Limits.{max_depth}
use Rattle.sheet.specs.Node.{field_a, child}
use Rattle.sheet.specs.Namespace.{role}
use Rattle.bytecode.specs.declared.Root.{Root}
use Rattle.bytecode.specs.declared.Chain.{Chain}
use Rattle.bytecode.specs.Chain.{chain_words}
use Rattle.lowering.specs.Limits.{chain_width}
use Rattle.lowering.specs.Kinds.{variable_kind}
use Rattle.lowering.specs.Pools.{Name, name}
use Rattle.lowering.specs.Image.{section}
use Rattle.expr_chains.proofs.LinkLaws.{links-most}
use Rattle.expr_chains.specs.Steps.{name_in, root_with, root_in, chain_root, link_count, chain_by, chain_in, chains_from}
use Rattle.expr_chains.specs.Kept.{step_count}
use Rattle.expr_chains.proofs.KeptLaws.{chains-length, chains-snoc}
use Rattle.expr_chains.proofs.StayLaws.{root-nameless}
use Rattle.scratch.specs.declared.Layout.{Layout}
use Rattle.scratch_index.specs.Held.{names_held, NamesHold, FindsName}
use Rattle.write_sections.specs.Written.{Written}
use Rattle.write_sections.specs.Put.{put_part}
use Rattle.write_sections.proofs.PutLaws.{written_next, written_all}
use Rattle.write_sections.proofs.RowLaws.{take_more, take_whole, section-snoc}

-- where a name stands
pub placed :
    {s : List ℕ} {l : Layout} {n : ℕ} {xs : List ℕ} {t r : ℕ} → FindsName s l n (name t 0) xs r → NamesHold s l n xs
    → r ≡ name_in s (names_held s l n xs) t
unfolding name_in
placed f h = f.found h

-- the root of node v, by the place of its name or, where it has none, by any
module _ (s : List ℕ) (ns : List Name) where
  pub root-named : {t i : ℕ} (v : ℕ) → t ≡ field_a s v → i ≡ name_in s ns t → root_with s v i ≡ root_in s ns v
  unfolding root_in
  root-named v f e = ap (root_with s v) (e ∙ ap (name_in s ns) f)

  pub root-plain : (v i : ℕ) → (role s v ≡ variable_kind → ⊥) → root_with s v i ≡ root_in s ns v
  unfolding root_in
  root-plain v i n = root-nameless s v i (name_in s ns (field_a s v)) (ne_eqb (role s v) variable_kind n)

  pub chain-rooted :
      (j first : ℕ) {v : ℕ} {r : Root} → v ≡ child j → r ≡ root_in s ns v → chain_by s j first r ≡ chain_in s ns first j
  unfolding chain_in chain_root
  chain-rooted j first is e = ap (chain_by s j first) (e ∙ ap (root_in s ns) is)

-- how many steps
module _ (s : List ℕ) where
  count-append : (is js : List ℕ) → step_count s (is ++ js) ≡ step_count s is + step_count s js
  unfolding step_count
  count-append [] js = omega arith
  count-append (i ∷ is) js = omega (arith, count-append is js)

  pub steps-most : (js : List ℕ) → step_count s js ≤ max_depth * length js
  unfolding step_count
  steps-most [] = omega arith
  steps-most (j ∷ js) = omega (arith, links-most s j, steps-most js)

  -- one chain more
  pub count-more : (js : List ℕ) (i : ℕ) → i < length js
      → step_count s (take (i + 1) js) ≡ step_count s (take i js) + link_count s (get_or js i 0)
  unfolding step_count
  count-more js i h = ap (step_count s) (take_more js i h) ∙ count-append (take i js) (get_or js i 0 ∷ []) ∙ omega arith

  pub count-part : (js : List ℕ) (i : ℕ) → step_count s (take i js) ≤ step_count s js
  count-part js i = omega (arith, sym (count-append (take i js) (drop i js)) ∙ ap (step_count s) (take-append-drop i js))

-- the section
abbrev pub chain_rows : List ℕ → List Name → List ℕ → ℕ → List ℕ
chain_rows s ns js i = section chain_words (chains_from s ns 0 (take i js))

module _ (s : List ℕ) (ns : List Name) (js : List ℕ) where
  chain-rows-length : (i : ℕ) → i ≤ length js → length (chain_rows s ns js i) ≡ chain_width * i
  chain-rows-length i h =
      section-length chain_words chain_width chain-width (chains_from s ns 0 (take i js))
      ∙ ap (λ (n : ℕ). chain_width * n) (chains-length s ns 0 (take i js) ∙ length-take-le i js h)

  chain_more :
      (i : ℕ) → i < length js
      → chain_rows s ns js (i + 1) ≡ chain_rows s ns js i ++ chain_words (chain_in s ns (step_count s (take i js)) (get_or js i 0))
  chain_more i h =
      ap (section chain_words) (ap (chains_from s ns 0) (take_more js i h) ∙ chains-snoc s ns 0 (take i js) (get_or js i 0))
      ∙ section-snoc chain_words (chains_from s ns 0 (take i js)) (chain_in s ns (0 + step_count s (take i js)) (get_or js i 0))
      ∙ ap (λ (n : ℕ). chain_rows s ns js i ++ chain_words (chain_in s ns n (get_or js i 0))) (omega arith)

  pub chain_next :
      {x₀ x y : List ℕ} (i first : ℕ) (c : Chain) (w : List ℕ) → length x₀ ≡ chain_width * length js → i < length js
      → first ≡ step_count s (take i js)
      → c ≡ chain_in s ns first (get_or js i 0) → w ≡ chain_words c → y ≡ put_part x (chain_width * i) chain_width w
      → Written x₀ x (chain_rows s ns js i)
      → Written x₀ y (chain_rows s ns js (i + 1))
  chain_next i first c w e h f p q r v =
      let n = chain-rows-length i (omega arith) in
      let row : w ≡ chain_words (chain_in s ns (step_count s (take i js)) (get_or js i 0)) =
      q ∙ ap chain_words (p ∙ ap (λ (m : ℕ). chain_in s ns m (get_or js i 0)) f) in
      rw (r, chain_more i h, ← row) (written_next v (chain_width * i) chain_width w n (ap length q ∙ chain-width c) (omega arith))

  pub chain-end :
      {x₀ x : List ℕ} (i : ℕ) → length x₀ ≡ chain_width * length js → length js ≤ i → Written x₀ x (chain_rows s ns js i)
      → x ≡ section chain_words (chains_from s ns 0 js)
  chain-end i e h v =
      let all = ap (λ (l : List ℕ). section chain_words (chains_from s ns 0 l)) (take_whole js i h) in
      written_all v
      (ap length all
      ∙ section-length chain_words chain_width chain-width (chains_from s ns 0 js)
      ∙ ap (λ (n : ℕ). chain_width * n) (chains-length s ns 0 js)
      ∙ sym e)
      ∙ all

-- Laws of the guards in the table: what one is, what is written of it, and the loop over all.
use Prim.Native.Nat.{ℕ, ◌+◌, ◌*◌, ◌≤◌, ◌<◌}
use mathlib.Core.Path.{◌≡◌, refl, ap, ap₂, subst, ◌∙◌}
use mathlib.Core.Bool.{Bool, true, false}
use mathlib.Core.List.{List}
use native.Mathlib.Decide.{dec_lt}
use native.Mathlib.Omega.{arith}
use lib.ListN.{length, set, length-set}
use lib.Seq.{get_or-set_same, get_or-set_other}
use borrow.Author.Tests.{eq-eqb, ne_eqb}
use Rattle.sheet.specs.Limits.{max_entries}
use Rattle.sheet.specs.Node.{kind, field_a, child, next}
use Rattle.sheet.specs.Walk.{skip}
use Rattle.check_switches.specs.Switch.{first_case}
use Rattle.lowering.specs.Kinds.{bool_kind}
use Rattle.lowering.specs.SwitchSheet.{block_count, guard_of}
use Rattle.lowering.specs.Arms.{tried, guard_kind}
use Rattle.expr_count.specs.declared.tallies.Tally.{Tally}
use Rattle.expr_count.specs.Limits.{cap}
use Rattle.expr_count.specs.Tally.{instructions, plus, capped}
use Rattle.expr_count.proofs.TallyLaws.{capped_left}
use Rattle.expr_count.specs.Count.{Rec}
use Rattle.switch_tables.specs.Columns.{size, guard_at, guard_len_at, guard_emitted_at, guard_node_at, case_heads_at, cell, Within}
use Rattle.switch_tables.specs.declared.kinds.Guard.TheVariants.{Tried}
use Rattle.switch_tables.specs.Kinds.{guard_word}
use Rattle.switch_tables.specs.Table.{Known, tried_kind, known_by, known_of, known_in, GuardsBy}
use Rattle.switch_tables.proofs.ColumnLaws.{within_none, within-then}
use Rattle.switch_tables.proofs.NodesLaws.{body-at, guard-next}
use Rattle.switch_places.specs.Known.{with_known, with_guard}

known-path : {x y : Known} → x.kind ≡ y.kind → x.len ≡ y.len → x.emitted ≡ y.emitted → x ≡ y
known-path p q r = λ i. record { kind = p i; len = q i; emitted = r i }

-- all below k, and k itself
pub one_more : (P : ℕ → Type 0) (k : ℕ) → ((i : ℕ) → i < k → P i) → P k → (i : ℕ) → i < k + 1 → P i
one_more P k f x i h =
    elim (dec_lt i k) [
      | yes l ↦ f i l
      | no n ↦ let e : k ≡ i = omega arith in subst P e x
    ]

-- what is cut off
abbrev pub Small : Tally → Type 0
Small a = (a.len ≤ cap) × (a.emitted ≤ cap)

pub cut_small : {a : Tally} (b : Tally) → a ≡ capped b → Small a
unfolding capped
cut_small b e = (omega (arith, ap (λ (x : Tally). x.len) e), omega (arith, ap (λ (x : Tally). x.emitted) e))

-- ---- what a guard is

tried-word : (d : Bool) → guard_word (Tried d) ≡ tried_kind d
unfolding tried_kind
tried-word true = refl
tried-word false = refl

module _ (s : List ℕ) (tal : Rec) (j : ℕ) where
  pub known-never : field_a s j ≡ 0 → kind s j ≡ bool_kind → record { kind = 0; len = 0; emitted = 0 } ≡ known_of s tal j
  unfolding known_of known_by guard_kind
  known-never z e = rw (eq-eqb (kind s j) bool_kind e, eq-eqb (field_a s j) 0 z, known_of, guard_kind)

  pub known-always : (field_a s j ≡ 0 → ⊥) → kind s j ≡ bool_kind → record { kind = 1; len = 0; emitted = 0 } ≡ known_of s tal j
  unfolding known_of known_by guard_kind
  known-always z e = rw (eq-eqb (kind s j) bool_kind e, ne_eqb (field_a s j) 0 z, known_of, guard_kind)

  -- by the sums that the code makes
  pub known-tried : (t a b : Tally) (l m : ℕ) → (kind s j ≡ bool_kind → ⊥) → t ≡ capped (plus a b) → a ≡ capped (tal j)
      → b ≡ instructions 1 → (t.len ≤ cap → l ≡ t.len) → (t.emitted ≤ cap → m ≡ t.emitted)
      → record { kind = guard_word (Tried t.defeated); len = l; emitted = m } ≡ known_of s tal j
  unfolding known_of known_by guard_kind
  known-tried t a b l m ne p q r kl km =
      let is : t ≡ capped (plus (tal j) (instructions 1)) =
      p ∙ ap₂ (λ (y z : Tally). capped (plus y z)) q r ∙ capped_left (tal j) (instructions 1) in
      rw (ne_eqb (kind s j) bool_kind ne, known_of, guard_kind)
      (known-path (tried-word t.defeated) (kl (cut_small (plus a b) p).0) (km (cut_small (plus a b) p).1) ∙ ap (known_by tried) is)

-- ---- what is written of one

pub with-guard : (s : List ℕ) (tal : Rec) (w a v : List ℕ) (k j : ℕ) (x : Known) → a ≡ set w (guard_node_at + k) j → v ≡ with_known a k x
    → x ≡ known_of s tal j
    → v ≡ with_guard s tal w k j
unfolding with_guard
with-guard s tal w a v k j x p q e = q ∙ ap₂ (λ (y : List ℕ) (z : Known). with_known y k z) p e

module _ (s : List ℕ) (tal : Rec) (w : List ℕ) (k j : ℕ) (z : length w ≡ size) (h : k < max_entries) where
  abbrev x : Known
  x = known_of s tal j

  abbrev v : List ℕ
  v = with_guard s tal w k j

  abbrev w₁ : List ℕ
  w₁ = set w (guard_node_at + k) j

  abbrev w₂ : List ℕ
  w₂ = set w₁ (guard_at + k) x.kind

  abbrev w₃ : List ℕ
  w₃ = set w₂ (guard_len_at + k) x.len

  -- a cell that is none of the three, and none of the four
  beside : (i : ℕ) → ((m : ℕ) → m < 3 → i ≡ max_entries * m + k → ⊥) → cell v i ≡ cell w₁ i
  unfolding with_guard with_known
  beside i n =
      get_or-set_other w₃ (guard_emitted_at + k) i x.emitted 0 (n 2 (omega arith))
      ∙ get_or-set_other w₂ (guard_len_at + k) i x.len 0 (n 1 (omega arith))
      ∙ get_or-set_other w₁ (guard_at + k) i x.kind 0 (n 0 (omega arith))

  aside : (i : ℕ) → ((m : ℕ) → m < 4 → i ≡ max_entries * m + k → ⊥) → cell v i ≡ cell w i
  aside i n = beside i (λ m l. n m (omega arith)) ∙ get_or-set_other w (guard_node_at + k) i j 0 (n 3 (omega arith))

  node-here : cell v (guard_node_at + k) ≡ j
  node-here = beside (guard_node_at + k) (λ m l e. omega arith) ∙ get_or-set_same w (guard_node_at + k) j 0 (omega (arith, z, h))

  known-here : known_in v k ≡ x
  unfolding with_guard with_known
  known-here =
      let z₁ = length-set w (guard_node_at + k) j ∙ z in
      let z₂ = length-set w₁ (guard_at + k) x.kind ∙ z₁ in
      let z₃ = length-set w₂ (guard_len_at + k) x.len ∙ z₂ in
      known-path
      (get_or-set_other w₃ (guard_emitted_at + k) (guard_at + k) x.emitted 0 (λ e. omega arith)
      ∙ get_or-set_other w₂ (guard_len_at + k) (guard_at + k) x.len 0 (λ e. omega arith)
      ∙ get_or-set_same w₁ (guard_at + k) x.kind 0 (omega (arith, z₁, h)))
      (get_or-set_other w₃ (guard_emitted_at + k) (guard_len_at + k) x.emitted 0 (λ e. omega arith)
      ∙ get_or-set_same w₂ (guard_len_at + k) x.len 0 (omega (arith, z₂, h)))
      (get_or-set_same w₃ (guard_emitted_at + k) x.emitted 0 (omega (arith, z₃, h)))

  guards-on : GuardsBy s tal w k → j ≡ guard_of s k → GuardsBy s tal v (k + 1)
  guards-on g e = record {
    known = one_more (λ i. known_in v i ≡ known_of s tal (guard_of s i)) k
        (λ i l. known-path (same 0 i l) (same 1 i l) (same 2 i l) ∙ g.known i l)
        (known-here ∙ ap (known_of s tal) e);
    node = one_more (λ i. cell v (guard_node_at + i) ≡ guard_of s i) k (λ i l. same 3 i l ∙ g.node i l) (node-here ∙ e);
  }
    where
      same : (c i : ℕ) → i < k → cell v (max_entries * c + i) ≡ cell w (max_entries * c + i)
      same c i l = aside (max_entries * c + i) (λ m d q. omega arith)

-- ---- the loop

-- guards up to block k are there, from the table w₀ on
abbrev pub Filled : List ℕ → Rec → List ℕ → List ℕ → ℕ → Type 0
Filled s tal w₀ w k = GuardsBy s tal w k × Within guard_at case_heads_at w₀ w

pub filled_none : (s : List ℕ) (tal : Rec) (w : List ℕ) → Filled s tal w w 0
filled_none s tal w =
    (record { known = λ i l. absurd (omega arith); node = λ i l. absurd (omega arith) }, within_none guard_at case_heads_at w)

pub filled_on : (s : List ℕ) (tal : Rec) (w₀ w v : List ℕ) (k j : ℕ) → Filled s tal w₀ w k → length w ≡ size → k < max_entries
    → j ≡ guard_of s k
    → v ≡ with_guard s tal w k j
    → Filled s tal w₀ v (k + 1)
filled_on s tal w₀ w v k j f z h e q =
    let moved : Within guard_at case_heads_at w (with_guard s tal w k j) =
    record { low = λ i l. absurd (omega arith); high = λ i l. aside s tal w k j z h i (λ m d r. omega arith) } in
    rw q (guards-on s tal w k j z h f.0 e, within-then f.1 moved)

-- the guard of block k is node j
pub first-guard : (s : List ℕ) {x j : ℕ} → x ≡ child 0 → j ≡ next s x → j ≡ guard_of s 0
unfolding guard_of skip
first-guard s e q = q ∙ ap (next s) e

pub next-guard : (s : List ℕ) {j a b : ℕ} (k : ℕ) → j ≡ guard_of s k → a ≡ next s j → b ≡ next s a → b ≡ guard_of s (k + 1)
next-guard s k e p q = q ∙ ap (next s) (p ∙ ap (next s) e ∙ body-at s k) ∙ guard-next s k

-- behind the blocks
pub behind-guards : (s : List ℕ) {j k : ℕ} → j ≡ guard_of s k → k ≡ block_count s → j ≡ first_case s
unfolding guard_of first_case
behind-guards s e q = e ∙ ap (guard_of s) q

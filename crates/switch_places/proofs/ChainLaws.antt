-- Laws of the blocks that are wanted and of the loop over the list of a chain: what is passed and what is left make the chain, cut off.
use Prim.Native.Nat.{ℕ, suc, ◌+◌, ◌≤◌, ◌<◌}
use mathlib.Core.Path.{◌≡◌, refl, sym, ap, ap₂, ◌∙◌}
use mathlib.Core.Bool.{Bool, true, false, ◌||◌, or_assoc, or-false, or-true}
use mathlib.Core.List.{List, [], ◌∷◌}
use native.Mathlib.Decide.{ℕ_discrete}
use native.Mathlib.Omega.{arith}
use native.Mathlib.Numerals.{add-one}
use lib.Dec.{eqb}
use lib.ListN.{length, get_or, set, drop, drop_of_length-le}
use lib.Seq.{get_or-set_same, get_or-set_other, drop-cons}
use borrow.Author.Tests.{eq-eqb, ne_eqb}
use Rattle.std.specs.Prelude.{Option, None, Some, unwrap_or}
use Rattle.sheet.specs.Limits.{max_entries}
use Rattle.lowering.specs.SwitchSheet.{block_count, guard_of}
use Rattle.lowering.specs.Arms.{taken, declined, Guard, never, always, tried, guard_kind}
use Rattle.expr_count.specs.declared.tallies.Tally.{Tally}
use Rattle.expr_count.specs.Limits.{cap}
use Rattle.expr_count.specs.Tally.{counted, instructions, nothing, plus, capped}
use Rattle.expr_count.proofs.TallyLaws.{tally-path, plus_assoc, nothing-plus}
use Rattle.expr_count.proofs.CodeLaws.{capped-more}
use Rattle.expr_count.specs.Count.{Rec}
use Rattle.switch_count.specs.Arms.{tries_tally, end_of, has_try, wants, end_tally, arm_tally}
use Rattle.switch_tables.specs.Columns.{size, guard_at, guard_len_at, guard_emitted_at, wanted_at, case_place_at, cell, Within}
use Rattle.switch_tables.specs.declared.kinds.Exit.{Exit}
use Rattle.switch_tables.specs.declared.kinds.Exit.TheVariants.{Chain, Fallback, Body}
use Rattle.switch_tables.specs.declared.kinds.Guard as Word
use Rattle.switch_tables.specs.declared.kinds.Guard.TheVariants.{Never, Always, Tried}
use Rattle.switch_tables.specs.Kinds.{said_guard, exit_word}
use Rattle.switch_tables.specs.Spans.{one_if}
use Rattle.switch_tables.specs.Table.{Known, known_by, known_of, known_in}
use Rattle.switch_tables.specs.Planned.{exit_by, want_in}
use Rattle.switch_tables.proofs.ColumnLaws.{within_none, within-then, within-put}
use Rattle.switch_tables.proofs.KindLaws.{rule_by, defeats, tried-said, rule-said}
use Rattle.switch_places.specs.GuardChain.{either, sum_in, Reads, ChainOf}
use Rattle.switch_places.proofs.GuardLaws.{one_more, Small, cut_small}
use Rattle.switch_places.proofs.KeptLaws.{guards-stay}

-- ---- a block that is wanted

want-set : (w : List ℕ) (k : ℕ) → length w ≡ size → k < max_entries → (j : ℕ)
    → want_in (set w (wanted_at + k) 1) j ≡ (want_in w j || eqb j k)
want-set w k z h j =
    elim (ℕ_discrete j k) [
      | yes q ↦
          rw (q, eq-eqb k k refl, or-true (want_in w k))
          (ap (λ (y : ℕ). eqb y 1) (get_or-set_same w (wanted_at + k) 1 0 (omega (arith, z, h))))
      | no q ↦
          rw (ne_eqb j k q, or-false (want_in w j))
          (ap (λ (y : ℕ). eqb y 1) (get_or-set_other w (wanted_at + k) (wanted_at + j) 1 0 (λ f. q (omega arith))))
    ]

-- ---- the default alone is wanted

one-is : (x : Bool) → eqb (one_if x) 1 ≡ x
one-is true = refl
one-is false = refl

-- blocks below k are marked
abbrev pub Marked : List ℕ → List ℕ → ℕ → ℕ → Type 0
Marked w₀ w def k = ((i : ℕ) → i < k → want_in w i ≡ eqb def (suc i)) × Within wanted_at case_place_at w₀ w

pub marked-on : (w₀ w v : List ℕ) (def k x : ℕ) → Marked w₀ w def k → length w ≡ size → k < max_entries → x ≡ one_if (eqb def (k + 1))
    → v ≡ set w (wanted_at + k) x → Marked w₀ v def (k + 1)
marked-on w₀ w v def k x c z h e q =
    rw q (
      one_more (λ i. want_in (set w (wanted_at + k) x) i ≡ eqb def (suc i)) k
          (λ i l. ap (λ (y : ℕ). eqb y 1) (get_or-set_other w (wanted_at + k) (wanted_at + i) x 0 (λ f. omega arith)) ∙ c.0 i l)
          (ap (λ (y : ℕ). eqb y 1) (get_or-set_same w (wanted_at + k) x 0 (omega (arith, z, h)) ∙ e)
          ∙ one-is (eqb def (k + 1)) ∙ ap (eqb def) (add-one k)),
      within-then c.1 (within-put wanted_at case_place_at w (wanted_at + k) x (omega arith) (omega (arith, h))),
    )

-- ---- the loop

pub or-nothing : (o : Option Tally) (z a : Tally) → z ≡ nothing → a ≡ unwrap_or o z → a ≡ sum_in o
unfolding sum_in
or-nothing None z a z-is a-is = a-is ∙ z-is
or-nothing (Some sum) z a z-is a-is = a-is

-- of the list l the blocks `rest` are left
pub record Chaining (s : List ℕ) (t : Rec) (l w₀ w : List ℕ) (sum : Tally) (tries : Bool) (rest : List ℕ) : Type 0 where
  pub within : Within wanted_at case_place_at w₀ w
  pub small : Small sum
  pub sums : capped (plus sum (plus (tries_tally s t rest) (end_tally (has_try s l))))
      ≡ capped (arm_tally s t l)
  pub tried-is : (tries || has_try s rest) ≡ has_try s l
  pub ends_as : end_of s rest ≡ end_of s l
  pub wanted : (j : ℕ) → j < block_count s → (want_in w j || wants s j rest) ≡ (want_in w₀ j || wants s j l)

pub chaining-start : (s : List ℕ) (t : Rec) (l w : List ℕ) (sum : Tally) → sum ≡ nothing → Chaining s t l w w sum false l
unfolding arm_tally nothing instructions
chaining-start s t l w sum e =
    rw e (record {
      within = within_none wanted_at case_place_at w;
      small = (omega arith, omega arith);
      sums = ap capped (nothing-plus (arm_tally s t l));
      tried-is = refl;
      ends_as = refl;
      wanted = λ j h. refl;
    })

falls-told : (b : Bool) → exit_word (either b (Chain true) Fallback) ≡ exit_by b declined
unfolding exit_by either
falls-told true = refl
falls-told false = refl

body-told : (b : Bool) (k : ℕ) → k < max_entries → exit_word (either b (Chain false) (Body k)) ≡ exit_by b (taken k)
unfolding exit_by either
body-told true k h = refl
body-told false k h = omega arith

-- at place i of the list that is read
module _ (s : List ℕ) (t : Rec) (l w₀ a : List ℕ) (R : Reads s t w₀ a l) (w : List ℕ) (sum : Tally) (b : Bool) (i : ℕ)
    (c : Chaining s t l w₀ w sum b (drop i l)) where
  abbrev end : Tally
  end = end_tally (has_try s l)

  -- the sum where the list ends
  abbrev pub Ends : Tally → Type 0
  Ends r = sum.len ≤ cap → sum.emitted ≤ cap → r ≡ capped (plus sum (end_tally b))

  sum-end : (r x : Tally) → Ends r → b ≡ has_try s l → capped (plus sum (plus nothing end)) ≡ x → r ≡ x
  sum-end r x p q m = p c.small.0 c.small.1 ∙ ap (λ (y : Tally). capped (plus sum y)) (ap end_tally q ∙ sym (nothing-plus end)) ∙ m

  pub chain-end : (r : Tally) (e : Exit) → length a ≤ i → Ends r → e ≡ either b (Chain true) Fallback → ChainOf s t l w₀ w r (exit_word e)
  unfolding tries_tally has_try end_of wants
  chain-end r e h p q =
      let none : drop i l ≡ [] = drop_of_length-le l {i = i} (omega (arith, h, ap length R.listed)) in
      let d : Chaining s t l w₀ w sum b [] = rw none at c in
      let b_is : b ≡ has_try s l = sym (or-false b) ∙ d.tried-is in
      record {
        sum_is = sum-end r _ p b_is d.sums;
        exit_is = ap exit_word q ∙ falls-told b ∙ ap₂ exit_by b_is d.ends_as;
        wanted = λ j m. sym (or-false (want_in w j)) ∙ d.wanted j m;
        within = c.within;
      }

  module _ (k : ℕ) (x : Word.Guard) (h : i < length a) (k-is : k ≡ get_or a i 0) (at : x ≡ said_guard (cell w (guard_at + k))) where
    abbrev ks : List ℕ
    ks = drop (i + 1) l

    abbrev adds : Tally
    adds = plus (t (guard_of s k)) (instructions 1)

    inside : i < length l
    inside = omega (arith, h, ap length R.listed)

    here : get_or l i 0 ≡ k
    here = ap (λ (y : List ℕ). get_or y i 0) (sym R.listed) ∙ sym k-is

    below : k < block_count s
    below = rw here at (R.named i inside)

    d : Chaining s t l w₀ w sum b (k ∷ ks)
    d = rw (drop-cons l i 0 inside ∙ ap₂ (λ (y m : ℕ). y ∷ drop m l) here (sym (add-one i))) at c

    row : (u : List ℕ) → Within wanted_at case_place_at w₀ u → known_in u k ≡ known_by (guard_kind s (guard_of s k)) (capped adds)
    unfolding known_of
    row u m = (guards-stay w₀ u wanted_at m.low s (block_count s) (omega arith) R.few R.guards).known k below

    said : x ≡ said_guard (known_by (guard_kind s (guard_of s k)) (capped adds)).kind
    said = at ∙ ap (λ (y : Known). said_guard y.kind) (row w c.within)

    kind_is : guard_kind s (guard_of s k) ≡ rule_by x
    kind_is = sym (rule-said (guard_kind s (guard_of s k)) (capped adds)) ∙ ap rule_by (sym said)

    pub chain-never : x ≡ Never → Chaining s t l w₀ w sum b ks
    unfolding tries_tally has_try end_of wants
    chain-never q =
        let g : guard_kind s (guard_of s k) ≡ never = kind_is ∙ ap rule_by q in
        record {
          within = d.within;
          small = d.small;
          sums = rw (g, tries_tally) at d.sums;
          tried-is = rw (g, has_try) at d.tried-is;
          ends_as = rw (g, end_of) at d.ends_as;
          wanted = λ j m. rw (g, wants) at (d.wanted j m);
        }

    module _ (whole : length w ≡ size) (v : List ℕ) (e : v ≡ set w (wanted_at + k) 1) where
      marked : (j : ℕ) → want_in v j ≡ (want_in w j || eqb j k)
      marked = rw e (want-set w k whole (omega (arith, below, R.few)))

      moved : Within wanted_at case_place_at w₀ v
      moved =
          let few : k < max_entries = omega (arith, below, R.few) in
          rw e (within-then c.within (within-put wanted_at case_place_at w (wanted_at + k) 1 (omega arith) (omega (arith, few))))

      pub chain-always : (r : Tally) (y : Exit) → x ≡ Always → Ends r → y ≡ either b (Chain false) (Body k)
          → ChainOf s t l w₀ v r (exit_word y)
      unfolding tries_tally has_try end_of wants
      chain-always r y q p o =
          let g : guard_kind s (guard_of s k) ≡ always = kind_is ∙ ap rule_by q in
          let b_is : b ≡ has_try s l = sym (or-false b) ∙ (rw (g, has_try) at d.tried-is) in
          record {
            sum_is = sum-end r _ p b_is (rw (g, tries_tally) at d.sums);
            exit_is =
                ap exit_word o ∙ body-told b k (omega (arith, below, R.few)) ∙ ap₂ exit_by b_is (rw (g, end_of) at d.ends_as);
            wanted = λ j m. marked j ∙ (rw (g, wants) at (d.wanted j m));
            within = moved;
          }

      pub chain-tried : (r u : Tally) (f : Bool) → x ≡ Tried f
          → u ≡ counted (cell v (guard_len_at + k)) (cell v (guard_emitted_at + k)) f → r ≡ capped (plus sum u)
          → Chaining s t l w₀ v r true ks
      unfolding known_by tries_tally has_try end_of wants
      chain-tried r u f q u-is r-is =
          let g : guard_kind s (guard_of s k) ≡ tried = kind_is ∙ ap rule_by q in
          let told : (y : List ℕ) → Within wanted_at case_place_at w₀ y → known_in y k ≡ known_by tried (capped adds) =
          λ y m. row y m ∙ ap (λ (o : Guard). known_by o (capped adds)) g in
          let adds-is : u ≡ capped adds =
          u-is
          ∙ tally-path (ap (λ (y : Known). y.len) (told v moved)) (ap (λ (y : Known). y.emitted) (told v moved))
          (ap defeats (sym q ∙ at ∙ ap (λ (y : Known). said_guard y.kind) (told w c.within) ∙ tried-said (capped adds).defeated)) in
          record {
            within = moved;
            small = cut_small (plus sum u) r-is;
            sums =
                ap (λ (y : Tally). capped (plus y (plus (tries_tally s t ks) end))) (r-is ∙ ap (λ (y : Tally). capped (plus sum y)) adds-is)
                ∙ capped-more sum adds (plus (tries_tally s t ks) end)
                ∙ ap (λ (y : Tally). capped (plus sum y)) (sym (plus_assoc adds (tries_tally s t ks) end))
                ∙ (rw (g, tries_tally) at d.sums);
            tried-is = sym (or-true b) ∙ (rw (g, has_try) at d.tried-is);
            ends_as = rw (g, end_of) at d.ends_as;
            wanted = λ j m.
                ap (λ (y : Bool). y || wants s j ks) (marked j)
                ∙ or_assoc (want_in w j) (eqb j k) (wants s j ks)
                ∙ (rw (g, wants) at (d.wanted j m));
          }

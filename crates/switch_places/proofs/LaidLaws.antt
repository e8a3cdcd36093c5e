-- Laws of the loops over chains: those passed have their places and exits, and those left stand from the sum on. The lists of the heads in
-- the table are those of the switch, and name its blocks.
use Prim.Native.Nat.{ℕ, zero, suc, ◌+◌, ◌-◌, ◌≤◌, ◌<◌, min}
use mathlib.Core.Path.{◌≡◌, refl, sym, ap, ◌∙◌}
use mathlib.Core.Bool.{Bool, ◌||◌, or_assoc, or-false}
use mathlib.Core.List.{List, [], ◌∷◌}
use native.Mathlib.Decide.{dec_lt}
use native.Mathlib.Omega.{arith}
use native.Mathlib.Numerals.{add-one}
use lib.Dec.{eqb}
use lib.ListN.{length, get_or, set, take, drop, length-set, drop_of_length-le}
use lib.Seq.{get_or-set_same, get_or-set_other, drop-cons}
use Rattle.checks.proofs.AcceptedLaws.{accepted-sizes, accepted-shape, accepted-numbers}
use Rattle.sheet.specs.Limits.{max_entries}
use Rattle.sheet.specs.Node.{kind}
use Rattle.checks.specs.Checked.{verdict_number, checked}
use Rattle.lowering.specs.Limits.{max_bands}
use Rattle.lowering.specs.Kinds.{switch_kind}
use Rattle.lowering.proofs.NodesLaws.{right}
use Rattle.lowering.specs.SwitchSheet.{block_count}
use Rattle.switch_model.proofs.SameLaws.{AllIn}
use Rattle.switch_model.proofs.NodeLaws.{case-lists, range-lists, all-place, lists-place}
use Rattle.expr_count.specs.declared.tallies.Tally.{Tally}
use Rattle.expr_count.specs.Limits.{cap}
use Rattle.expr_count.specs.Tally.{instructions, nothing, plus, capped}
use Rattle.expr_count.proofs.TallyLaws.{plus_assoc, capped_left, capped-right}
use Rattle.expr_count.specs.Count.{Rec}
use Rattle.switch_count.specs.Arms.{wants, any_wants, arm_tally, arms_tally}
use Rattle.switch_count.specs.Total.{case_lists, split_lists}
use Rattle.switch_tables.specs.Columns.{size, case_heads_at, spans_at, band_place_at, band_exit_at, wanted_at, case_place_at, case_exit_at}
use Rattle.switch_tables.specs.Columns.{body_at, cell}
use Rattle.switch_tables.specs.Columns.{Within}
use Rattle.switch_tables.specs.Table.{piece_in}
use Rattle.switch_tables.specs.Planned.{exit_of, chain_place, want_in, TablesBy, entries}
use Rattle.switch_tables.proofs.ColumnLaws.{within_none, within-then, keys_length, key-at}
use Rattle.switch_lists.proofs.SpanLaws.{piece-kept}
use Rattle.switch_places.specs.Laid.{Laid}
use Rattle.switch_places.specs.declared.heads.Heads.{Heads}
use Rattle.switch_places.specs.Heads.{Area, Columns, area_of, HeadsIn, ListsStay}
use Rattle.switch_tables.specs.Heads.{case_key}
use Rattle.lowering.specs.All.{All}
use Rattle.switch_tables.specs.Columns.{head_node_at, band_heads_at, band_head_at}
use Rattle.switch_places.specs.GuardChain.{Reads, ChainOf, Cells, LaidOne}
use Rattle.switch_places.proofs.GuardLaws.{one_more, Small, cut_small}
use Rattle.switch_places.proofs.BodyLaws.{capped-none}
use Rattle.switch_places.proofs.KeptLaws.{guards-stay}

-- ---- one chain

-- a cell that is none of the wanted blocks
aside : (w v : List ℕ) → Within wanted_at case_place_at w v → (i : ℕ) → ((k : ℕ) → k < max_entries → wanted_at + k ≡ i → ⊥) → cell v i ≡ cell w i
aside w v h i clear =
    elim (dec_lt i wanted_at) [
      | yes l ↦ h.low i l
      | no n ↦
          elim (dec_lt i case_place_at) [
            | yes m ↦ absurd (clear (i - wanted_at) (omega arith) (omega arith))
            | no m ↦ h.high i (omega arith)
          ]
    ]

pub laid_one : {t : Rec} {s l w a u w₁ w₂ : List ℕ} {place exit x p : ℕ} {b y r : Tally} → Reads s t w a l → Cells place exit
    → b.len ≤ cap
    → ChainOf s t l w u y x → length u ≡ size → w₁ ≡ set u place p → (b.len ≤ cap → p ≡ b.len) → w₂ ≡ set w₁ exit x
    → r ≡ capped (plus b y) → LaidOne s t l place exit b w w₂ r
laid_one {t} {s} {l} {w} {a} {u} {w₁} {w₂} {place} {exit} {x} {p} {b} R C small c whole e p-is f q =
    rw (f, e, q) (record {
      sum_is = ap (λ (z : Tally). capped (plus b z)) c.sum_is ∙ capped-right b (arm_tally s t l);
      place_is =
          get_or-set_other (set u place p) exit place x 0 C.apart
          ∙ get_or-set_same u place p 0 (omega (arith, C.place_in, whole))
          ∙ p-is small;
      exit_is =
          get_or-set_same (set u place p) exit x 0 (omega (arith, C.exit_in, length-set u place p, whole)) ∙ c.exit_is;
      wanted = λ k h.
          let few : k < max_entries = omega (arith, h, R.few) in
          ap (λ (z : ℕ). eqb z 1) (beside (wanted_at + k) (C.place_clear k few) (C.exit_clear k few)) ∙ c.wanted k h;
      kept = λ i h g m. beside i g m ∙ aside w u c.within i h;
    })
  where
    beside : (i : ℕ) → (i ≡ place → ⊥) → (i ≡ exit → ⊥) → cell (set (set u place p) exit x) i ≡ cell u i
    beside i g m = get_or-set_other (set u place p) exit i x 0 m ∙ get_or-set_other u place i p 0 g

-- ---- the columns

columns-cells : {A : Area} {m : ℕ} → Columns A m → (q : ℕ) → q < m → Cells (A.at + q) (A.out + q)
columns-cells C q h = record {
  place_in = omega (arith, C.order, C.inside, h);
  exit_in = omega (arith, C.inside, h);
  apart = λ e. omega (arith, C.order, h, e);
  place_clear = λ k l e. (C.clear k q l h).0 e;
  exit_clear = λ k l e. (C.clear k q l h).1 e;
}

-- ---- the loop

-- one chain more before a place
take_more : (s : List ℕ) (t : Rec) (ls : List (List ℕ)) (q : ℕ) → q < length ls
    → (arms_tally s t (take (suc q) ls)).len ≡ (arms_tally s t (take q ls)).len + (arm_tally s t (get_or ls q [])).len
unfolding arms_tally plus nothing instructions
take_more s t [] q h = absurd (omega arith)
take_more s t (l ∷ ls) zero h = omega arith
take_more s t (l ∷ ls) (suc q) h = omega (arith, take_more s t ls q (omega arith))

-- lists below q are passed
pub record Laying (s : List ℕ) (t : Rec) (ls : List (List ℕ)) (A : Area) (b : Tally) (w₀ w : List ℕ) (sum : Tally) (q : ℕ) : Type 0 where
  pub within : Within A.lo A.hi w₀ w
  pub small : Small sum
  pub start : sum.len ≡ min (chain_place s t ls b.len q) cap
  pub sums : capped (plus sum (arms_tally s t (drop q ls))) ≡ capped (plus b (arms_tally s t ls))
  pub places : (p : ℕ) → p < q → cell w (A.at + p) ≡ min (chain_place s t ls b.len p) cap
  pub exits : (p : ℕ) → p < q → cell w (A.out + p) ≡ exit_of s (get_or ls p [])
  pub wanted : (k : ℕ) → k < block_count s → (want_in w k || any_wants s k (drop q ls)) ≡ (want_in w₀ k || any_wants s k ls)

module _ {s : List ℕ} {t : Rec} {ls : List (List ℕ)} {A : Area} {b : Tally} where
  pub laying-start : (w : List ℕ) → b.len ≤ cap → b.emitted ≤ cap → Laying s t ls A b w w b 0
  unfolding arms_tally nothing instructions
  laying-start w l m = record {
    within = within_none A.lo A.hi w;
    small = (l, m);
    start = omega (arith, l);
    sums = refl;
    places = λ p h. absurd (omega arith);
    exits = λ p h. absurd (omega arith);
    wanted = λ k h. refl;
  }

  pub laying-end : {w₀ w : List ℕ} {sum : Tally} {q : ℕ} → Laying s t ls A b w₀ w sum q → length ls ≤ q
      → Laid s t ls A.at A.out b w₀ w sum × Within A.lo A.hi w₀ w
  unfolding arms_tally any_wants
  laying-end {w = w} {sum} {q} c h =
      let none : drop q ls ≡ [] = drop_of_length-le ls {i = q} h in (
        record {
          sum = capped-none sum c.small ∙ (rw none at c.sums);
          places = λ p l. c.places p (omega arith);
          exits = λ p l. c.exits p (omega arith);
          wanted = λ k l. sym (or-false (want_in w k)) ∙ (rw none at (c.wanted k l));
        },
        c.within,
      )

  laying-on : {m : ℕ} {w₀ w v : List ℕ} {sum r : Tally} {q : ℕ} → Columns A m → Laying s t ls A b w₀ w sum q
      → q < length ls → q < m → LaidOne s t (get_or ls q []) (A.at + q) (A.out + q) sum w v r → Laying s t ls A b w₀ v r (q + 1)
  unfolding arms_tally any_wants capped plus
  laying-on {m} {w₀} {w} {v} {sum} {r} {q} C c h few o =
      let l = get_or ls q [] in
      let rest = drop (q + 1) ls in
      let rest_is : drop q ls ≡ l ∷ rest = drop-cons ls q [] h ∙ ap (λ (n : ℕ). l ∷ drop n ls) (sym (add-one q)) in
      rw o.sum_is (record {
        within = within-then c.within (record {
          low = λ i d.
              o.kept i (λ k y z. omega (arith, C.wants-from, d, z)) (λ z. omega (arith, C.from, d, z))
              (λ z. omega (arith, C.from, C.order, d, z));
          high = λ i d.
              o.kept i (λ k y z. omega (arith, C.wants-to, d, y, z)) (λ z. omega (arith, C.to, C.order, few, d, z))
              (λ z. omega (arith, C.to, few, d, z));
        });
        small = cut_small (plus sum (arm_tally s t l)) refl;
        start = omega (arith, c.start, rw (sym (add-one q)) at (take_more s t ls q h));
        sums =
            capped_left (plus sum (arm_tally s t l)) (arms_tally s t rest)
            ∙ ap capped (plus_assoc sum (arm_tally s t l) (arms_tally s t rest))
            ∙ (rw rest_is at c.sums);
        places = one_more (λ p. cell v (A.at + p) ≡ min (chain_place s t ls b.len p) cap) q
            (λ p d. o.kept (A.at + p) (λ k y z. (C.clear k p y (omega (arith, d, few))).0 z) (λ z. omega (arith, d, z))
            (λ z. omega (arith, C.order, few, d, z)) ∙ c.places p d)
            (o.place_is ∙ c.start);
        exits = one_more (λ p. cell v (A.out + p) ≡ exit_of s (get_or ls p [])) q
            (λ p d. o.kept (A.out + p) (λ k y z. (C.clear k p y (omega (arith, d, few))).1 z) (λ z. omega (arith, C.order, few, d, z))
            (λ z. omega (arith, d, z)) ∙ c.exits p d)
            o.exit_is;
        wanted = λ k d.
            ap (λ (x : Bool). x || any_wants s k rest) (o.wanted k d)
            ∙ or_assoc (want_in w k) (wants s k l) (any_wants s k rest)
            ∙ (rw rest_is at (c.wanted k d));
      })

-- ---- each list names blocks

named-by : (s : List ℕ) (ls : List (List ℕ)) → AllIn (λ (x : ℕ). x < block_count s) ls → (i : ℕ) → i < length ls
    → All (λ (x : ℕ). x < block_count s) (get_or ls i [])
named-by s ls all i l = lists-place (λ (x : ℕ). x < block_count s) ls all i l

-- ---- the heads of the cases and of the bands

-- they lie in the table, as the type has it
abbrev There : ℕ → ℕ → ℕ → ℕ → Type 0
There most nodes places exits = (most ≤ max_bands) × (nodes ≤ size) × (places ≤ size) × (exits ≤ size)

abbrev of_cases : There max_entries head_node_at case_place_at case_exit_at → Heads
of_cases there = record {
  count = case_heads_at;
  most = max_entries;
  nodes = head_node_at;
  places = case_place_at;
  exits = case_exit_at;
  there = there;
}

abbrev of_bands : There max_bands band_head_at band_place_at band_exit_at → Heads
of_bands there = record {
  count = band_heads_at;
  most = max_bands;
  nodes = band_head_at;
  places = band_place_at;
  exits = band_exit_at;
  there = there;
}

module _ {s w : List ℕ} {t : Rec} (ok : verdict_number (checked s) ≡ 0) (k : kind s 0 ≡ switch_kind) (T : TablesBy s t w) where
  pub case_heads : {there : There _ _ _ _} → HeadsIn s w (case_key s) (of_cases there) wanted_at body_at (case_lists s)
  unfolding case_lists
  case_heads = record {
    are = T.case_heads;
    named = named-by s _ (case-lists s (right s (accepted-sizes s ok) (accepted-shape s ok)) (accepted-numbers s ok) k);
    few = T.few_heads;
    low = omega arith;
    behind = omega arith;
    columns = record {
      order = omega arith;
      inside = omega arith;
      from = omega arith;
      to = omega arith;
      wants-from = omega arith;
      wants-to = omega arith;
      clear = λ k q h l. (λ e. omega arith, λ e. omega arith);
    };
  }

  pub band_heads : {there : There _ _ _ _} → HeadsIn s w (piece_in w) (of_bands there) band_place_at case_place_at (split_lists (entries s))
  unfolding split_lists
  band_heads = record {
    are = T.band_heads;
    named = named-by s _ (range-lists s (right s (accepted-sizes s ok) (accepted-shape s ok)) (accepted-numbers s ok) k);
    few = T.few_band_heads;
    low = omega arith;
    behind = omega arith;
    columns = record {
      order = omega arith;
      inside = omega arith;
      from = omega arith;
      to = omega arith;
      wants-from = omega arith;
      wants-to = omega arith;
      clear = λ k q h l. (λ e. omega arith, λ e. omega arith);
    };
  }

  -- no list of a piece changes with cells behind the cuts
  pub pieces-stay : ListsStay (λ v. cell v spans_at ≤ max_entries) piece_in w band_place_at case_place_at
  pieces-stay = record {
    known_still = λ v h. omega (arith, h.low spans_at (omega arith), T.few_spans);
    same = λ v x h. piece-kept (omega arith) T.few_spans h x;
  }

-- lists of the sheet do not hang on the table
pub cases-stay : (s w : List ℕ) → ListsStay (λ v. Prim.Unit {0}) (λ v. case_key s) w wanted_at body_at
cases-stay s w = record { known_still = λ v h. tt; same = λ v x h. refl }

-- ---- the chain of one head more

-- of an accepted switch the chains of the lists below q are laid
abbrev pub LaidTo : List ℕ → Rec → List (List ℕ) → (List ℕ → Type 0) → (List ℕ → ℕ → List ℕ) → Heads → ℕ → ℕ → Tally → List ℕ → List ℕ
    → Tally → ℕ → Type 0
LaidTo s t ls known list_of h lo hi b w₀ w sum q =
    TablesBy s t w₀ → b.len ≤ cap → b.emitted ≤ cap → HeadsIn s w₀ (list_of w₀) h lo hi ls → ListsStay known list_of w₀ lo hi
    → Laying s t ls (area_of h lo hi) b w₀ w sum q

pub head-on : {t : Rec} {s w₀ w a : List ℕ} {ls : List (List ℕ)} {key : ℕ → List ℕ} {h : Heads} {lo hi q x n y : ℕ} {v : List ℕ}
    {b sum r : Tally}
    → HeadsIn s w₀ key h lo hi ls → TablesBy s t w₀ → Laying s t ls (area_of h lo hi) b w₀ w sum q → q < n
    → n ≡ min y h.most → y ≡ cell w₀ h.count → x ≡ cell w (h.nodes + q) → a ≡ key x
    → ((s' : List ℕ) (t' : Rec) (l : List ℕ) → Reads s' t' w a l → Cells (h.places + q) (h.exits + q) → sum.len ≤ cap
    → LaidOne s' t' l (h.places + q) (h.exits + q) sum w v r)
    → Laying s t ls (area_of h lo hi) b w₀ v r (q + 1)
head-on {t} {s} {w₀} {w} {a} {ls} {key} {h} {lo} {hi} {q} {x} H T c lt n-is y-is x-is listed laid =
    let below : q < cell w₀ h.count = omega (arith, lt, n-is, y-is) in
    let inside : q < length ls = omega (arith, below, ap length H.are, keys_length key w₀ h.nodes (cell w₀ h.count)) in
    let few : q < h.most = omega (arith, lt, n-is) in
    let behind = H.behind in
    let l = get_or ls q [] in
    let list : key x ≡ l =
    ap key (x-is ∙ c.within.low (h.nodes + q) (omega (arith, few, behind)))
    ∙ sym (key-at key w₀ h.nodes [] (cell w₀ h.count) q below)
    ∙ ap (λ (xs : List (List ℕ)). get_or xs q []) H.are in
    let R : Reads s t w a l =
    record {
      few = T.few_blocks;
      guards = guards-stay w₀ w lo (λ i d. c.within.low i d) s (block_count s) H.low T.few_blocks T.guards;
      listed = listed ∙ list;
      named = all-place (λ (i : ℕ). i < block_count s) l (H.named q inside);
    } in
    laying-on H.columns c inside few (laid s t l R (columns-cells H.columns q few) c.small.0)

-- all are passed
pub heads-end : {t : Rec} {s w₀ w : List ℕ} {ls : List (List ℕ)} {key : ℕ → List ℕ} {h : Heads} {lo hi q n y : ℕ} {b sum : Tally}
    → HeadsIn s w₀ key h lo hi ls → Laying s t ls (area_of h lo hi) b w₀ w sum q → n ≤ q → n ≡ min y h.most → y ≡ cell w₀ h.count
    → Laid s t ls h.places h.exits b w₀ w sum × Within lo hi w₀ w
heads-end {w₀ = w₀} {key = key} {h} H c past n-is y-is =
    let few = H.few in
    laying-end c (omega (arith, past, n-is, y-is, few, ap length H.are, keys_length key w₀ h.nodes (cell w₀ h.count)))

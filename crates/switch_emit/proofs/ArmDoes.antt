-- The chains of lists of blocks: of one list, block by block; of the lists of a table's heads, one after another.
use Rattle.std.proofs.Common.{◌≡◌, ℕ, ◌+◌, ◌<◌, ◌≤◌, Bool, true, false, ◌&&◌, leb, List, [], length, get_or, drop, sym, ap, ◌∙◌, arith}
use Rattle.sheet.specs.Limits.{max_depth}
use Rattle.lowering.specs.Nodes.{Right, Valid}
use Rattle.lowering.proofs.NodesLaws.{guard-valid}
use Rattle.lowering.specs.SwitchSheet.{block_count, guard_of}
use Rattle.lowering.specs.Arms.{always}
use Rattle.expr_model.specs.Made.{Made, lowered}
use Rattle.expr_model.proofs.Rising.{lowered-rises}
use Rattle.scratch.specs.declared.Layout.{Layout}
use Rattle.scratch_store.specs.declared.State.{State}
use Rattle.scratch_store.specs.Does.{Does, Left}
use Rattle.scratch_store.proofs.DoesLaws.{does-none, does-same, left-start, left-by, left-done}
use Rattle.switch_model.specs.Change.{any_tried, try_to, arm_to, arms_to, case_lists, range_lists}
use Rattle.switch_model.proofs.GrowLaws.{arms-rise}
use Rattle.switch_model.specs.Last.{last_of}
use Rattle.switch_model.proofs.LastLaws.{tried_at, arms_next}
use Rattle.switch_model.proofs.LoopLaws.{guard_at, arm_from, arm_start, arm-at-never, arm-at-tried, arm-taken, arm-straight, arm-declined}
use Rattle.switch_model.proofs.LoopLaws.{arm-empty, arms-done, from-rises, jump_kept}
use Rattle.switch_model.proofs.NodeLaws.{all-place, lists-place, case-lists, range-lists}
use Rattle.switch_model.proofs.SameLaws.{AllIn}
use Rattle.switch_count.specs.Total as total
use Rattle.expr_emit.proofs.Doing.{does_at}
use Rattle.expr_count.specs.Count.{tally}
use Rattle.switch_tables.specs.Columns.{cell, guard_node_at, case_heads_at, head_node_at, band_heads_at, band_head_at, guard_at as kindsAt}
use Rattle.switch_tables.specs.Heads.{case_key}
use Rattle.switch_tables.specs.declared.kinds.Guard as Word
use Rattle.switch_tables.specs.declared.kinds.Guard.TheVariants.{Never, Always, Tried}
use Rattle.switch_tables.specs.Kinds.{said_guard}
use Rattle.switch_tables.proofs.KindLaws.{rule_by}
use Rattle.std.specs.Prelude.{Option}
use borrow.Table.Steps.{cases}
use Rattle.switch_tables.specs.Table.{Known, Guards, piece_in}
use Rattle.switch_tables.specs.Planned.{Tables, Placed, entries}
use Rattle.switch_tables.proofs.ColumnLaws.{keys_length, key-at}
use Rattle.switch_emit.specs.Ready.{Ready, Named}
use Rattle.switch_emit.specs.Heads.{Heads, LastDrops}
use Rattle.switch_emit.specs.Parts.{place_in, chain_in, LastBelow, is_at, try_one, end_arm}
use Rattle.switch_emit.proofs.TableLaws.{guard-is, left-next, chain-is, last-chain, last-at}

-- ---- one chain

-- the chain of ks by the table t; what is left of it with i blocks passed
abbrev arm_by : List ℕ → List ℕ → ℕ → Bool → List ℕ → Made → Made
arm_by s t fallback drops ks = arm_to s (lowered max_depth s) (place_in t) fallback drops ks

abbrev rest_by : List ℕ → List ℕ → ℕ → Bool → List ℕ → Bool → ℕ → Made → Made
rest_by s t fallback drops ks any i = arm_from s (lowered max_depth s) (place_in t) fallback drops any (drop i ks)

module _ (s t : List ℕ) (fallback : ℕ) (drops : Bool) (ks : List ℕ) (i : ℕ) (a : Made) where
  arm-stops : (any : Bool) → i < length ks → guard_at s ks i ≡ always
      → rest_by s t fallback drops ks any i a ≡ end_arm any false (place_in t (get_or ks i 0)) a
  unfolding end_arm
  arm-stops true l h =
      arm-taken s (lowered max_depth s) (place_in t) fallback drops ks i a l h ∙ sym (jump_kept (place_in t (get_or ks i 0)) a)
  arm-stops false l h = arm-straight s (lowered max_depth s) (place_in t) fallback drops ks i a l h

  arm-ends : (any : Bool) → length ks ≤ i → rest_by s t fallback drops ks any i a ≡ end_arm any drops fallback a
  unfolding end_arm
  arm-ends true l = arm-declined s (lowered max_depth s) (place_in t) fallback drops ks i a l
  arm-ends false l = arm-empty s (lowered max_depth s) (place_in t) fallback drops ks i a l

pub record ArmLeft (s : List ℕ) (l : Layout) (ws : List ℕ) (st : State) (t : List ℕ) (fallback : ℕ) (drops : Bool) (ks : List ℕ)
    (xs : List ℕ) (q : State) (any : Bool) (i : ℕ) : Type 0 where
  pub rest : Left s l ws st (arm_by s t fallback drops ks) xs q (rest_by s t fallback drops ks any i)

pub arm-begins : {s : List ℕ} {l : Layout} {ws : List ℕ} {st : State} (t : List ℕ) (fallback : ℕ) (drops : Bool) (ks : List ℕ)
    → ArmLeft s l ws st t fallback drops ks ws st false 0
arm-begins {s} t fallback drops ks = record {
  rest = record { each = λ a h f. record { now = a; held = h; same = arm_start s (lowered max_depth s) (place_in t) fallback drops ks a } };
}

module _ {s : List ℕ} {l : Layout} {ws xs : List ℕ} {st q : State} {t : List ℕ} {fallback : ℕ} {drops : Bool} {ks : List ℕ}
    {any : Bool} {i : ℕ} (L : ArmLeft s l ws st t fallback drops ks xs q any i) where
  module _ (k : ℕ) (v : Word.Guard) (C : Ready s) (T : Guards s t (block_count s)) (N : Named s ks) (lt : i < length ks)
      (k-is : k ≡ get_or ks i 0) (v-is : v ≡ said_guard (cell t (kindsAt + k))) where
    below : k < block_count s
    below = rw k-is (all-place (λ k. k < block_count s) ks N.each i lt)

    guard : guard_at s ks i ≡ rule_by v
    guard = guard-is s (tally max_depth s) (guard_of s (get_or ks i 0)) v
        (v-is ∙ ap (λ (x : Known). said_guard x.kind) (T.known k below) ∙ rw k-is)

    pub arm-pass : v ≡ Never → ArmLeft s l ws st t fallback drops ks xs q any (i + 1)
    arm-pass h = record {
      rest = left-next (rest_by s t fallback drops ks any (i + 1)) L.rest
          (λ b. arm-at-never s (lowered max_depth s) (place_in t) fallback drops ks i b any lt (rw h at guard));
    }

    module _ (to : ℕ) (to_is : to ≡ place_in t k) where
      target : to ≡ place_in t (get_or ks i 0)
      target = to_is ∙ ap (place_in t) k-is

      pub arm-on : {ys : List ℕ} {r : State} (g : ℕ) (f : Bool) → v ≡ Tried f → g ≡ cell t (guard_node_at + k)
          → (Right s → Valid s g → Does s l xs q ys r (try_one s (lowered max_depth s) to g))
          → ArmLeft s l ws st t fallback drops ks ys r true (i + 1)
      unfolding try_one try_to
      arm-on g f h g-is d =
          let low = lowered max_depth s in
          let node = g-is ∙ T.node k below in
          let up = from-rises s low (place_in t) fallback drops (lowered-rises max_depth s) true (drop (i + 1) ks) in
          record {
            rest = left-by (rest_by s t fallback drops ks true (i + 1)) L.rest
                (does_at (λ n. try_one s low n (guard_of s (get_or ks i 0))) target
                (does_at (try_one s low to) (node ∙ ap (guard_of s) k-is)
                (d C.right (rw node (guard-valid s C.right C.switch k below)))))
                (λ b m. arm-at-tried s low (place_in t) fallback drops ks i b any lt (rw h at guard))
                (record { each = λ b. (up b).emitted });
          }

      pub arm-stop : {ys : List ℕ} {r : State} → v ≡ Always → Does s l xs q ys r (end_arm any false to)
          → Does s l ws st ys r (arm_by s t fallback drops ks)
      arm-stop h d =
          left-done L.rest
          (does-same (rest_by s t fallback drops ks any i) (λ a m. sym (arm-stops s t fallback drops ks i a any lt (rw h at guard)))
          (does_at (end_arm any false) target d))

  pub arm_end : {ys : List ℕ} {r : State} → length ks ≤ i → Does s l xs q ys r (end_arm any drops fallback)
      → Does s l ws st ys r (arm_by s t fallback drops ks)
  arm_end h d =
      left-done L.rest (does-same (rest_by s t fallback drops ks any i) (λ a m. sym (arm-ends s t fallback drops ks i a any h)) d)

-- ---- the chains of the lists ls

abbrev arms_by : List ℕ → List ℕ → ℕ → Bool → List (List ℕ) → Made → Made
arms_by s t fallback falls ls = arms_to s (lowered max_depth s) (place_in t) fallback falls ls

names : {s : List ℕ} (ls : List (List ℕ)) → AllIn (λ k. k < block_count s) ls → (i : ℕ) → i < length ls → Named s (get_or ls i [])
names {s} ls all i lt = record { each = lists-place (λ k. k < block_count s) ls all i lt }

module _ {s w : List ℕ} (C : Ready s) (T : Tables s w) where
  pub case_heads : Heads s w (case_key s) head_node_at (cell w case_heads_at) (case_lists s)
  unfolding total.case_lists
  case_heads = record { are = T.case_heads; named = names _ (case-lists s C.right C.numbers C.switch) }

  pub band_heads : Heads s w (piece_in w) band_head_at (cell w band_heads_at) (range_lists (entries s))
  unfolding total.split_lists
  band_heads = record { are = T.band_heads; named = names _ (range-lists s C.right C.numbers C.switch) }

-- what is left of them with i lists passed
pub record ArmsLeft (s : List ℕ) (l : Layout) (ws : List ℕ) (st : State) (t : List ℕ) (fallback : ℕ) (falls : Bool) (ls : List (List ℕ))
    (xs : List ℕ) (q : State) (i : ℕ) : Type 0 where
  pub rest : Left s l ws st (arms_by s t fallback falls ls) xs q (arms_by s t fallback falls (drop i ls))

pub arms-begin : {s : List ℕ} {l : Layout} {ws : List ℕ} {st : State} (t : List ℕ) (fallback : ℕ) (falls : Bool) (ls : List (List ℕ))
    → ArmsLeft s l ws st t fallback falls ls ws st 0
arms-begin {s} {l} {ws} {st} t fallback falls ls = record { rest = left-start ws st (arms_by s t fallback falls ls) }

heads-length : {s w : List ℕ} {key : ℕ → List ℕ} {at m : ℕ} {ls : List (List ℕ)} → Heads s w key at m ls → length ls ≡ m
heads-length {w = w} {key} {at} {m} H = ap length (sym H.are) ∙ keys_length key w at m

pub case-last : {s w : List ℕ} (n : ℕ) (last : Option ℕ) → Ready s → Tables s w → Placed s w → n ≡ cell w case_heads_at
    → LastBelow (chain_in w) n last → LastDrops s true last (case_lists s)
case-last {s} {w} n last C T P all h i lt tried =
    let long = all ∙ sym (heads-length (case_heads C T)) in
    last-at (chain_in w) n i last h (omega arith) (chain-is s w P i lt ∙ tried)
    ∙ ap (λ (v : ℕ). leb v (i + 1)) (last-chain s w n P long)

-- which jump is dropped matters where a guard is tried
arm-drops : (s t : List ℕ) (to : ℕ) (d e : Bool) (ks : List ℕ) (a : Made) → (any_tried s ks ≡ true → d ≡ e)
    → arm_by s t to d ks a ≡ arm_by s t to e ks a
unfolding arm_to
arm-drops s t to d e ks a h =
    cases (any_tried s ks) (λ y. ap (λ (v : Bool). arm_by s t to v ks a) (h y)) (λ y. rw (y, arm_to))

module _ {s : List ℕ} {l : Layout} {ws xs : List ℕ} {st q : State} {w : List ℕ} {to : ℕ} {falls : Bool} {ls : List (List ℕ)} {i : ℕ}
    (L : ArmsLeft s l ws st w to falls ls xs q i) {key : ℕ → List ℕ} {at m : ℕ} (H : Heads s w key at m ls) (n : ℕ) (all : n ≡ m) where
  pub arms-on : {ys : List ℕ} {r : State} {ks : List ℕ} (g : ℕ) (dropped : Option ℕ) → i < n → g ≡ cell w (at + i) → ks ≡ key g
      → LastDrops s falls dropped ls → (Named s ks → Does s l xs q ys r (arm_by s w to (is_at dropped i) ks))
      → ArmsLeft s l ws st w to falls ls ys r (i + 1)
  arms-on {ks = ks} g dropped lt g-is ks-is D arm =
      let long = heads-length H in
      let here : ks ≡ get_or ls i [] = ks-is ∙ ap key g-is ∙ rw H.are at (sym (key-at key w at [] m i (omega arith))) in
      let named : Named s ks = rw here (H.named i (omega arith)) in
      let up = arms-rise s (lowered max_depth s) (lowered-rises max_depth s) (place_in w) to falls (drop (i + 1) ls) in
      record {
        rest = left-by (arms_by s w to falls (drop (i + 1) ls)) L.rest
            (does-same (arm_by s w to (falls && leb (last_of (tried_at s ls) (length ls)) (i + 1)) (get_or ls i []))
            (λ a m. arm-drops s w to (is_at dropped i) _ (get_or ls i []) a (D i (omega arith)))
            (does_at (arm_by s w to (is_at dropped i)) here (arm named)))
            (λ b m. arms_next s ls (lowered max_depth s) (place_in w) to falls i b (omega arith))
            (record { each = λ b. (up b).emitted });
      }

  pub arms_end : n ≤ i → Does s l ws st xs q (arms_by s w to falls ls)
  arms_end h =
      let long = heads-length H in
      left-done L.rest
      (does-same (arms_by s w to falls (drop i ls))
      (λ a m. sym (arms-done s (lowered max_depth s) (place_in w) to falls ls i a (omega arith))) (does-none xs q))

-- the same place in other words
pub arms-as : {s : List ℕ} {l : Layout} {ws xs : List ℕ} {st q : State} (w : List ℕ) {to x : ℕ} (falls : Bool) (ls : List (List ℕ))
    → to ≡ x → Does s l ws st xs q (arms_by s w to falls ls) → Does s l ws st xs q (arms_by s w x falls ls)
arms-as {s} w falls ls e d = does_at (λ (v : ℕ). arms_by s w v falls ls) e d

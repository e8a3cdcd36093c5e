-- The list of a piece: one interval more, where the table keeps it, and the loop that makes it. Assumed: at most 64 intervals.
use Prim.Native.Nat.{ℕ, zero, suc, ◌+◌, ◌≤◌, ◌<◌, min}
use mathlib.Core.Path.{◌≡◌, refl, sym, ◌∙◌, ap, ap₂}
use mathlib.Core.Bool.{Bool, true, false, ◌&&◌}
use mathlib.Core.List.{List, [], ◌∷◌, ◌++◌, append-nil}
use native.Mathlib.Omega.{arith}
use native.Mathlib.Numerals.{add-one}
use lib.Dec.{leb, ltb}
use lib.ListN.{length, set, take, length-set}
use Rattle.sheet.specs.Limits.{max_entries}
use Rattle.switch_tables.specs.Columns.{cell, spans_at, first_at, behind_at, block_at, low_at, Within}
use Rattle.switch_tables.specs.Spans.{Span, covered, blocks_at}
use Rattle.switch_tables.specs.Table.{span_at, spans_to, spans_in, piece_in}
use Rattle.switch_tables.proofs.SpansLaws.{kept}
use Rattle.switch_lists.proofs.ReadLaws.{push}

-- ---- one interval more

blocks-snoc : (p : ℕ) (xs : List Span) (x : Span) → blocks_at p (xs ++ (x ∷ [])) ≡ blocks_at p xs ++ kept x.block (covered x p) []
unfolding blocks_at
blocks-snoc p [] x = refl
blocks-snoc p (y ∷ ys) x = by (covered y p) (blocks_at p ys) (kept x.block (covered x p) []) (blocks-snoc p ys x)
  where
    by : (t : Bool) {l : List ℕ} (r m : List ℕ) → l ≡ r ++ m → kept y.block t l ≡ kept y.block t r ++ m
    by true r m k = ap (λ (l : List ℕ). y.block ∷ l) k
    by false r m k = k

pub spans-none : (w : List ℕ) → spans_to w 0 ≡ []
unfolding spans_to
spans-none w = refl

pub spans-more : (w : List ℕ) (i : ℕ) → spans_to w (i + 1) ≡ spans_to w i ++ (span_at w i ∷ [])
unfolding spans_to
spans-more w i = rw (add-one, spans_to)

blocks_more : (w : List ℕ) (p i : ℕ) (t : Bool) → covered (span_at w i) p ≡ t
    → blocks_at p (spans_to w (i + 1)) ≡ blocks_at p (spans_to w i) ++ kept (cell w (block_at + i)) t []
blocks_more w p i t e = rw (spans-more w i, ← e) (blocks-snoc p (spans_to w i) (span_at w i))

-- ---- where the cells are kept

-- the same where the first n intervals are
pub spans-kept : (w v : List ℕ) (n : ℕ) → ((i : ℕ) → i < n → span_at v i ≡ span_at w i) → spans_to v n ≡ spans_to w n
unfolding spans_to
spans-kept w v zero h = refl
spans-kept w v (suc n) h =
    ap₂ (λ (l : List Span) (x : Span). l ++ (x ∷ [])) (spans-kept w v n (λ i l. h i (omega arith))) (h n (omega arith))

-- all of them, where what is written stands behind them
pub spans-same : (w v : List ℕ) → cell w spans_at ≤ max_entries → ((i : ℕ) → i < low_at → cell v i ≡ cell w i) → spans_in v ≡ spans_in w
spans-same w v few same =
    ap (spans_to v) (same spans_at (omega arith))
    ∙ spans-kept w v (cell w spans_at)
    (λ i a. rw (same (first_at + i) (omega arith), same (behind_at + i) (omega arith), same (block_at + i) (omega arith)) refl)

pub spans-within : {lo hi : ℕ} {w v : List ℕ} → low_at ≤ lo → cell w spans_at ≤ max_entries → Within lo hi w v → spans_in v ≡ spans_in w
spans-within {lo} {hi} {w} {v} l few c = spans-same w v few (λ i a. c.low i (omega arith))

pub piece-kept : {lo hi : ℕ} {w v : List ℕ} → low_at ≤ lo → cell w spans_at ≤ max_entries → Within lo hi w v → (p : ℕ)
    → piece_in v p ≡ piece_in w p
piece-kept l few c p = ap (blocks_at p) (spans-within l few c)

-- ---- the loop

-- of n intervals the first i are passed; the blocks of those that cover p are the first k in the room
pub record Listing (w : List ℕ) (n p : ℕ) (start room : List ℕ) (k i : ℕ) : Type 0 where
  pub within : i ≤ n
  pub most : k ≤ i
  pub few : n ≤ max_entries
  pub same : length room ≡ length start
  pub list : max_entries ≤ length start → take k room ≡ blocks_at p (spans_to w i)

pub listing_start : (w : List ℕ) (n p : ℕ) (room : List ℕ) → n ≤ max_entries → Listing w n p room room 0 0
unfolding spans_to blocks_at
listing_start w n p room few = record { within = omega arith; most = omega arith; few = few; same = refl; list = λ wide. refl }

module _ (w : List ℕ) (n p : ℕ) (start room : List ℕ) (k i : ℕ) (c : Listing w n p start room k i) where
  -- what the code tests is whether interval i covers p
  tested : (t : Bool) (a b : ℕ) → a ≡ cell w (first_at + i) → b ≡ cell w (behind_at + i) → (leb a p && ltb p b) ≡ t
      → covered (span_at w i) p ≡ t
  tested t a b ea eb e = rw (← ea, ← eb) e

  pub listing-yes : (a b x : ℕ) (v : List ℕ) → i < n → a ≡ cell w (first_at + i) → b ≡ cell w (behind_at + i) → x ≡ cell w (block_at + i)
      → v ≡ set room k x → (leb a p && ltb p b) ≡ true → Listing w n p start v (k + 1) (i + 1)
  listing-yes a b x v h ea eb ex ev t = record {
    within = omega arith;
    most = omega (arith, c.most);
    few = c.few;
    same = ap length ev ∙ length-set room k x ∙ c.same;
    list =
        λ wide. rw (ev, blocks_more w p i true (tested true a b ea eb t), ← ex)
        (push room k x (omega (arith, c.most, c.few, c.same)) (c.list wide));
  }

  pub listing-no : (a b : ℕ) → i < n → a ≡ cell w (first_at + i) → b ≡ cell w (behind_at + i) → (leb a p && ltb p b) ≡ false
      → Listing w n p start room k (i + 1)
  listing-no a b h ea eb t = record {
    within = omega arith;
    most = omega (arith, c.most);
    few = c.few;
    same = c.same;
    list =
        λ wide. c.list wide
        ∙ sym (blocks_more w p i false (tested false a b ea eb t) ∙ append-nil (blocks_at p (spans_to w i)));
  }

  pub listing-end : n ≤ i → (m : ℕ) → m ≡ cell w spans_at → n ≡ min m max_entries → (x : ℕ) → x ≡ min k (length room) → cell w spans_at ≤ max_entries
      → max_entries ≤ length start → take x room ≡ piece_in w p
  listing-end h m em en x x-is few wide =
      let e : i ≡ cell w spans_at = omega (arith, c.within) in
      let same : x ≡ k = omega (arith, c.most, c.within, c.few, c.same) in
      rw (same, ← e) (c.list wide)

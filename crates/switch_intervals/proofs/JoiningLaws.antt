-- The loop that joins pieces to bands, in the table: its invariant, `Joins`, with start, the steps of a piece with and without a mark, and
-- end. Shown: the bands are the entries of the split, each has its hash, and only the columns of bands change. Assumed: at most 64
-- intervals, which are those of the ranges, marks where one starts or ends, and a table of full size.
use Prim.Native.Nat.{ℕ, zero, suc, ◌+◌, ◌*◌, ◌-◌, ◌≤◌, ◌<◌}
use mathlib.Core.Path.{◌≡◌, refl, sym, ◌∙◌, ap, ap₂}
use mathlib.Core.Bool.{Bool, true, false, ◌&&◌, ◌||◌, true≢false}
use mathlib.Core.List.{List, [], ◌∷◌, ◌++◌, map, map-append, append-nil, append_assoc}
use native.Mathlib.Omega.{arith}
use native.Mathlib.Decide.{dec_lt}
use native.Mathlib.Numerals.{add-one}
use lib.Dec.{ltb, eqb}
use lib.ListN.{length, get_or, set, length-set}
use lib.Seq.{get_or-set_same, get_or-set_other}
use borrow.Author.Count.{below_more}
use borrow.Author.Tests.{lt-ltb, le-ltb, eqb-false, ne_eqb, lt-leb}
use Rattle.std.specs.Prelude.{Option, None, Some, IfSome}
use Rattle.std.specs.Option.{unwrap_or}
use Rattle.laws.proofs.Bool.{not-or}
use Rattle.text.specs.Same.{same}
use Rattle.text.proofs.SameLaws.{same_refl, same_true, same_false}
use Rattle.sheet.specs.Limits.{max_entries}
use Rattle.switch_split.specs.Range.{Range}
use Rattle.switch_split.specs.Points.{cuts}
use Rattle.switch_split.specs.Split.{Entry, atoms}
use Rattle.switch_split.proofs.SplitLaws.{atoms-count}
use Rattle.switch_split.specs.Piece.{atom_at}
use Rattle.switch_split.proofs.PieceLaws.{pieces-count}
use Rattle.lowering.specs.Limits.{max_bands}
use Rattle.switch_tables.specs.Columns.{size, cell, spans_at, bands_at, band_first_at, band_last_at, band_hash_at, wanted_at, Within}
use Rattle.switch_tables.specs.Hash.{hash_of}
use Rattle.switch_tables.specs.Bands.{Band, entry_of, piece_at, band_at, bands_in, joined}
use Rattle.switch_tables.specs.Spans.{Span, blocks_at, changes_at}
use Rattle.switch_tables.specs.Table.{ranges_read, spans_in, piece_in, Spanned, BandsAre, BandsHashed}
use Rattle.switch_tables.proofs.ColumnLaws.{within_none, within-then, within-put}
use Rattle.switch_tables.proofs.BandsLaws.{band-of, piece-has, join_from, join_behind, joins-all}
use Rattle.switch_tables.proofs.BandsLaws.{join-stays, join-ends, join-none, join_last, join-done, join-skips, join-opens}
use Rattle.switch_tables.proofs.SpansLaws.{kept, piece-list, unchanged}
use Rattle.switch_intervals.specs.Joining.{closed_in, closed_count, GoesOn, Stepped, stayed, ended, opened, goes}
use Rattle.switch_intervals.specs.Marks.{Marked}
use Rattle.switch_lists.proofs.SpanLaws.{piece-kept}

no_length : (xs : List ℕ) → length xs ≡ 0 → xs ≡ []
no_length [] e = refl
no_length (x ∷ xs) e = absurd (omega arith)

-- ---- the parts, by the test

pub closed-made : (w v u : List ℕ) (n band i : ℕ) → band < i → v ≡ set w (band_first_at + n) band → u ≡ set v (band_last_at + n) (i - 1)
    → (n + 1 ≡ closed_count n band i) × (u ≡ closed_in w n band i)
unfolding closed_in closed_count
closed-made w v u n band i h e f = rw (f, e, lt-ltb band i h, closed_in, closed_count) (refl, refl)

pub closed-kept : (w : List ℕ) (n band i : ℕ) → i ≤ band → (n ≡ closed_count n band i) × (w ≡ closed_in w n band i)
unfolding closed_in closed_count
closed-kept w n band i h = rw (le-ltb band i h, closed_in, closed_count) (refl, refl)

module _ (n band i : ℕ) where
  count-cases : {A : Type 0} → (band < i → n + 1 ≡ closed_count n band i → A) → (i ≤ band → n ≡ closed_count n band i → A) → A
  count-cases f g =
      elim (dec_lt band i) [
        | yes h ↦ f h (closed-made [] _ _ n band i h refl refl).0
        | no h ↦ let l : i ≤ band = omega arith in g l (closed-kept [] n band i l).0
      ]

  count_most : closed_count n band i ≤ n + 1
  count_most = count-cases (λ h e. omega arith) (λ h e. omega arith)

  count-before : n ≤ band → band ≤ i → closed_count n band i ≤ i
  count-before a b = count-cases (λ h e. omega arith) (λ h e. omega arith)

-- ---- a band may be open from a piece before i; else piece i stands for it

if-less : (o : Option ℕ) (i m : ℕ) → i ≤ m → IfSome o (λ (b : ℕ). b < i) → IfSome o (λ (b : ℕ). b < m)
if-less None i m l h = tt
if-less (Some b) i m l h = omega arith

-- the hash of the open band is right
abbrev pub OpenHashed : List ℕ → ℕ → Option ℕ → Type 0
OpenHashed w n o = IfSome o (λ (b : ℕ). cell w (band_hash_at + n) ≡ hash_of (piece_in w b))

abbrev pub BandHashed : List ℕ → ℕ → ℕ → ℕ → Type 0
BandHashed w n band i = band < i → cell w (band_hash_at + n) ≡ hash_of (piece_in w band)

hashed-if : (w : List ℕ) (n i : ℕ) (o : Option ℕ) → IfSome o (λ (b : ℕ). b < i) → BandHashed w n (unwrap_or o i) i → OpenHashed w n o
hashed-if w n i None before h = tt
hashed-if w n i (Some b) before h = h before

-- closing it, in the code's two arms
pub closed-some : (w v u : List ℕ) (n i b : ℕ) (o : Option ℕ) → o ≡ Some b → IfSome o (λ (x : ℕ). x < i) → v ≡ set w (band_first_at + n) b
    → u ≡ set v (band_last_at + n) (i - 1)
    → (n + 1 ≡ closed_count n (unwrap_or o i) i) × (u ≡ closed_in w n (unwrap_or o i) i)
closed-some w v u n i b o is before e f = rw is (closed-made w v u n b i (rw is at before) e f)

pub closed-none : (w : List ℕ) (n i : ℕ) (o : Option ℕ) → o ≡ None
    → (n ≡ closed_count n (unwrap_or o i) i) × (w ≡ closed_in w n (unwrap_or o i) i)
closed-none w n i o is = rw is (closed-kept w n i i (omega arith))

-- a hash is a filter
pub goes-same : (w a : List ℕ) (b : ℕ) (o : Option ℕ) → o ≡ Some b → same a (piece_in w b) ≡ goes w o a
unfolding goes
goes-same w a b o is = rw is refl

pub goes-other : (w a : List ℕ) (n b h x : ℕ) (o : Option ℕ) → o ≡ Some b → h ≡ hash_of a → OpenHashed w n o
    → x ≡ cell w (band_hash_at + n) → (x ≡ h → ⊥) → false ≡ goes w o a
goes-other w a n b h x o is e hash x-is ne =
    sym (same_false a (piece_in w b) (λ q. ne (x-is ∙ (rw is at hash) ∙ ap hash_of (sym q) ∙ sym e))) ∙ goes-same w a b o is

pub goes-none : (w a : List ℕ) (o : Option ℕ) → o ≡ None → false ≡ goes w o a
unfolding goes
goes-none w a o is = rw is refl

from-most : (o : Option ℕ) (i : ℕ) → IfSome o (λ (b : ℕ). b < i) → unwrap_or o i ≤ i
from-most None i h = omega arith
from-most (Some b) i h = omega arith

-- ---- piece i, whose list is a, with its hash h; t says whether it is that of the band, where one is open

-- one more band at most
pub closed-most : (k n band i : ℕ) → k ≡ closed_count n band i → k ≤ n + 1
closed-most k n band i e = omega (arith, count_most n band i)

-- what is known of it
pub record Looked (w : List ℕ) (o : Option ℕ) (i : ℕ) (a : List ℕ) (h : ℕ) (t : Bool) : Type 0 where
  pub list : a ≡ piece_in w i
  pub made : h ≡ hash_of a
  pub told : t ≡ goes w o a

abbrev pub Looks : List ℕ → ℕ → Option ℕ → ℕ → List ℕ → ℕ → Bool → Type 0
Looks w n o i a h t = cell w spans_at ≤ max_entries → OpenHashed w n o → Looked w o i a h t

-- what `changed` says, for the table v
abbrev pub Changed : List ℕ → ℕ → Option ℕ → ℕ → List ℕ → ℕ → Option ℕ → Type 0
Changed w n o i v k p =
    cell w spans_at ≤ max_entries → OpenHashed w n o → Stepped w n (unwrap_or o i) i v k (unwrap_or p (i + 1))

-- from what the calls say
pub looks : (w : List ℕ) (n i : ℕ) (o : Option ℕ) (a : List ℕ) (h : ℕ) (t : Bool)
    → length a ≤ max_entries → (cell w spans_at ≤ max_entries → a ≡ piece_in w i)
    → (length a ≤ max_entries → h ≡ hash_of a)
    → (cell w spans_at ≤ max_entries → h ≡ hash_of a → OpenHashed w n o → t ≡ goes w o a)
    → Looks w n o i a h t
looks w n i o a h t small list made told few hash =
    let x = made small in
    record { list = list few; made = x; told = told few x hash }

module _ (w : List ℕ) (n i : ℕ) where
  goes-yes : (o : Option ℕ) (a : List ℕ) → IfSome o (λ (b : ℕ). b < i) → a ≡ piece_in w i → goes w o a ≡ true → GoesOn w (unwrap_or o i) i
  unfolding goes
  goes-yes None a before list e = absurd (true≢false (sym e))
  goes-yes (Some b) a before list e = (before, sym list ∙ same_true a (piece_in w b) e)

  goes-not : (o : Option ℕ) (a : List ℕ) → a ≡ piece_in w i → goes w o a ≡ false → GoesOn w (unwrap_or o i) i → ⊥
  unfolding goes
  goes-not None a list e g = absurd (omega (arith, g.0))
  goes-not (Some b) a list e g =
      true≢false (sym (ap (λ (l : List ℕ). same l (piece_in w b)) (list ∙ g.1) ∙ same_refl (piece_in w b)) ∙ e)

  stays-open : (o : Option ℕ) → GoesOn w (unwrap_or o i) i → unwrap_or o (i + 1) ≡ unwrap_or o i
  stays-open None g = absurd (omega (arith, g.0))
  stays-open (Some b) g = refl

  module _ (o : Option ℕ) (a : List ℕ) (h : ℕ) (t : Bool) (before : IfSome o (λ (b : ℕ). b < i)) (c : Looks w n o i a h t) where
    pub changed-stayed : t ≡ true → Changed w n o i w n o
    changed-stayed e few hash =
        let known = c few hash in
        let g = goes-yes o a before known.list (sym known.told ∙ e) in
        stayed g refl refl (stays-open o g)

    module _ (v : List ℕ) (k : ℕ) (e : t ≡ false) (k-is : k ≡ closed_count n (unwrap_or o i) i) (v-is : v ≡ closed_in w n (unwrap_or o i) i) where
      pub changed-ended : length a ≡ 0 → Changed w n o i v k None
      changed-ended z few hash =
          let known = c few hash in
          ended (goes-not o a known.list (sym known.told ∙ e)) (no_length (piece_in w i) (ap length (sym known.list) ∙ z)) v-is k-is refl

      pub changed-opened : (u : List ℕ) → (length a ≡ 0 → ⊥) → u ≡ set v (band_hash_at + k) h → Changed w n o i u k (Some i)
      changed-opened u ne p few hash =
          let known = c few hash in
          let hashed : h ≡ hash_of (piece_in w i) = known.made ∙ ap hash_of known.list in
          opened (goes-not o a known.list (sym known.told ∙ e)) (λ x. ne (ap length (known.list ∙ x))) (rw (← k-is, ← v-is, ← hashed) p) k-is
          refl

-- ---- the bands of the table

bands-more : (w : List ℕ) (n : ℕ) → bands_in w (n + 1) ≡ bands_in w n ++ (band_at w n ∷ [])
unfolding bands_in
bands-more w n = rw (add-one, bands_in)

pub bands-none : (w : List ℕ) → bands_in w 0 ≡ []
unfolding bands_in
bands-none w = refl

bands-kept : (w v : List ℕ) (n : ℕ) → ((j : ℕ) → j < n → cell v (band_first_at + j) ≡ cell w (band_first_at + j))
    → ((j : ℕ) → j < n → cell v (band_last_at + j) ≡ cell w (band_last_at + j)) → bands_in v n ≡ bands_in w n
unfolding bands_in
bands-kept w v zero f l = refl
bands-kept w v (suc n) f l =
    ap₂ (λ (xs : List Band) (x : Band). xs ++ (x ∷ [])) (bands-kept w v n (λ j h. f j (omega arith)) (λ j h. l j (omega arith)))
    (rw (f n (omega arith), l n (omega arith)) refl)

abbrev entry : List ℕ → ℕ → ℕ → Entry
entry s a b = entry_of (ranges_read s) (cuts (ranges_read s)) (band-of a b)

-- the first n bands of the table v, which was w, lie before piece i and have their hashes; with es behind them they are the split
pub record BandsTo (s w v : List ℕ) (n i : ℕ) (es : List Entry) : Type 0 where
  pub left : map (entry_of (ranges_read s) (cuts (ranges_read s))) (bands_in v n) ++ es ≡ joined (ranges_read s) (cuts (ranges_read s))
  pub hashes : (j : ℕ) → j < n → cell v (band_hash_at + j) ≡ hash_of (piece_in w (cell v (band_first_at + j)))
  pub below : (j : ℕ) → j < n → (cell v (band_first_at + j) < i) × (cell v (band_last_at + j) < i)
  pub kept : Within bands_at wanted_at w v
  pub long : length v ≡ size

module _ {s w v : List ℕ} {n i : ℕ} {es : List Entry} where
  bands-on : {fs : List Entry} {k : ℕ} → BandsTo s w v n i es → i ≤ k → es ≡ fs → BandsTo s w v n k fs
  bands-on c l e = record {
    left = rw (← e) c.left;
    hashes = c.hashes;
    below = λ j o. (omega (arith, (c.below j o).0), omega (arith, (c.below j o).1));
    kept = c.kept;
    long = c.long;
  }

  -- a write that is none of theirs
  bands-write : BandsTo s w v n i es → (at x : ℕ) → bands_at ≤ at → at < wanted_at
      → ((j : ℕ) → j < n → (band_first_at + j ≡ at → ⊥) × ((band_last_at + j ≡ at → ⊥) × (band_hash_at + j ≡ at → ⊥)))
      → BandsTo s w (set v at x) n i es
  bands-write c at x a b free =
      let first : (j : ℕ) → j < n → cell (set v at x) (band_first_at + j) ≡ cell v (band_first_at + j) =
      λ j l. get_or-set_other v at (band_first_at + j) x 0 (free j l).0 in
      let last : (j : ℕ) → j < n → cell (set v at x) (band_last_at + j) ≡ cell v (band_last_at + j) =
      λ j l. get_or-set_other v at (band_last_at + j) x 0 (free j l).1.0 in
      record {
        left = rw (bands-kept v (set v at x) n first last) c.left;
        hashes = λ j l. rw (first j l, get_or-set_other v at (band_hash_at + j) x 0 (free j l).1.1) (c.hashes j l);
        below = λ j l. rw (first j l, last j l) (c.below j l);
        kept = within-then c.kept (within-put bands_at wanted_at v at x a b);
        long = length-set v at x ∙ c.long;
      }

-- band n is one of them
bands-close : {s w v : List ℕ} {n i : ℕ} {es : List Entry} (a b : ℕ) → BandsTo s w v n i (entry s a b ∷ es) → cell v (band_first_at + n) ≡ a
    → cell v (band_last_at + n) ≡ b → cell v (band_hash_at + n) ≡ hash_of (piece_in w a) → a < i → b < i → BandsTo s w v (n + 1) i es
bands-close {s} {w} {v} {n} {i} {es} a b c first last hash la lb =
    let E = entry_of (ranges_read s) (cuts (ranges_read s)) in
    let here : band_at v n ≡ band-of a b = rw (first, last) refl in
    record {
      left =
          ap (λ (xs : List Band). map E xs ++ es) (bands-more v n ∙ ap (λ (x : Band). bands_in v n ++ (x ∷ [])) here)
          ∙ ap (λ (xs : List Entry). xs ++ es) (map-append E (bands_in v n) (band-of a b ∷ []))
          ∙ append_assoc (map E (bands_in v n)) (E (band-of a b) ∷ []) es
          ∙ c.left;
      hashes = below_more _ _ c.hashes (rw first hash);
      below = below_more _ _ c.below (rw (first, last) (la, lb));
      kept = c.kept;
      long = c.long;
    }

-- ---- where nothing starts or ends

-- the first piece has no blocks
first-none : (xs : List Span) → changes_at 0 xs ≡ false → blocks_at 0 xs ≡ []
unfolding changes_at blocks_at
first-none [] h = refl
first-none (x ∷ xs) h =
    let o = not-or (eqb x.first 0 || eqb x.behind 0) (changes_at 0 xs) h in
    let ne = eqb-false x.first 0 (not-or (eqb x.first 0) (eqb x.behind 0) o.0).0 in
    let l : 0 < x.first = omega arith in
    ap (λ (t : Bool). kept x.block (t && ltb 0 x.behind) (blocks_at 0 xs)) (lt-leb x.first 0 l) ∙ first-none xs o.1

-- any other has those of the piece before
unmarked : (xs : List Span) (l : List ℕ) (i : ℕ) → changes_at i xs ≡ false → (i ≡ 0 → [] ≡ l) → ((j : ℕ) → i ≡ j + 1 → blocks_at j xs ≡ l)
    → blocks_at i xs ≡ l
unmarked xs l zero h z f = first-none xs h ∙ z refl
unmarked xs l (suc j) h z f = unchanged j xs h ∙ f j (sym (add-one j))

-- ---- the loop, for every sheet whose ranges the table has: w is the table before, v as it is

pub record Ready (s w marks : List ℕ) (m : ℕ) : Type 0 where
  pub long : length w ≡ size
  pub spanned : Spanned s w
  pub all : m ≡ length marks
  pub marked : Marked marks (spans_in w)
  pub count : m ≡ 2 * length (cuts (ranges_read s)) - 1

pub record Joining (s w v : List ℕ) (n band i : ℕ) : Type 0 where
  pub so_far : BandsTo s w v n i (join_from (ranges_read s) (cuts (ranges_read s)) band i)
  pub order : n ≤ band
  pub open-list : (j : ℕ) → i ≡ j + 1 → band < i → piece_in w j ≡ piece_in w band
  pub none_list : (j : ℕ) → i ≡ j + 1 → i ≤ band → piece_in w j ≡ []
  pub hash : band < i → cell v (band_hash_at + n) ≡ hash_of (piece_in w band)

pub record Joins (w : List ℕ) (m : ℕ) (marks v : List ℕ) (n band i : ℕ) : Type 0 where
  pub few : n ≤ i
  pub start : band ≤ i
  pub within : i ≤ m
  pub most : m ≤ max_bands
  pub joining : (s : List ℕ) → Ready s w marks m → Joining s w v n band i

pub joins-start : (w : List ℕ) (m : ℕ) (marks : List ℕ) → m ≤ max_bands → Joins w m marks w 0 0 0
joins-start w m marks l = record {
  few = omega arith;
  start = omega arith;
  within = omega arith;
  most = l;
  joining =
      λ s r. record {
        so_far = record {
          left = rw (bands-none w) (joins-all (ranges_read s) (cuts (ranges_read s)));
          hashes = λ j h. absurd (omega arith);
          below = λ j h. absurd (omega arith);
          kept = within_none bands_at wanted_at w;
          long = r.long;
        };
        order = omega arith;
        open-list = λ j e h. absurd (omega arith);
        none_list = λ j e h. absurd (omega arith);
        hash = λ h. absurd (omega arith);
      };
}

module _ (w : List ℕ) (m : ℕ) (marks v : List ℕ) (n band i : ℕ) (d : Joins w m marks v n band i) where
  module _ (s : List ℕ) (ready : Ready s w marks m) where
    abbrev rs : List Range
    rs = ranges_read s

    abbrev cs : List ℕ
    cs = cuts rs

    c : Joining s w v n band i
    c = d.joining s ready

    pieces : m ≡ length (atoms cs)
    pieces = omega (arith, atoms-count cs, ready.count)

    list_at : (j : ℕ) → j < m → piece_in w j ≡ (piece_at rs cs j).blocks
    list_at j h =
        ap (blocks_at j) ready.spanned.spans
        ∙ sym (piece-list rs j (omega (arith, pieces-count rs, ready.count)))
        ∙ sym (piece-has rs (atom_at cs j))

    here : (p : ℕ) → piece_in v p ≡ piece_in w p
    here p = piece-kept (omega arith) ready.spanned.few c.so_far.kept p

    -- a band that is open is closed
    shut : {es : List Entry} → (band < i → join_from rs cs band i ≡ entry s band (i - 1) ∷ es) → (i ≤ band → join_from rs cs band i ≡ es)
        → BandsTo s w (closed_in v n band i) (closed_count n band i) i es
    shut ends none =
        elim (dec_lt band i) [
          | yes h ↦
              let one = set v (band_first_at + n) band in
              let two = set one (band_last_at + n) (i - 1) in
              let q = closed-made v one two n band i h refl refl in
              let room : n < max_bands = omega (arith, c.order, d.within, d.most) in
              let put =
              bands-write (bands-on {k = i} c.so_far (omega arith) (ends h)) (band_first_at + n) band (omega arith) (omega arith)
              (λ j l. ((λ e. omega arith), ((λ e. omega arith), (λ e. omega arith)))) in
              let both =
              bands-write put (band_last_at + n) (i - 1) (omega arith) (omega arith)
              (λ j l. ((λ e. omega arith), ((λ e. omega arith), (λ e. omega arith)))) in
              rw (← q.0, ← q.1)
              (bands-close band (i - 1) both
              (get_or-set_other one (band_last_at + n) (band_first_at + n) (i - 1) 0 (λ e. omega arith)
              ∙ get_or-set_same v (band_first_at + n) band 0 (omega (arith, c.so_far.long)))
              (get_or-set_same one (band_last_at + n) (i - 1) 0 (omega (arith, put.long)))
              (get_or-set_other one (band_last_at + n) (band_hash_at + n) (i - 1) 0 (λ e. omega arith)
              ∙ get_or-set_other v (band_first_at + n) (band_hash_at + n) band 0 (λ e. omega arith)
              ∙ c.hash h)
              h (omega arith))
          | no h ↦
              let l : i ≤ band = omega arith in
              let q = closed-kept v n band i l in
              rw (← q.0, ← q.1) (bands-on c.so_far (omega arith) (none l))
        ]

    -- ---- piece i belongs to the band

    stay : i < m → GoesOn w band i → Joining s w v n band (i + 1)
    stay l g = record {
      so_far =
          bands-on c.so_far (omega arith)
          (join-stays rs cs band i g.0 (omega (arith, pieces)) (sym (list_at i l) ∙ g.1 ∙ list_at band (omega (arith, g.0))));
      order = c.order;
      open-list = λ j e o. let q : j ≡ i = omega arith in ap (piece_in w) q ∙ g.1;
      none_list = λ j e o. absurd (omega (arith, g.0));
      hash = λ o. c.hash g.0;
    }

    -- ---- it does not

    over : {u : List ℕ} {k next : ℕ} → BandsTo s w u k i (join_behind rs cs i) → k ≤ next → join_behind rs cs i ≡ join_from rs cs next (i + 1)
        → (next < i + 1 → (piece_in w i ≡ piece_in w next) × (cell u (band_hash_at + k) ≡ hash_of (piece_in w next)))
        → (i + 1 ≤ next → piece_in w i ≡ []) → Joining s w u k next (i + 1)
    over h l e has none = record {
      so_far = bands-on h (omega arith) e;
      order = l;
      open-list = λ j e o. let p : j ≡ i = omega arith in ap (piece_in w) p ∙ (has o).0;
      none_list = λ j e o. let p : j ≡ i = omega arith in ap (piece_in w) p ∙ none o;
      hash = λ o. (has o).1;
    }

    shut-here : i < m → (GoesOn v band i → ⊥) → BandsTo s w (closed_in v n band i) (closed_count n band i) i (join_behind rs cs i)
    shut-here l ne =
        shut
        (λ h. join-ends rs cs band i h (omega (arith, pieces))
        (λ e. ne (h, here i ∙ list_at i l ∙ e ∙ sym (list_at band (omega arith)) ∙ sym (here band))))
        (λ h. join-none rs cs band i h (omega (arith, pieces)))

    skips : {u : List ℕ} {k : ℕ} → i < m → BandsTo s w u k i (join_behind rs cs i) → k ≤ i → piece_in w i ≡ []
        → Joining s w u k (i + 1) (i + 1)
    skips l h b e = over h (omega arith) (join-skips rs cs i (sym (list_at i l) ∙ e)) (λ o. absurd (omega arith)) (λ o. e)

    opens : i < m → (GoesOn v band i → ⊥) → (piece_in w i ≡ [] → ⊥)
        → Joining s w (set (closed_in v n band i) (band_hash_at + closed_count n band i) (hash_of (piece_in w i))) (closed_count n band i) i
        (i + 1)
    opens l ne some =
        let k = closed_count n band i in
        let h = shut-here l ne in
        let b : k ≤ i = count-before n band i c.order d.start in
        let put =
        bands-write h (band_hash_at + k) (hash_of (piece_in w i)) (omega arith) (omega (arith, d.most))
        (λ j o. ((λ e. omega (arith, d.most)), ((λ e. omega (arith, d.most)), (λ e. omega arith)))) in
        over put b (join-opens rs cs i (λ e. some (list_at i l ∙ e)))
        (λ o. (refl, get_or-set_same (closed_in v n band i) (band_hash_at + k) (hash_of (piece_in w i)) 0 (omega (arith, h.long, d.most))))
        (λ o. absurd (omega arith))

    step : (u : List ℕ) (k next : ℕ) → i < m → Stepped v n band i u k next → Joining s w u k next (i + 1)
    step u k next l (stayed g e f q) = rw (e, f, q) (stay l (g.0, sym (here i) ∙ g.1 ∙ here band))
    step u k next l (ended ne x e f q) =
        rw (e, f, q) (skips l (shut-here l ne) (count-before n band i c.order d.start) (sym (here i) ∙ x))
    step u k next l (opened ne x e f q) = rw (e, f, q, here i) (opens l ne (λ o. x (here i ∙ o)))

    still : (next : ℕ) → i < m → changes_at i (spans_in w) ≡ false → (band < i → next ≡ band) → (i ≤ band → next ≡ i + 1)
        → Joining s w v n next (i + 1)
    still next l h p q =
        elim (dec_lt band i) [
          | yes o ↦
              let g : GoesOn w band i =
              (o, unmarked (spans_in w) (piece_in w band) i h (λ z. absurd (omega arith)) (λ j e. c.open-list j e o)) in
              rw (p o) (stay l g)
          | no o ↦
              let b : i ≤ band = omega arith in
              let x : piece_in w i ≡ [] = unmarked (spans_in w) [] i h (λ z. refl) (λ j e. c.none_list j e b) in
              rw (q b)
              (skips l (bands-on c.so_far (omega arith) (join-none rs cs band i b (omega (arith, pieces))))
              (omega (arith, c.order, d.start)) x)
        ]

  joins-step : (u : List ℕ) (k next : ℕ) → i < m → k ≤ n + 1 → next ≤ i + 1
      → (cell v spans_at ≤ max_entries → BandHashed v n band i → Stepped v n band i u k next) → Joins w m marks u k next (i + 1)
  joins-step u k next l k-most next-most h = record {
    few = omega (arith, d.few);
    start = next-most;
    within = omega arith;
    most = d.most;
    joining = λ s r.
        let e = d.joining s r in
        let few : cell v spans_at ≤ max_entries = omega (arith, e.so_far.kept.low spans_at (omega arith), r.spanned.few) in
        step s r u k next l (h few (λ o. e.hash o ∙ ap hash_of (sym (here s r band))));
  }

  joins-still : (next x : ℕ) → i < m → x ≡ get_or marks i 0 → (x ≡ 1 → ⊥) → (band < i → next ≡ band) → (i ≤ band → next ≡ i + 1)
      → Joins w m marks v n next (i + 1)
  joins-still next x l e ne p q = record {
    few = omega (arith, d.few);
    start = elim (dec_lt band i) [ yes o ↦ omega (arith, p o) | no o ↦ omega (arith, q (omega arith)) ];
    within = omega arith;
    most = d.most;
    joining = λ s r.
        still s r next l (sym (r.marked.marks i (omega (arith, r.all))) ∙ ne_eqb (get_or marks i 0) 1 (λ o. ne (e ∙ o))) p q;
  }

  joins-end : (u t : List ℕ) (k : ℕ) → m ≤ i → k ≡ closed_count n band m → u ≡ closed_in v n band m → t ≡ set u bands_at k
      → length w ≡ size → m ≡ length marks → (s : List ℕ) → Spanned s w → Marked marks (spans_in w) → m ≡ 2 * length (cuts (ranges_read s)) - 1
      → BandsAre s t × (BandsHashed t × Within bands_at wanted_at w t)
  joins-end u t k l k-is u-is e long all s spanned marked count =
      let r : Ready s w marks m = record { long = long; all = all; spanned = spanned; marked = marked; count = count } in
      let is : i ≡ m = omega (arith, d.within) in
      let all : m ≡ length (atoms (cuts (ranges_read s))) = pieces s r in
      let closed : BandsTo s w u k m [] =
      rw (k-is, u-is, ← is)
      (shut s r (λ o. join_last (ranges_read s) (cuts (ranges_read s)) band i o (omega arith))
      (λ o. join-done (ranges_read s) (cuts (ranges_read s)) band i o (omega arith))) in
      let few : k ≤ max_bands = omega (arith, k-is, count-before n band m (c s r).order (omega (arith, d.start)), d.most) in
      let z : cell t bands_at ≡ k = ap (λ (x : List ℕ). cell x bands_at) e ∙ get_or-set_same u bands_at k 0 (omega (arith, closed.long)) in
      let a : BandsTo s w t (cell t bands_at) m [] =
      rw (z, e)
      (bands-write closed bands_at k (omega arith) (omega arith)
      (λ j o. ((λ p. omega arith), ((λ p. omega arith), (λ p. omega arith))))) in
      let bands : BandsAre s t =
      record {
        few = rw z few;
        bands = sym (append-nil _) ∙ a.left;
        firsts = λ j o. rw all at (a.below j o).0;
        lasts = λ j o. rw all at (a.below j o).1;
      } in
      let same = piece-kept (omega arith) spanned.few a.kept in
      (bands, (record { hash_at = λ j o. a.hashes j o ∙ ap hash_of (sym (same (cell t (band_first_at + j)))) }, a.kept))

-- ---- the same for a band that may be open

pub record OpenJoins (w : List ℕ) (m : ℕ) (marks v : List ℕ) (n : ℕ) (o : Option ℕ) (i : ℕ) : Type 0 where
  pub before : IfSome o (λ (b : ℕ). b < i)
  pub joins : Joins w m marks v n (unwrap_or o i) i

pub open-start : (w : List ℕ) (m : ℕ) (marks : List ℕ) → m ≤ max_bands → OpenJoins w m marks w 0 None 0
open-start w m marks l = record { before = tt; joins = joins-start w m marks l }

module _ (w : List ℕ) (m : ℕ) (marks v : List ℕ) (n : ℕ) (o : Option ℕ) (i : ℕ) (d : OpenJoins w m marks v n o i) where
  pub open-step : (u : List ℕ) (k : ℕ) (p : Option ℕ) → i < m → k ≤ n + 1 → IfSome p (λ (b : ℕ). b < i + 1) → Changed v n o i u k p
      → OpenJoins w m marks u k p (i + 1)
  open-step u k p l most after h = record {
    before = after;
    joins =
        joins-step w m marks v n (unwrap_or o i) i d.joins u k (unwrap_or p (i + 1)) l most (from-most p (i + 1) after)
        (λ few hash. h few (hashed-if v n i o d.before hash));
  }

  still-open : (o : Option ℕ) → IfSome o (λ (b : ℕ). b < i) → (unwrap_or o i < i → unwrap_or o (i + 1) ≡ unwrap_or o i)
      × (i ≤ unwrap_or o i → unwrap_or o (i + 1) ≡ i + 1)
  still-open None h = ((λ l. absurd (omega arith)), (λ l. refl))
  still-open (Some b) h = ((λ l. refl), (λ l. absurd (omega arith)))

  pub open-still : (x : ℕ) → i < m → x ≡ get_or marks i 0 → (x ≡ 1 → ⊥) → OpenJoins w m marks v n o (i + 1)
  open-still x l e ne =
      let same = still-open o d.before in
      record {
        before = if-less o i (i + 1) (omega arith) d.before;
        joins = joins-still w m marks v n (unwrap_or o i) i d.joins (unwrap_or o (i + 1)) x l e ne same.0 same.1;
      }

  pub open-before : m ≤ i → IfSome o (λ (b : ℕ). b < m)
  open-before l = let e : i ≡ m = omega (arith, d.joins.within) in rw e at d.before

  pub open-end : (u t : List ℕ) (k : ℕ) → m ≤ i → k ≡ closed_count n (unwrap_or o m) m → u ≡ closed_in v n (unwrap_or o m) m
      → t ≡ set u bands_at k → length w ≡ size → m ≡ length marks → (s : List ℕ) → Spanned s w → Marked marks (spans_in w)
      → m ≡ 2 * length (cuts (ranges_read s)) - 1
      → BandsAre s t × (BandsHashed t × Within bands_at wanted_at w t)
  open-end u t k l k-is u-is e =
      let is : i ≡ m = omega (arith, d.joins.within) in
      joins-end w m marks v n (unwrap_or o m) m (rw is at d.joins) u t k (omega arith) k-is u-is e

-- Where heads and memos have been cleared no index has an entry, whatever the words were (`indexes-start`).
use Rattle.std.proofs.Common.{◌≡◌, ℕ, ◌+◌, ◌-◌, ◌*◌, ◌%◌, ◌<◌, ◌≤◌, Bool, List, length, get_or, sym, ap, ◌∙◌, subst, ap₂, arith}
use Rattle.sheet.specs.Sections.{node_count}
use Rattle.expr_chains.specs.Same.{same_nodes}
use Rattle.scratch.specs.declared.Layout.{Layout}
use Rattle.scratch.specs.declared.Index.{Index}
use Rattle.scratch.specs.Clear.{cleared}
use Rattle.scratch.specs.Places.{Small, memo_pairs, memo_words, memos_at, memos_from, sums_from, heads_at, index_end, name_heads}
use Rattle.scratch.specs.Places.{const_heads}
use Rattle.scratch.specs.Places.{token_heads, cleared_index}
use Rattle.scratch.proofs.ClearLaws.{cleared-length, cleared-other, cleared-zero}
use Rattle.scratch.proofs.PlaceLaws.{memos-lie, sums-lie, index-fits}
use Rattle.scratch_folds.specs.Sums.{Sums}
use Rattle.scratch_folds.proofs.SumsLaws.{sums_same}
use Rattle.scratch_index.specs.Pool.{Pool}
use Rattle.scratch_index.specs.Consts.{same_const_of, const_hash, same_token_of, token_hash}
use Rattle.scratch_index.specs.Names.{same_name_of, name_hash}
use Rattle.scratch_index.specs.Held.{names_held}
use Rattle.scratch_index.specs.Chains.{chain_hash}
use Rattle.scratch_index.specs.Locals.{Slots}
use Rattle.scratch_index.specs.Indexes.{Indexes}
use Rattle.scratch_index.proofs.PoolLaws.{pool-none}
use Rattle.scratch_index.proofs.MemoLaws.{told_none}
use Rattle.scratch_index.proofs.LodgeLaws.{Lodged, lodged-room, const-lodged, token-lodged, chain-lodged, name-lodged}

module _
    (s : List ℕ) (l : Layout) (small : Small l) (nodes : l.nodes ≡ node_count s) (xs : List ℕ) (room : index_end l ≤ length xs)
  where
    abbrev memoed : List ℕ
    memoed = cleared (memos_at l) memo_words xs

    abbrev heads : ℕ
    heads = name_heads l + const_heads l + 2 * token_heads l

    abbrev ys : List ℕ
    ys = cleared (heads_at l) heads memoed

    -- no place is cut off
    words : cleared_index l xs ≡ ys
    unfolding cleared_index
    words =
        let e = index-fits l in
        let a : heads_at l % 4294967296 ≡ heads_at l = omega arith in
        let b : heads % 4294967296 ≡ heads = omega arith in
        ap₂ (λ (at n : ℕ). cleared at n (cleared (memos_from l) memo_words xs)) a b
        ∙ ap (λ (ms : ℕ). cleared (heads_at l) heads (cleared ms memo_words xs)) (memos-lie small)

    long : length ys ≡ length xs
    long = cleared-length (heads_at l) heads memoed ∙ cleared-length (memos_at l) memo_words xs

    -- the heads of an index are 0
    head-zero :
        {Used : ℕ → Type 0} {slot : ℕ → ℕ} {ix : Index} {cap : ℕ} → Lodged l Used slot ix cap → (b : ℕ) → b < ix.count
        → get_or ys (ix.heads + b) 0 ≡ 0
    head-zero {ix = ix} d b h =
        let m = cleared-length (memos_at l) memo_words xs in
        let z : ix.heads + b ≡ heads_at l + (ix.heads + b - heads_at l) = omega arith in
        ap (λ (i : ℕ). get_or ys i 0) z
        ∙ cleared-zero (heads_at l) heads memoed (omega arith) (ix.heads + b - heads_at l) (omega arith)

    memo-zero : (i : ℕ) → i < memo_pairs → get_or ys (memos_at l + 2 * i) 0 ≡ 0
    memo-zero i h =
        cleared-other (heads_at l) heads memoed (memos_at l + 2 * i) (λ k m q. omega arith)
        ∙ cleared-zero (memos_at l) memo_words xs (omega arith) (2 * i) (omega arith)

    empty :
        (same : ℕ → ℕ → Bool) (hash : ℕ → ℕ) {Used : ℕ → Type 0} {slot : ℕ → ℕ} {ix : Index} {cap : ℕ} → Lodged l Used slot ix cap
        → Pool same hash Used slot ix cap 0 ys
    empty same hash {Used} {slot} {ix} {cap} d =
        let n = long in
        pool-none same hash Used slot ix cap ys (lodged-room d (length ys) (omega arith)) (head-zero d)

    -- the words before the memos stay
    pub start-before : (i : ℕ) → i < memos_at l → get_or (cleared_index l xs) i 0 ≡ get_or xs i 0
    start-before i h =
        ap (λ (ws : List ℕ). get_or ws i 0) words
        ∙ cleared-other (heads_at l) heads memoed i (λ k m q. omega arith)
        ∙ cleared-other (memos_at l) memo_words xs i (λ k m q. omega arith)

    -- and so do the kept folds
    pub start-sums : Sums s (sums_from l) xs → Sums s (sums_from l) (cleared_index l xs)
    start-sums told =
        let p = sums-lie small in
        sums_same s (sums_from l) xs (cleared_index l xs)
        (λ k b.
        ap (λ (ws : List ℕ). get_or ws (sums_from l + k) 0) words
        ∙ cleared-other (heads_at l) heads memoed (sums_from l + k) (λ i m q. omega arith)
        ∙ cleared-other (memos_at l) memo_words xs (sums_from l + k) (λ i m q. omega arith))
        told

    pub start-length : length (cleared_index l xs) ≡ length xs
    start-length = ap length words ∙ long

    -- an index of any kind has no entry
    pub start-empty :
        (same : ℕ → ℕ → Bool) (hash : ℕ → ℕ) {Used : ℕ → Type 0} {slot : ℕ → ℕ} {ix : Index} {cap : ℕ} → Lodged l Used slot ix cap
        → Pool same hash Used slot ix cap 0 (cleared_index l xs)
    start-empty same hash {Used} {slot} {ix} {cap} d = subst (Pool same hash Used slot ix cap 0) (sym words) (empty same hash d)

    pub indexes-start : Slots s l (cleared_index l xs) → Sums s (sums_from l) xs → Indexes s l 0 0 0 0 (cleared_index l xs)
    indexes-start told kept =
        subst (Indexes s l 0 0 0 0) (sym words)
        (record {
          small = small;
          nodes = nodes;
          consts = empty (same_const_of s) (const_hash s) (const-lodged small nodes);
          tokens = empty (same_token_of s) (token_hash s) (token-lodged small nodes);
          chains = empty (same_nodes s) (chain_hash s (names_held s l 0 ys)) (chain-lodged small nodes);
          names = empty (same_name_of s) (name_hash s) (name-lodged small nodes);
          memos = told_none memo-zero;
          slots = subst (Slots s l) words told;
          sums = subst (Sums s (sums_from l)) words (start-sums kept);
        })

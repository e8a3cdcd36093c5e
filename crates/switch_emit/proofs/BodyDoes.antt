-- The bodies, step by step; Unit for a missing default; the end.
use Rattle.std.proofs.Common.{◌≡◌, ℕ, ◌+◌, ◌-◌, ◌<◌, ◌≤◌, Bool, true, false, ◌&&◌, leb, List, refl, sym, ap, ◌∙◌, arith}
use borrow.Table.Steps.{cases}
use mathlib.Core.Bool.{true≢false}
use Rattle.std.specs.Prelude.{Option, None, Some}
use Rattle.std.specs.Option.{is_some}
use Rattle.switch_tables.specs.Kinds.{coded}
use Rattle.scratch_store.proofs.GrowingLaws.{growing-emit, growing-depth}
use Rattle.sheet.specs.Node.{next}
use Rattle.sheet.specs.Limits.{max_depth}
use Rattle.bytecode.specs.declared.Op.TheVariants.{Unit, Rotate, Pop}
use Rattle.lowering.specs.Code.{no_pos}
use Rattle.lowering.specs.Nodes.{Right, Valid}
use Rattle.lowering.proofs.NodesLaws.{body-valid}
use Rattle.lowering.specs.SwitchSheet.{block_count, body_of}
use Rattle.expr_model.specs.Made.{Made, emit, lowered}
use Rattle.expr_model.proofs.Rising.{lowered-rises}
use Rattle.scratch.specs.declared.Layout.{Layout}
use Rattle.scratch_store.specs.declared.State.{State}
use Rattle.scratch_store.specs.States as states
use Rattle.scratch_store.specs.Does.{Growing, Does}
use Rattle.scratch_store.proofs.DoesLaws.{growing-seq, does-none, does-seq}
use Rattle.switch_model.specs.Change.{jump_to, body_to, bodies_to, missing_to, close_to}
use Rattle.switch_model.specs.Last.{last_of}
use Rattle.switch_model.proofs.LastLaws.{bodies-next, bodies-skip, bodies-done, bodies-start, missing-none, missing-some, close-steps}
use Rattle.switch_model.proofs.GrowLaws.{jump-rises, body-lengthens, bodies-lengthen}
use Rattle.expr_emit.proofs.Doing.{does_at}
use Rattle.expr_emit.proofs.CycleDoes.{low-grows}
use Rattle.switch_emit.specs.Ready.{Ready}
use Rattle.switch_tables.specs.Columns.{cell, guard_node_at, end_at}
use Rattle.switch_tables.specs.Table.{Guards}
use Rattle.switch_tables.specs.Planned.{want_in}
use Rattle.switch_tables.proofs.NodesLaws.{body-at}
use Rattle.switch_emit.specs.Parts.{body_if}
use Rattle.switch_emit.specs.From.{From}
use Rattle.switch_emit.proofs.FromLaws.{LeftFrom, from_start, from-by, from_end}
use Rattle.switch_emit.proofs.FromLaws.{from-seq, from-same, does-from, depth-from}

jump-growing : (drop : Bool) (to : ℕ) → Growing (jump_to drop to)
jump-growing drop to = record { each = λ a. (jump-rises drop to a).emitted }

-- the body of block k by the table w, if it is wanted; those of n blocks from k on
abbrev body_by : List ℕ → List ℕ → Bool → ℕ → Made → Made
body_by s w drop k = body_if (want_in w) s (lowered max_depth s) (cell w end_at) drop k

abbrev bodies_by : List ℕ → List ℕ → Bool → ℕ → ℕ → Made → Made
bodies_by s w falls n k = bodies_to s (lowered max_depth s) (want_in w) (cell w end_at) falls n k

-- ---- one body

module _ (s w : List ℕ) (drop : Bool) (k : ℕ) where
  body-yes : (a : Made) → want_in w k ≡ true → body_by s w drop k a ≡ body_to s (lowered max_depth s) (cell w end_at) drop k a
  unfolding body_if
  body-yes a h = rw (h, body_if)

  body-no : (a : Made) → want_in w k ≡ false → body_by s w drop k a ≡ a
  unfolding body_if
  body-no a h = rw (h, body_if)

  body-grows : Growing (body_by s w drop k)
  body-grows = record {
    each = λ a.
        cases (want_in w k)
        (λ h. rw (body-yes a h) (body-lengthens s (lowered max_depth s) (lowered-rises max_depth s) (cell w end_at) drop k a).emitted)
        (λ h. rw (body-no a h) (omega arith));
  }

  body-goes : (falls : Bool) (n : ℕ) (a : Made) → k < n → (want_in w k ≡ true → drop ≡ (falls && leb (last_of (want_in w) n) (k + 1)))
      → bodies_by s w falls (n - k) k a ≡ bodies_by s w falls (n - (k + 1)) (k + 1) (body_by s w drop k a)
  body-goes falls n a lt e =
      cases (want_in w k)
      (λ h. bodies-next s (lowered max_depth s) (want_in w) (cell w end_at) falls n k a lt h ∙ rw (body-yes a h, e h))
      (λ h. bodies-skip s (lowered max_depth s) (want_in w) (cell w end_at) falls n k a lt h ∙ rw (body-no a h))

module _ {s : List ℕ} {l : Layout} (w : List ℕ) (drop : Bool) (k : ℕ) where
  pub body-lowers : {xs ys zs : List ℕ} {p q r : State} (c : State) (g j e : ℕ) → want_in w k ≡ true
      → g ≡ cell w (guard_node_at + k) → j ≡ next s g → e ≡ cell w end_at → Ready s → Guards s w (block_count s) → k < block_count s
      → p ≡ states.at_depth c 1
      → (Right s → Valid s j → Does s l xs p ys q (lowered max_depth s j)) → Does s l ys q zs r (jump_to drop e)
      → From s l xs c zs r (body_by s w drop k)
  unfolding body_to
  body-lowers {xs} {p = p} c g j e on g-is j-is e-is C G lt p-is d f =
      let up = jump-growing drop (cell w end_at) in
      let here : j ≡ body_of s k = j-is ∙ ap (next s) (g-is ∙ G.node k lt) ∙ body-at s k in
      from-same (body_by s w drop k) (λ a. sym (body-yes s w drop k a on))
      (from-seq (growing-depth 1) (growing-seq (low-grows max_depth s (body_of s k)) up) (depth-from xs c p 1 (omega arith) p-is)
      (does-from (does-seq up
      (does_at (lowered max_depth s) here (d C.right (rw here (body-valid s C.right C.switch k lt))))
      (does_at (jump_to drop) e-is f))))

  pub body-passes : {xs : List ℕ} {st : State} → want_in w k ≡ false → From s l xs st xs st (body_by s w drop k)
  body-passes {xs} {st} h =
      from-same (body_by s w drop k) (λ a. sym (body-no s w drop k a h))
      (does-from (does-none xs st))

-- ---- the loop

-- what is left of the bodies with k blocks passed
pub record BodiesLeft (s : List ℕ) (l : Layout) (ws : List ℕ) (st : State) (t : List ℕ) (falls : Bool) (n : ℕ)
    (xs : List ℕ) (q : State) (k : ℕ) : Type 0 where
  pub rest : LeftFrom s l ws st (bodies_by s t falls n 0) xs q (bodies_by s t falls (n - k) k)

pub bodies-begin : {s : List ℕ} {l : Layout} {ws : List ℕ} {st : State} (t : List ℕ) (falls : Bool) (n : ℕ)
    → BodiesLeft s l ws st t falls n ws st 0
bodies-begin {s} {l} {ws} {st} t falls n = record {
  rest = from_start ws st (bodies_by s t falls n 0) (bodies_by s t falls (n - 0) 0)
      (λ a. bodies-start s (lowered max_depth s) (want_in t) (cell t end_at) falls n a);
}

module _ {s : List ℕ} {l : Layout} {ws xs : List ℕ} {st q : State} {t : List ℕ} {falls : Bool} {n k : ℕ}
    (L : BodiesLeft s l ws st t falls n xs q k) where
  pub bodies-on : {ys : List ℕ} {r : State} (b : Bool) → (want_in t k ≡ true → b ≡ (falls && leb (last_of (want_in t) n) (k + 1)))
      → k < n → From s l xs q ys r (body_by s t b k) → BodiesLeft s l ws st t falls n ys r (k + 1)
  bodies-on b e lt d =
      let up =
      bodies-lengthen s (lowered max_depth s) (lowered-rises max_depth s) (cell t end_at) (want_in t) falls (n - (k + 1)) (k + 1) in
      record {
        rest =
            from-by (bodies_by s t falls (n - (k + 1)) (k + 1)) L.rest d
            (λ a. body-goes s t b k falls n a lt e) (body-grows s t b k)
            (record { each = λ a. (up a).emitted });
      }

  -- m blocks are all
  pub bodies-end : (m : ℕ) → n ≤ k → n ≡ m → From s l ws st xs q (bodies_by s t falls m 0)
  bodies-end m h e = rw e at (from_end (λ a. bodies-done s (lowered max_depth s) (want_in t) (cell t end_at) falls n k a h) L.rest)

-- ---- the end

module _ {s : List ℕ} {l : Layout} where
  pub missing-does : {xs ys : List ℕ} {p r : State} (c : State) (def : Option ℕ) → is_some def ≡ false → p ≡ states.at_depth c 1
      → Does s l xs p ys r (emit Unit no_pos 0) → From s l xs c ys r (missing_to (coded def))
  missing-does {xs} {ys} {p} c (Some k) h p-is d = absurd (true≢false h)
  missing-does {xs} {ys} {p} c None h p-is d =
      from-same (missing_to 0) (λ a. sym (missing-none 0 a refl))
      (from-seq (growing-depth 1) (growing-emit Unit no_pos 0) (depth-from xs c p 1 (omega arith) p-is) (does-from d))

  pub missing-not : {xs : List ℕ} {st : State} (def : Option ℕ) → is_some def ≡ true → From s l xs st xs st (missing_to (coded def))
  missing-not {xs} {st} None h = absurd (true≢false (sym h))
  missing-not {xs} {st} (Some k) h =
      from-same (missing_to (coded (Some k))) (λ a. sym (missing-some (coded (Some k)) a (omega arith))) (does-from (does-none xs st))

  pub close-does : {xs ys zs : List ℕ} {p q r : State} (c : State) → p ≡ states.at_depth c 2
      → Does s l xs p ys q (emit (Rotate 1) no_pos 0) → Does s l ys q zs r (emit Pop no_pos 0) → From s l xs c zs r close_to
  close-does {xs} {ys} {zs} {p} c p-is d e =
      from-same close_to (λ a. sym (close-steps a))
      (from-seq (growing-depth 2) (growing-seq (growing-emit (Rotate 1) no_pos 0) (growing-emit Pop no_pos 0)) (depth-from xs c p 2
      (omega arith) p-is)
      (does-from (does-seq (growing-emit Pop no_pos 0) d e)))

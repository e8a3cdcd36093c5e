-- The members of the cycle whose targets, entries or code depend on what stood before: And, Or, Coalesce, FnCall,
-- chains; and a node by its rule.
use Rattle.std.proofs.Common.{◌≡◌, ℕ, ◌-◌, ◌<◌, ◌≤◌, Bool, true, false, List, sym, ap, ◌∙◌, subst, arith}
use Rattle.std.specs.Int.{from_bool}
use Rattle.sheet.proofs.WalkLaws.{skip-none}
use Rattle.sheet.specs.Limits.{max_depth}
use Rattle.sheet.specs.Node.{kind, count, child}
use Rattle.sheet.specs.Walk.{skip}
use Rattle.lowering.specs.Flatten.{links, flattens}
use Rattle.lowering.specs.Nodes.{Right, Valid, Row}
use Rattle.lowering.proofs.NodesLaws.{children, child-valid, row-less}
use Rattle.scratch_keys.specs.Used.{ChainKey}
use Rattle.expr_emit.specs.Linked.{Linked}
use Rattle.expr_chains.specs.Pooled.{Pooled}
use Rattle.expr_chains.specs.Lowers.{lowers}
use Rattle.expr_count.specs.declared.operands.Operands.{Operands}
use Rattle.expr_count.specs.Operands.{all}
use Rattle.expr_count.specs.Link.{temporary}
use Rattle.expr_model.specs.Made.{Made, residual, take_back, lowered}
use Rattle.expr_model.specs.Construct.{Low, short_circuit, coalesce, fn_call, operands, chain, close_chain, root_name, root_value, steps}
use Rattle.expr_model.proofs.WayLaws.{chain-stays, chain-fails, chain-lowers}
use Rattle.expr_model.proofs.LoweredLaws.{chain-behind, closed-pooled}
use Rattle.expr_model.proofs.Rising.{lowered-rises}
use Rattle.expr_model.proofs.Growing.{steps-grow, close-grows, residual-grows, root-name-grows}
use Rattle.scratch.specs.declared.Layout.{Layout}
use Rattle.scratch_store.specs.declared.State.{State}
use Rattle.scratch_store.specs.Holds.{Holds}
use Rattle.scratch_store.proofs.HoldsLaws.{depth_is, depth_low}
use Rattle.scratch_store.specs.States as states
use Rattle.scratch_store.proofs.ResidualLaws.{back-holds}
use Rattle.scratch_store.specs.Does.{Fits, Growing, Does}
use Rattle.scratch_store.proofs.DoesLaws.{does-seq, does-same}
use Rattle.expr_emit.specs.declared.after.After.TheVariants.{Nothing, Decide, Unless}
use Rattle.expr_emit.specs.declared.calls.Way.{Way}
use Rattle.expr_emit.specs.declared.calls.Opened.{Opened}
use Rattle.expr_emit.specs.Ways.{way_of, arg_count, first_arg, arguments, opened, opened_at, closed}
use Rattle.expr_emit.specs.Decision.{decision}
use Rattle.expr_emit.proofs.EndDoes.{decision-grows}
use Rattle.expr_emit.proofs.StepDoes.{temporary-few}
use Rattle.expr_emit.specs.WayFacts.{Facts}
use Rattle.expr_emit.proofs.WayLaws.{way-is, way-row, way-facts, closed-grows}
use Rattle.expr_emit.proofs.Doing.{does_at, does-placed}
use Rattle.expr_emit.specs.Siblings.{rows}
use Rattle.expr_emit.proofs.SiblingsLaws.{rows-decided, rows-skipped, rows-operands}
use Rattle.expr_emit.proofs.CycleDoes.{low-grows, rows_grow}

-- the same change in other words, where it has its room
pub does-as : {s : List ℕ} {l : Layout} {xs ys : List ℕ} {st r : State} {F : Made → Made} (G : Made → Made)
    → ((a : Made) → Holds s l xs st a → Fits l (G a) → F a ≡ G a) → Does s l xs st ys r F → Does s l xs st ys r G
does-as {s} {l} {xs} {ys} {st} {r} G e d = record {
  holds = λ a h f. subst (Holds s l ys r) (e a h f) (d.holds a h (subst (Fits l) (sym (e a h f)) f));
}

-- ---- And, Or

short-is : (s : List ℕ) (low : Low) (stop : Bool) (end j : ℕ) (a : Made)
    → decision (from_bool stop) end a.depth (rows s low (Decide stop (end - 1)) (count s j) (child j) a) ≡ short_circuit (from_bool stop) s low end j a
unfolding short_circuit decision
short-is s low stop end j a = ap (decision (from_bool stop) end a.depth) (rows-decided s low stop (end - 1) (count s j) (child j) a)

pub short-does : {s : List ℕ} {l : Layout} {xs ys zs : List ℕ} {st q r : State} (levels : ℕ) (stop : Bool) (end to j : ℕ)
    (o : Operands) → Right s → Valid s j → to ≡ end - 1 → o ≡ all s j
    → (Right s → Row s o.n o.from → Does s l xs st ys q (rows s (lowered levels s) (Decide stop to) o.n o.from))
    → ((a : Made) → st.depth ≤ a.pools.emitted → Holds s l ys q a → Fits l (decision (from_bool stop) end st.depth a)
    → Holds s l zs r (decision (from_bool stop) end st.depth a))
    → Does s l xs st zs r (short_circuit (from_bool stop) s (lowered levels s) end j)
short-does {s} {l} {xs} {ys} {zs} {st} {q} {r} levels stop end to j o C v to_is is d e =
    let low = lowered levels s in
    let row : Row s o.n o.from = subst (λ x. Row s x.n x.from) (sym is) (children s C j v) in
    let body : Does s l xs st ys q (rows s low (Decide stop (end - 1)) (count s j) (child j)) =
    does_at (λ t. rows s low (Decide stop t) (count s j) (child j)) to_is
    (does_at (λ x. rows s low (Decide stop to) x.n x.from) is (d C row)) in
    record {
      holds = λ a h f.
          let x = rows s low (Decide stop (end - 1)) (count s j) (child j) a in
          let is : decision (from_bool stop) end st.depth x ≡ short_circuit (from_bool stop) s low end j a =
          ap (λ t. decision (from_bool stop) end t x) (depth_is h) ∙ short-is s low stop end j a in
          let room : Fits l (decision (from_bool stop) end st.depth x) = subst (Fits l) (sym is) f in
          let more = (decision-grows (from_bool stop) end st.depth).each x in
          let grown = (rows_grow levels s (Decide stop (end - 1)) (count s j) (child j)).each a in
          let low-depth : st.depth ≤ x.pools.emitted = omega (arith, depth_is h, depth_low h, grown) in
          subst (Holds s l zs r) is (e x low-depth (body.holds a h (omega arith)) room);
    }

-- ---- Coalesce

pub coalesce-does : {s : List ℕ} {l : Layout} {xs ys zs : List ℕ} {st q r : State} (levels end j m n from k : ℕ) → Right s → Valid s j
    → 1 ≤ count s j → m ≡ count s j → n ≡ m - 1 → from ≡ child j → k ≡ skip s n from
    → (Right s → Row s n from → Does s l xs st ys q (rows s (lowered levels s) (Unless end) n from))
    → (Right s → Valid s k → Does s l ys q zs r (lowered levels s k))
    → Does s l xs st zs r (coalesce s (lowered levels s) end j)
unfolding coalesce
coalesce-does {s} {l} {xs} {ys} {zs} {st} {q} {r} levels end j m n from k C v some m-is n-is from_is k-is d e =
    let low = lowered levels s in
    let N-is : n ≡ count s j - 1 = n-is ∙ ap (λ t. t - 1) m-is in
    let all = children s C j v in
    let row : Row s n from =
    subst (λ t. Row s t from) (sym N-is) (subst (Row s (count s j - 1)) (sym from_is) (row-less (omega arith) all)) in
    let K-is : k ≡ skip s (count s j - 1) (child j) = k-is ∙ ap (λ t. skip s t from) N-is ∙ ap (skip s (count s j - 1)) from_is in
    let last : Valid s k = subst (Valid s) (sym K-is) (all.each (count s j - 1) (omega arith)) in
    does-same (coalesce s low end j)
    (λ a h. ap (low (skip s (count s j - 1) (child j))) (rows-skipped s low end (count s j - 1) (child j) a))
    (does-seq (low-grows levels s (skip s (count s j - 1) (child j)))
    (does_at (λ t. rows s low (Unless end) t (child j)) N-is (does_at (λ f. rows s low (Unless end) n f) from_is (d C row)))
    (does_at low K-is (e C last)))

-- ---- FnCall

call-does : {s : List ℕ} {l : Layout} {ws xs ys zs : List ℕ} {st p q r : State} (levels j : ℕ) (at : Opened) (o : Operands) (w : Way)
    → Right s → Row s (arg_count w s j) (first_arg w s j)
    → ((a : Made) → closed w s j (opened_at w s j a) (operands s (lowered levels s) (arg_count w s j) (first_arg w s j) (opened w s j a))
    ≡ fn_call s (lowered levels s) j a)
    → Growing (closed w s j at)
    → o ≡ arguments w s j
    → Does s l ws st xs p (opened w s j)
    → ((a : Made) → Holds s l ws st a → at ≡ opened_at w s j a)
    → (Right s → Row s o.n o.from → Does s l xs p ys q (rows s (lowered levels s) Nothing o.n o.from))
    → Does s l ys q zs r (closed w s j at)
    → Does s l ws st zs r (fn_call s (lowered levels s) j)
call-does {s} {l} {ws} {xs} {ys} {zs} {st} {p} {q} {r} levels j at o w C row same grows is first found d last =
    let low = lowered levels s in
    let N = arg_count w s j in
    let F = first_arg w s j in
    let row' : Row s o.n o.from = subst (λ x. Row s x.n x.from) (sym is) row in
    let lowers_args : Does s l xs p ys q (rows s low Nothing N F) = does_at (λ x. rows s low Nothing x.n x.from) is (d C row') in
    does-same (fn_call s low j)
    (λ a h. ap (closed w s j (opened_at w s j a)) (rows-operands s low N F (opened w s j a)) ∙ same a)
    (does-placed (closed w s j) grows found (does-seq (rows_grow levels s Nothing N F) first lowers_args) last)

-- the way as the code finds it
pub call-by-way : {s : List ℕ} {l : Layout} {ws xs ys zs : List ℕ} {st p q r : State} (levels j : ℕ) (at : Opened) (o : Operands) (w : Way)
    → Right s → Valid s j → kind s j ≡ 13 → w ≡ way_of s j → o ≡ arguments w s j
    → (Facts w s j → Does s l ws st xs p (opened w s j))
    → (Facts w s j → (a : Made) → Holds s l ws st a → at ≡ opened_at w s j a)
    → (Right s → Row s o.n o.from → Does s l xs p ys q (rows s (lowered levels s) Nothing o.n o.from))
    → (Facts w s j → Does s l ys q zs r (closed w s j at))
    → Does s l ws st zs r (fn_call s (lowered levels s) j)
call-by-way {s} levels j at o w C v k w-is is first found d last =
    let facts : Facts w s j = subst (λ (z : Way). Facts z s j) (sym w-is) (way-facts s j C v k) in
    let row : Row s (arg_count w s j) (first_arg w s j) =
    subst (λ (z : Way). Row s (arg_count z s j) (first_arg z s j)) (sym w-is) (way-row C v) in
    call-does levels j at o w C row
    (λ a. sym (subst
    (λ (z : Way). fn_call s (lowered levels s) j a
    ≡ closed z s j (opened_at z s j a) (operands s (lowered levels s) (arg_count z s j) (first_arg z s j) (opened z s j a)))
    (sym w-is) (way-is s (lowered levels s) j a)))
    (closed-grows w s j at) is (first facts) (found facts) d (last facts)

-- ---- Dot, Index

none_below : (i : ℕ) → i < 1 → i ≡ 0
none_below i h = omega arith

pub steps-grows : (levels : ℕ) (s : List ℕ) (cs : List ℕ) → Growing (steps s (lowered levels s) cs)
steps-grows levels s cs = record { each = steps-grow s (lowered levels s) (lowered-rises levels s) cs }

module _ {s : List ℕ} {l : Layout} {ws xs ys zs vs : List ℕ} {st q t u r : State} (levels j root m : ℕ) where
  pub chain-does : Right s → Linked s j → root ≡ child j → m ≡ temporary s root → lowers s j ≡ true
      → (Valid s root → Does s l ws st xs q (root_name s root))
      → (Right s → Linked s j → Does s l xs q ys t (steps s (lowered levels s) (links max_depth s j)))
      → (Right s → Row s m root → Does s l ys t zs u (rows s (lowered levels s) Nothing m root))
      → (ChainKey s j → (a : Made) → Pooled s a.pools.names j → Holds s l zs u a → Fits l (close_chain s j a)
      → Holds s l vs r (close_chain s j a))
      → Does s l ws st vs r (chain s (lowered levels s) j)
  unfolding root_value
  chain-does C L root_is m-is h named walked valued closes =
      let low = lowered levels s in
      let ls = links max_depth s j in
      let first = child-valid s C j L.link.valid (omega (arith, L.link.two)) in
      let few : m ≤ 1 = subst (λ n. n ≤ 1) (sym m-is) (temporary-few s root) in
      let row : Row s m root = row-less few
      (record {
        each = λ i g.
            subst (Valid s) (sym (ap (λ n. skip s n root) (none_below i g) ∙ skip-none s root)) (subst (Valid s) (sym root_is) first);
      }) in
      let before : Does s l ws st zs u (λ a. root_value s low (child j) (steps s low ls (root_name s (child j) a))) =
      does-same (λ a. root_value s low (child j) (steps s low ls (root_name s (child j) a)))
      (λ a g. rows-operands s low (temporary s (child j)) (child j) (steps s low ls (root_name s (child j) a)))
      (does-seq (rows_grow levels s Nothing (temporary s (child j)) (child j))
      (does-seq (steps-grows levels s ls) (does_at (root_name s) root_is (named (subst (Valid s) (sym root_is) first))) (walked C L))
      (does_at (λ v. rows s low Nothing (temporary s v) v) root_is (does_at (λ n. rows s low Nothing n root) m-is (valued C row)))) in
      record {
        holds = λ a g f.
            let x = root_value s low (child j) (steps s low ls (root_name s (child j) a)) in
            let is : close_chain s j x ≡ chain s low j a = chain-lowers s low j a h in
            let room : Fits l (close_chain s j x) = subst (Fits l) (sym is) f in
            let more = close-grows s j x in
            subst (Holds s l vs r) is (closes L.key x (closed-pooled levels s j a h) (before.holds a g (omega arith)) room);
      }

-- one whose links do not all have a step
pub chain-kept : {s : List ℕ} {l : Layout} {xs ys : List ℕ} {st r : State} (levels j : ℕ) → flattens s (links max_depth s j) ≡ false
    → Does s l xs st ys r (residual j) → Does s l xs st ys r (chain s (lowered levels s) j)
chain-kept {s} levels j h d = does-same (chain s (lowered levels s) j) (λ a g. chain-stays s (lowered levels s) j a h) d

-- one that fails: its code is taken back
pub chain_back : {s : List ℕ} {l : Layout} {ws xs ys zs : List ℕ} {st q b r : State} (e : State) (levels j root : ℕ) → Right s → Linked s j
    → root ≡ child j → flattens s (links max_depth s j) ≡ true → lowers s j ≡ false
    → (Valid s root → Does s l ws st xs q (root_name s root))
    → (Right s → Linked s j → Does s l xs q ys e (steps s (lowered levels s) (links max_depth s j)))
    → b ≡ states.taken_back e st
    → Does s l ys b zs r (residual j)
    → Does s l ws st zs r (chain s (lowered levels s) j)
unfolding take_back
chain_back {s} {l} {ws} {xs} {ys} {zs} {st} {q} {b} {r} e levels j root C L root_is flat h named walked back last =
    let low = lowered levels s in
    let ls = links max_depth s j in
    let first = child-valid s C j L.link.valid (omega (arith, L.link.two)) in
    let before : Does s l ws st ys e (λ a. steps s low ls (root_name s (child j) a)) =
    does-seq (steps-grows levels s ls) (does_at (root_name s) root_is (named (subst (Valid s) (sym root_is) first))) (walked C L) in
    record {
      holds = λ a g f.
          let x = steps s low ls (root_name s (child j) a) in
          let is : residual j (take_back a x) ≡ chain s low j a = chain-fails s low j a flat h in
          let room : Fits l (residual j (take_back a x)) = subst (Fits l) (sym is) f in
          let more = residual-grows j (take_back a x) in
          let grown = (steps-grows levels s ls).each (root_name s (child j) a) in
          let named = root-name-grows s (child j) a in
          let there = before.holds a g (omega arith) in
          let returned : Holds s l ys b (take_back a x) =
          subst (λ (u : State). Holds s l ys u (take_back a x)) (sym back)
          (back-holds g there (chain-behind levels s (child j) ls a) (omega arith)) in
          subst (Holds s l zs r) is (last.holds (take_back a x) returned room);
    }

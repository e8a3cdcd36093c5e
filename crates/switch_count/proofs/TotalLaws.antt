-- The total of a sheet is what its lowering gives: the length of the code, what is emitted, and whether an `eval` is reached.
use Prim.Native.Nat.{ℕ, zero, suc, ◌+◌}
use mathlib.Core.Path.{◌≡◌, refl, sym, ap, ◌∙◌}
use mathlib.Core.Bool.{Bool, true, false, ◌||◌}
use mathlib.Core.List.{List, [], ◌∷◌, ◌++◌, map}
use native.Mathlib.Omega.{arith}
use lib.Dec.{eqb}
use lib.ListN.{length, length-append}
use Rattle.lowering.proofs.DropLaws.{wanted-append, wanted-drop}
use Rattle.lowering.proofs.SwitchPlaces.{arms-length, ranges-length, bodies-length}
use Rattle.lowering.proofs.SwitchPlaces as Parts
use Rattle.sheet.specs.Limits.{max_depth}
use Rattle.sheet.specs.Node.{kind, child}
use Rattle.bytecode.specs.declared.Op.TheVariants.{Unit}
use Rattle.switch_split.specs.Split.{split}
use Rattle.switch_split.specs.Split as Split
use Rattle.lowering.specs.Kinds.{switch_kind}
use Rattle.lowering.specs.Code.{ins, no_pos}
use Rattle.lowering.specs.Pools.{Pools, no_pools, emits, const_of, push_const}
use Rattle.lowering.specs.Out.{Rec}
use Rattle.lowering.specs.Expression.{expression}
use Rattle.lowering.specs.SwitchSheet.{block_count, default_block, subject, cases_of, ranges_of}
use Rattle.lowering.specs.Arms.{arms_extent, arm_chains, distinct_from, distinct}
use Rattle.lowering.specs.Bodies.{Body, wanted, bodies_extent, fall_extent}
use Rattle.lowering.specs.SwitchLaid.{SwitchLaid, lay_cases, case_arms_of, lay_ranges, ranges_extent, layout}
use Rattle.lowering.specs.SwitchCode.{over_subject, default_at, end_at, fallback_at, bodies_code, default_code, last_emits, switch_code}
use Rattle.lowering.specs.SwitchTables.{case_pools}
use Rattle.lowering.specs.Program.{plain}
use Rattle.lowering.specs.Switch.{switch_of, switch}
use Rattle.lowering.specs.Outcome.{lower, lower_with}
use Rattle.expr_count.specs.declared.tallies.Tally.{Tally}
use Rattle.expr_count.specs.Tally.{instructions, plus}
use Rattle.expr_count.proofs.TallyLaws.{plus_assoc}
use Rattle.expr_count.specs.Count.{tally}
use Rattle.expr_count.specs.Count as Count
use Rattle.expr_count.proofs.Adds.{Adds, Counts, Alike, adds_none, adds-emits, adds-seq, adds-length, adds-tally, adds-into}
use Rattle.expr_count.proofs.CountLaws.{tally-counts}
use Rattle.switch_count.specs.Arms.{any_wants}
use Rattle.switch_count.specs.Bodies.{bodies_tally, default_tally}
use Rattle.switch_count.specs.Total.{case_lists, split_lists, cases_tally, ranges_tally, bodies_of, switch_tally, switch_total, total}
use Rattle.switch_count.proofs.ArmsAdd.{any_append, falls-emitted, falls-defeated, arms-add, arms-want, falls-length}
use Rattle.switch_count.proofs.BodiesAdd.{Placed, bodies-sum, fall-length, fall-emitted, fall-defeated}

-- ---- extents are lengths

-- bodies and default
unfoldable pub default_extent : ℕ → List Body → ℕ
default_extent zero xs = bodies_extent xs + 1
default_extent (suc k) xs = fall_extent xs

default-length : (def end : ℕ) (xs : List Body) → length (default_code def end xs) ≡ default_extent def xs
unfolding default_code default_extent
default-length zero end xs = omega (arith, bodies-length end xs, length-append (bodies_code end xs) (ins Unit over_subject no_pos ∷ []))
default-length (suc k) end xs = Parts.fall-length end xs

switch-length : (def : ℕ) (l : SwitchLaid)
    → length (switch_code def l)
    ≡ (length l.subject_code + 1)
    + (arms_extent l.case_arms + (ranges_extent l.splits l.range_arms + (default_extent def l.bodies + 2)))
unfolding switch_code
switch-length def l =
    let x = l.bodies in
    let cases = arms-length x (fallback_at def l.splits l) l.case_arms in
    let ranges = ranges-length x (default_at def l) l.splits l.range_arms in
    let default = default-length def (end_at def l) x in
    simp (length-append, cases, ranges, default) (omega arith)

-- ---- a switch

-- constants change no count
cases_alike : (s cs : List ℕ) (p : Pools) → Alike p (case_pools s cs p)
unfolding case_pools push_const
cases_alike s [] p = record { emitted-same = refl; defeated-same = refl }
cases_alike s (c ∷ cs) p =
    let r = cases_alike s cs (push_const s (const_of s (child c)) p) in
    record { emitted-same = r.emitted-same; defeated-same = r.defeated-same }

-- the tally said otherwise, part by part
adds-parts : {p q : Pools} {t u : Tally} {m n : ℕ} → n ≡ u.len → u.emitted ≡ t.emitted → u.defeated ≡ t.defeated → Adds p t m q
    → Adds p u n q
adds-parts {p} {q} {t} {u} {m} {n} l e d g =
    record {
      length-is = l;
      emitted-is = g.emitted-is ∙ ap (λ x. p.emitted + x) (sym e);
      defeated-is = g.defeated-is ∙ ap (λ x. p.defeated || x) (sym d);
    }

module _ (s : List ℕ) (rec : Rec) (t : Count.Rec) (C : Counts rec t) where
  pub cases-add : (es : List Split.Entry) (b : ℕ) (p : Pools)
      → Adds p (cases_tally s t es) (arms_extent (case_arms_of es (arm_chains s rec (case_lists s) b p).arms))
      (arm_chains s rec (case_lists s) b p).pools
  unfolding cases_tally case_arms_of
  cases-add [] b p = arms-add s rec t C (case_lists s) b p
  cases-add (e ∷ es) b p =
      adds-parts (falls-length s rec t C (case_lists s) b p) (falls-emitted s t (case_lists s)) (falls-defeated s t (case_lists s))
      (arms-add s rec t C (case_lists s) b p)

  pub ranges-add : (es : List Split.Entry) (b : ℕ) (p : Pools)
      → Adds p (ranges_tally s t es) (ranges_extent es (lay_ranges s rec es b p).arms) (lay_ranges s rec es b p).pools
  unfolding ranges_tally ranges_extent lay_ranges split_lists
  ranges-add [] b p = adds_none p
  ranges-add (e ∷ es) b p =
      adds-length (omega arith)
      (adds-seq (adds-emits 1 p) (arms-add s rec t C (distinct (map (λ (x : Split.Entry). x.blocks) (e ∷ es))) (b + 1) (emits 1 p)))

  -- what both kinds of chains reach
  cases-want : (k : ℕ) (es : List Split.Entry) (b : ℕ) (p : Pools)
      → wanted k (case_arms_of es (arm_chains s rec (case_lists s) b p).arms) ≡ any_wants s k (case_lists s)
  unfolding case_arms_of
  cases-want k [] b p = arms-want s rec t C k (case_lists s) b p
  cases-want k (e ∷ es) b p = wanted-drop k (arm_chains s rec (case_lists s) b p).arms ∙ arms-want s rec t C k (case_lists s) b p

  ranges-want : (k : ℕ) (es : List Split.Entry) (b : ℕ) (p : Pools) → wanted k (lay_ranges s rec es b p).arms ≡ any_wants s k (split_lists es)
  unfolding lay_ranges split_lists wanted any_wants distinct distinct_from
  ranges-want k [] b p = refl
  ranges-want k (e ∷ es) b p = arms-want s rec t C k (distinct (map (λ (x : Split.Entry). x.blocks) (e ∷ es))) (b + 1) (emits 1 p)

  pub both-want : (k : ℕ) (es : List Split.Entry) (b b' : ℕ) (p p' : Pools)
      → wanted k (case_arms_of es (arm_chains s rec (case_lists s) b p).arms ++ (lay_ranges s rec es b' p').arms)
      ≡ any_wants s k (case_lists s ++ split_lists es)
  both-want k es b b' p p' =
      let as' = case_arms_of es (arm_chains s rec (case_lists s) b p).arms in
      let rs = (lay_ranges s rec es b' p').arms in
      wanted-append k as' rs
      ∙ ap (λ x. x || wanted k rs) (cases-want k es b p)
      ∙ ap (λ x. any_wants s k (case_lists s) || x) (ranges-want k es b' p')
      ∙ sym (any_append s k (case_lists s) (split_lists es))

  three : instructions 3 ≡ plus (instructions 1) (instructions 2)
  unfolding plus instructions
  three = refl

  -- bodies and default, Rotate and Pop
  pub default-adds : (def b : ℕ) {p : Pools} {ks : List ℕ} {xs : List Body} {q : Pools} → Placed s t b ks xs
      → Adds p (bodies_tally s t ks) (bodies_extent xs) q
      → Adds p (plus (default_tally s t def ks) (instructions 2)) (default_extent def xs + 2) (emits (last_emits def) q)
  unfolding default_tally default_extent last_emits
  default-adds zero b {p} {ks} {xs} {q} w g =
      adds-length (omega arith)
      (adds-tally (ap (plus (bodies_tally s t ks)) three ∙ sym (plus_assoc (bodies_tally s t ks) (instructions 1) (instructions 2)))
      (adds-seq g (adds-emits 3 q)))
  default-adds (suc k) b {p} {ks} {xs} {q} w g =
      adds-seq (adds-parts (fall-length w) (fall-emitted s t ks) (fall-defeated s t ks) g) (adds-emits 2 q)

  switch-adds : Adds no_pools (switch_tally s t (split (ranges_of s))) (length (switch s rec).code) (switch s rec).pools
  unfolding switch switch_of layout lay_cases switch_tally bodies_of case_lists
  switch-adds =
      let o = rec subject 0 0 no_pools in
      let c = lay_cases s rec o in
      let es = split (ranges_of s) in
      let cs = case_arms_of es c.arms in
      let at-ranges = length o.code + 1 + arms_extent cs in
      let r = lay_ranges s rec es at-ranges c.pools in
      let at-bodies = at-ranges + ranges_extent es r.arms in
      let b = bodies-sum s rec t C (cs ++ r.arms) (case_lists s ++ split_lists es)
      (λ k. both-want k es (length o.code + 1) at-ranges (emits 1 o.pools) c.pools) (default_block s) (block_count s) 0 at-bodies
      r.pools in
      adds-length (switch-length (default_block s) (layout s rec))
      (adds-into (cases_alike s (cases_of s) (emits (last_emits (default_block s)) (layout s rec).pools))
      (adds-seq (adds-seq (C.each subject 0 0 no_pools) (adds-emits 1 o.pools))
      (adds-seq (cases-add es (length o.code + 1) (emits 1 o.pools))
      (adds-seq (ranges-add es at-ranges c.pools)
      (default-adds (default_block s) at-bodies b.placed b.adds)))))

-- ---- a sheet

total-adds : (s : List ℕ) → Adds no_pools (total s) (length (lower s).code) (lower s).pools
unfolding total lower plain switch_total
total-adds s = by (eqb (kind s 0) switch_kind) refl
  where
    by : (x : Bool) → eqb (kind s 0) switch_kind ≡ x → Adds no_pools (total s) (length (lower s).code) (lower s).pools
    by true h = rw (h, total, lower, lower_with) (switch-adds s (expression max_depth s) (tally max_depth s) (tally-counts max_depth s))
    by false h = rw (h, total, lower, lower_with) ((tally-counts max_depth s).each 0 0 0 no_pools)

module _ (s : List ℕ) where
  pub total-length : length (lower s).code ≡ (total s).len
  total-length = (total-adds s).length-is

  pub total-emitted : (lower s).pools.emitted ≡ (total s).emitted
  unfolding no_pools
  total-emitted = omega (arith, (total-adds s).emitted-is)

  pub total-defeated : (lower s).pools.defeated ≡ (total s).defeated
  unfolding no_pools
  total-defeated = (total-adds s).defeated-is

-- The lowering of a Switch as a change gives the code and the pools of the definition.
use Prim.Native.Nat.{ℕ, zero, suc, ◌+◌}
use mathlib.Core.Path.{◌≡◌, refl, sym, ap, ◌∙◌}
use mathlib.Core.Bool.{Bool, true, false}
use mathlib.Core.List.{List, [], ◌∷◌, ◌++◌, append_assoc, append-nil}
use native.Mathlib.Omega.{arith}
use lib.ListN.{length, length-append}
use Rattle.lowering.proofs.SwitchPlaces.{arms-length, ranges-length}
use Rattle.sheet.specs.Limits.{max_depth}
use Rattle.sheet.specs.Node.{child}
use Rattle.switch_split.specs.Split.{split}
use Rattle.switch_split.specs.Split as Split
use Rattle.bytecode.specs.declared.Op.TheVariants.{Unit, Rotate, Pop, Switch}
use Rattle.lowering.specs.Code.{Ins, Code, ins, no_pos}
use Rattle.lowering.specs.Pools.{Pools, no_pools, emits, const_of}
use Rattle.lowering.specs.Out.{Out, Rec}
use Rattle.lowering.specs.Expression.{expression}
use Rattle.lowering.specs.SwitchSheet.{block_count, default_block, subject, cases_of, ranges_of}
use Rattle.lowering.specs.Arms.{Arm, Arms, arms_extent, arm_chains}
use Rattle.lowering.specs.Bodies.{Body, Bodies, body_at, lay_bodies}
use Rattle.lowering.specs.SwitchLaid.{SwitchLaid, lay_cases, case_arms_of, lay_ranges, ranges_extent, layout}
use Rattle.lowering.specs.SwitchCode.{default_at, end_at, fallback_at, arms_code, ranges_code, default_code, last_emits, switch_code}
use Rattle.lowering.specs.SwitchTables.{case_pools}
use Rattle.lowering.specs.Switch.{switch_of, switch}
use Rattle.expr_model.specs.Made.{Made, made, nothing, with, emit, add_const, at_depth, lowered}
use Rattle.expr_model.proofs.Put.{low_of, made-path, emits-add}
use Rattle.expr_model.proofs.AfterLaws.{after-unit, after-rotate, after-pop}
use Rattle.switch_model.specs.Change.{arms_to, any_split, case_lists, range_lists, ranges_to, bodies_to, has_default, missing_to, close_to}
use Rattle.switch_model.specs.Change.{Targets, subject_to, chains_to, switch_to, cases_to}
use Rattle.switch_model.proofs.TryLaws.{after-switch}
use Rattle.switch_model.proofs.ArmsLaws.{arms_if, arms-is}
use Rattle.switch_model.proofs.BodyLaws.{wanted_in, bodies_if, bodies-is}

abbrev pub switch_at : ℕ → Ins
switch_at i = ins (Switch i) 1 no_pos

-- ---- the parts

-- one instruction that keeps the depth of the subject
pub switch-emit : (i : ℕ) (c : Code) (p : Pools) → emit (Switch i) no_pos 0 (made c p 1) ≡ made (c ++ (switch_at i ∷ [])) (emits 1 p) 1
unfolding emit
switch-emit i c p = made-path refl refl (after-switch i 1)

pub subject-is : (rec : Rec) → subject_to (low_of rec) nothing
    ≡ (let o = rec subject 0 0 no_pools in made (o.code ++ (ins (Switch 0) 1 no_pos ∷ [])) (emits 1 o.pools) 1)
unfolding subject_to nothing
subject-is rec = let o = rec subject 0 0 no_pools in switch-emit 0 o.code o.pools

pub one-behind : (c : Code) (i : Ins) → length (c ++ (i ∷ [])) ≡ length c + 1
one-behind c i = length-append c (i ∷ [])

pub arms-split : (es : List Split.Entry) (as' : List Arm) → arms_if (any_split es) as' ≡ case_arms_of es as'
unfolding any_split case_arms_of
arms-split [] as' = refl
arms-split (e ∷ es) as' = refl

module _ (s : List ℕ) (rec : Rec) (bodies : List Body) where
  pub cases-is : (fallback : ℕ) (es : List Split.Entry) (o : Out)
      → arms_to s (low_of rec) (λ k. body_at k bodies) fallback (any_split es) (case_lists s)
      (made (o.code ++ (ins (Switch 0) 1 no_pos ∷ [])) (emits 1 o.pools) 1)
      ≡ (let r = lay_cases s rec o in
      made ((o.code ++ (ins (Switch 0) 1 no_pos ∷ [])) ++ arms_code bodies fallback (case_arms_of es r.arms)) r.pools 1)
  unfolding lay_cases
  cases-is fallback es o =
      let c = o.code ++ (switch_at 0 ∷ []) in
      let go : ℕ → Arms = λ b. arm_chains s rec (case_lists s) b (emits 1 o.pools) in
      arms-is s rec bodies fallback (any_split es) (case_lists s) c (emits 1 o.pools)
      ∙ ap (λ b. made (c ++ arms_code bodies fallback (arms_if (any_split es) (go b).arms)) (go b).pools 1)
      (one-behind o.code (switch_at 0))
      ∙ made-path (ap (λ (as' : List Arm). c ++ arms_code bodies fallback as') (arms-split es (go (length o.code + 1)).arms)) refl refl

  ranges-is : (default : ℕ) (es : List Split.Entry) (c : Code) (p : Pools)
      → ranges_to s (low_of rec) (λ k. body_at k bodies) default es (made c p 1)
      ≡ (let r = lay_ranges s rec es (length c) p in made (c ++ ranges_code bodies default es r.arms) r.pools 1)
  unfolding ranges_to any_split lay_ranges ranges_code
  ranges-is default [] c p = made-path (sym (append-nil c)) refl refl
  ranges-is default (e ∷ es) c p =
      let x = c ++ (switch_at 1 ∷ []) in
      let go : ℕ → Arms = λ b. arm_chains s rec (range_lists (e ∷ es)) b (emits 1 p) in
      ap (arms_to s (low_of rec) (λ k. body_at k bodies) default false (range_lists (e ∷ es))) (switch-emit 1 c p)
      ∙ arms-is s rec bodies default false (range_lists (e ∷ es)) x (emits 1 p)
      ∙ ap (λ b. made (x ++ arms_code bodies default (go b).arms) (go b).pools 1) (one-behind c (switch_at 1))
      ∙ made-path (append_assoc c (switch_at 1 ∷ []) (arms_code bodies default (go (length c + 1)).arms)) refl refl

-- ---- the end

abbrev closing : Code
closing = ins (Rotate 1) 2 no_pos ∷ ins Pop 2 no_pos ∷ []

close-is : (c : Code) (p : Pools) (d : ℕ) → close_to (made c p d) ≡ made (c ++ closing) (emits 2 p) 1
unfolding close_to emit at_depth
close-is c p d =
    rw (after-rotate 0 2 1, after-pop 0 1)
    (made-path (append_assoc c (ins (Rotate 1) 2 no_pos ∷ []) (ins Pop 2 no_pos ∷ [])) (emits-add 1 1 p) refl)

unit-is : (c : Code) (p : Pools) → emit Unit no_pos 0 (made c p 1) ≡ made (c ++ (ins Unit 1 no_pos ∷ [])) (emits 1 p) 2
unfolding emit
unit-is c p = made-path refl refl (after-unit 0 1)

close_deep : (a : Made) → close_to (at_depth 2 a) ≡ close_to a
unfolding close_to at_depth
close_deep a = refl

module _ (s : List ℕ) (rec : Rec) (end : ℕ) (arms : List Arm) (n : ℕ) (c : Code) (p : Pools) where
  -- the bodies and what follows them
  tail-is : (def : ℕ)
      → close_to (missing_to def (bodies_to s (low_of rec) (wanted_in arms def) end (has_default def) n 0 (made c p 1)))
      ≡ (let x = lay_bodies s rec arms def n 0 (length c) p in
      made (c ++ (default_code def end x.bodies ++ (ins (Rotate 1) 2 no_pos ∷ ins Pop 2 no_pos ∷ []))) (emits (last_emits def) x.pools) 1)
  unfolding missing_to has_default default_code last_emits
  tail-is zero =
      let x = lay_bodies s rec arms 0 n 0 (length c) p in
      let y = bodies_if false end x.bodies in
      let u = ins Unit 1 no_pos ∷ [] in
      ap (λ a. close_to (emit Unit no_pos 0 a)) (bodies-is s rec end arms 0 1 false n 0 c p 1)
      ∙ ap close_to (unit-is (c ++ y) x.pools)
      ∙ close-is ((c ++ y) ++ u) (emits 1 x.pools) 2
      ∙ made-path (simp append_assoc) (emits-add 1 2 x.pools) refl
  tail-is (suc k) =
      let x = lay_bodies s rec arms (suc k) n 0 (length c) p in
      let y = bodies_if true end x.bodies in
      sym (close_deep (bodies_to s (low_of rec) (wanted_in arms (suc k)) end true n 0 (made c p 1)))
      ∙ ap close_to (bodies-is s rec end arms (suc k) 2 true n 0 c p 1)
      ∙ close-is (c ++ y) x.pools 2
      ∙ made-path (append_assoc c y closing) refl refl

-- ---- the whole

abbrev pub targets : List Body → ℕ → ℕ → ℕ → Targets
targets bodies fallback default end = record { body = λ k. body_at k bodies; fallback = fallback; default = default; end = end }

-- the targets of a layout
abbrev pub targets_of : ℕ → SwitchLaid → Targets
targets_of def l = targets l.bodies (fallback_at def l.splits l) (default_at def l) (end_at def l)

-- whether block k has a body there
abbrev pub wanted_of : ℕ → SwitchLaid → ℕ → Bool
wanted_of def l k = wanted_in (l.case_arms ++ l.range_arms) def k

module _ (s : List ℕ) (rec : Rec) (bodies : List Body) (fallback default end : ℕ) where
  abbrev pub subj : Out
  subj = rec subject 0 0 no_pools

  abbrev pub case : Arms
  case = lay_cases s rec subj

  abbrev pub entries : List Split.Entry
  entries = split (ranges_of s)

  abbrev pub arms : List Arm
  arms = case_arms_of entries case.arms

  abbrev pub at_ranges : ℕ
  at_ranges = length subj.code + 1 + arms_extent arms

  abbrev pub range : Arms
  range = lay_ranges s rec entries at_ranges case.pools

  abbrev pub at_bodies : ℕ
  at_bodies = at_ranges + ranges_extent entries range.arms

  abbrev pub start : Code
  start = (subj.code ++ (switch_at 0 ∷ [])) ++ arms_code bodies fallback arms

  abbrev pub before : Code
  before = start ++ ranges_code bodies default entries range.arms

  pub start-length : length start ≡ at_ranges
  start-length =
      omega (
        arith,
        length-append (subj.code ++ (switch_at 0 ∷ [])) (arms_code bodies fallback arms),
        one-behind subj.code (switch_at 0),
        arms-length bodies fallback arms,
      )

  before-length : length before ≡ at_bodies
  before-length =
      omega (
        arith,
        length-append start (ranges_code bodies default entries range.arms),
        start-length,
        ranges-length bodies default entries range.arms,
      )

  chains-is : chains_to s (low_of rec) (targets bodies fallback default end) entries (subject_to (low_of rec) nothing)
      ≡ made before range.pools 1
  unfolding chains_to
  chains-is =
      let go : ℕ → Arms = λ b. lay_ranges s rec entries b case.pools in
      ap (λ a. ranges_to s (low_of rec) (λ k. body_at k bodies) default entries
      (arms_to s (low_of rec) (λ k. body_at k bodies) fallback (any_split entries) (case_lists s) a)) (subject-is rec)
      ∙ ap (ranges_to s (low_of rec) (λ k. body_at k bodies) default entries) (cases-is s rec bodies fallback entries subj)
      ∙ ranges-is s rec bodies default entries start case.pools
      ∙ ap (λ b. made (start ++ ranges_code bodies default entries (go b).arms) (go b).pools 1) start-length

  parts_is : (def : ℕ)
      → switch_to s (low_of rec) (targets bodies fallback default end) entries def (wanted_in (arms ++ range.arms) def) nothing
      ≡ (let x = lay_bodies s rec (arms ++ range.arms) def (block_count s) 0 at_bodies range.pools in
      made ((before ++ default_code def end x.bodies) ++ closing) (emits (last_emits def) x.pools) 1)
  unfolding switch_to
  parts_is def =
      let want = wanted_in (arms ++ range.arms) def in
      let go : ℕ → Bodies = λ b. lay_bodies s rec (arms ++ range.arms) def (block_count s) 0 b range.pools in
      ap (λ a. close_to (missing_to def (bodies_to s (low_of rec) want end (has_default def) (block_count s) 0 a))) chains-is
      ∙ tail-is s rec end (arms ++ range.arms) (block_count s) before range.pools def
      ∙ ap (λ b. made (before ++ (default_code def end (go b).bodies ++ closing)) (emits (last_emits def) (go b).pools) 1) before-length
      ∙ made-path (sym (append_assoc before (default_code def end (go at_bodies).bodies) closing)) refl refl

-- with the targets of the definition's layout
module _ (s : List ℕ) (rec : Rec) where
  pub switch-made : (let l = layout s rec in
      let def = default_block s in
      switch_to s (low_of rec) (targets_of def l) l.splits def (wanted_of def l) nothing
      ≡ made (switch_code def l) (emits (last_emits def) l.pools) 1)
  unfolding layout switch_code
  switch-made =
      let l = layout s rec in
      let def = default_block s in
      parts_is s rec l.bodies (fallback_at def l.splits l) (default_at def l) (end_at def l) def

-- constants of Cases
cases-made : (s : List ℕ) (cs : List ℕ) (a : Made) → cases_to s cs a ≡ with (case_pools s cs) a
unfolding cases_to case_pools add_const
cases-made s [] a = refl
cases-made s (c ∷ cs) a = cases-made s cs (add_const s (const_of s (child c)) a)

module _ (s : List ℕ) where
  abbrev pub laid_out : SwitchLaid
  laid_out = layout s (expression max_depth s)

  -- the code and the counts of a switch
  pub switch-is : switch_to s (lowered max_depth s) (targets_of (default_block s) laid_out) laid_out.splits (default_block s)
      (wanted_of (default_block s) laid_out) nothing
      ≡ made (switch_code (default_block s) laid_out) (emits (last_emits (default_block s)) laid_out.pools) 1
  unfolding lowered
  switch-is = switch-made s (expression max_depth s)

  -- with the constants of the Cases: the code and the pools of the definition
  pub switch-whole : cases_to s (cases_of s)
      (switch_to s (lowered max_depth s) (targets_of (default_block s) laid_out) laid_out.splits (default_block s)
      (wanted_of (default_block s) laid_out) nothing)
      ≡ made (switch s (expression max_depth s)).code (switch s (expression max_depth s)).pools 1
  unfolding switch switch_of
  switch-whole = ap (cases_to s (cases_of s)) switch-is ∙ cases-made s (cases_of s) _

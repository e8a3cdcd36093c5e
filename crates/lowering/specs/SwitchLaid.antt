-- A switch laid out in the order in which its parts are lowered: subject, chains of the cases, chains of the ranges, bodies.
use Rattle.std.specs.Prelude.{ℕ, suc, ◌+◌, List, [], ◌∷◌, ◌++◌, map, length}
use Rattle.switch_split.specs.Split.{split}
use Rattle.switch_split.specs.Split as Split
use Rattle.lowering.specs.Code.{Code}
use Rattle.lowering.specs.Pools.{Pools, no_pools, emits}
use Rattle.lowering.specs.Out.{Out, Rec}
use Rattle.lowering.specs.SwitchSheet.{block_count, default_block, subject, cases_of, case_blocks, ranges_of}
use Rattle.lowering.specs.Arms.{Arm, Arms, arms_extent, arm_chains, distinct, drop_idle_jump}
use Rattle.lowering.specs.Bodies.{Body, lay_bodies}

-- `dispatch` is where the ranges' Switch stands, if there are split ranges; `bodies_place` where the bodies start
pub record SwitchLaid : Type 0 where
  pub subject_code : Code
  pub case_arms : List Arm
  pub splits : List Split.Entry
  pub dispatch : ℕ
  pub range_arms : List Arm
  pub bodies_place : ℕ
  pub bodies : List Body
  pub pools : Pools

-- the chains of the cases start behind the subject and the Switch
unfoldable pub lay_cases : List ℕ → Rec → Out → Arms
lay_cases s rec o =
    arm_chains s rec (distinct (map (case_blocks s) (cases_of s))) (length o.code + 1) (emits 1 o.pools)

-- the jump at the end of the last one is dropped only where split ranges follow
unfoldable pub case_arms_of : List Split.Entry → List Arm → List Arm
case_arms_of [] arms = arms
case_arms_of (e ∷ es) arms = drop_idle_jump arms

-- the chains of the ranges start behind the second Switch, at place b
unfoldable pub lay_ranges : List ℕ → Rec → List Split.Entry → ℕ → Pools → Arms
lay_ranges s rec [] b p = record { arms = []; pools = p }
lay_ranges s rec (e ∷ es) b p =
    arm_chains s rec (distinct (map (λ (x : Split.Entry). x.blocks) (e ∷ es))) (b + 1) (emits 1 p)

unfoldable pub ranges_extent : List Split.Entry → List Arm → ℕ
ranges_extent [] arms = 0
ranges_extent (e ∷ es) arms = suc (arms_extent arms)

unfoldable pub layout : List ℕ → Rec → SwitchLaid
layout s rec =
    let o = rec subject 0 0 no_pools in
    let c = lay_cases s rec o in
    let es = split (ranges_of s) in
    let cs = case_arms_of es c.arms in
    let at-ranges = length o.code + 1 + arms_extent cs in
    let r = lay_ranges s rec es at-ranges c.pools in
    let at-bodies = at-ranges + ranges_extent es r.arms in
    let x = lay_bodies s rec (cs ++ r.arms) (default_block s) (block_count s) 0 at-bodies r.pools in
    record {
      subject_code = o.code;
      case_arms = cs;
      splits = es;
      dispatch = at-ranges;
      range_arms = r.arms;
      bodies_place = at-bodies;
      bodies = x.bodies;
      pools = x.pools;
    }

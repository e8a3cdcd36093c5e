-- The guard chains of a switch, laid out: every guard is lowered at its place, jumps have no targets yet. One chain serves each
-- distinct list of blocks.
use Rattle.std.specs.Prelude.{ℕ, ◌+◌, Bool, true, false, List, [], ◌∷◌, eqb, length}
use Rattle.text.specs.Same.{same}
use Rattle.sheet.specs.Node.{kind, field_a, position}
use Rattle.lowering.specs.Kinds.{bool_kind}
use Rattle.lowering.specs.Code.{Code}
use Rattle.lowering.specs.Pools.{Pools, emits}
use Rattle.lowering.specs.Out.{Out, Rec}
use Rattle.lowering.specs.SwitchSheet.{guard_of}

-- a guard that is tried: its block, its place, its code, its position
pub record Try : Type 0 where
  pub block : ℕ
  pub place : ℕ
  pub code : Code
  pub pos : ℕ

-- how a chain ends: a constant true guard takes its body; all guards decline, and a jump goes to the fallback; or the fallback is what
-- follows, and the jump is dropped
pub data End : Type 0 where
  taken : ℕ → End
  declined : End
  idle : End

-- where a table entry goes: to a body, with no guard to try first; to a chain at a place; nothing in the list can run
pub data Entry : Type 0 where
  to_body : ℕ → Entry
  to_chain : ℕ → List Try → End → Entry
  to_fallback : Entry

-- the guards to be tried for a list of blocks, and the end
pub record Tries : Type 0 where
  pub tries : List Try
  pub end : End
  pub pools : Pools

-- what a guard is: a Bool is constant, anything else is tried
pub data Guard : Type 0 where
  never : Guard
  always : Guard
  tried : Guard

unfoldable pub guard_kind : List ℕ → ℕ → Guard
guard_kind s g =
    elim (eqb (kind s g) bool_kind) [
      | true ↦ elim (eqb (field_a s g) 0) [ true ↦ never | false ↦ always ]
      | false ↦ tried
    ]

-- a guard at place b, with the subject below it, before the rest
unfoldable pub try_at : List ℕ → ℕ → ℕ → Out → Tries → Tries
try_at s k b o r =
    record {
      tries = record { block = k; place = b; code = o.code; pos = position s (guard_of s k) } ∷ r.tries;
      end = r.end;
      pools = r.pools;
    }

-- constant false guards are passed over; at constant true the list ends
unfoldable pub tries_of : List ℕ → Rec → List ℕ → ℕ → Pools → Tries
tries_of s rec [] b p = record { tries = []; end = declined; pools = p }
tries_of s rec (k ∷ ks) b p =
    elim (guard_kind s (guard_of s k)) [
      | never ↦ tries_of s rec ks b p
      | always ↦ record { tries = []; end = taken k; pools = p }
      | tried ↦
          let o = rec (guard_of s k) b 1 p in
          try_at s k b o (tries_of s rec ks (b + length o.code + 1) (emits 1 o.pools))
    ]

-- the entry for a list whose guards are laid out from place b on
unfoldable pub entry_from : ℕ → List Try → End → Entry
entry_from b [] (taken k) = to_body k
entry_from b [] declined = to_fallback
entry_from b [] idle = to_fallback
entry_from b (t ∷ ts) e = to_chain b (t ∷ ts) e

-- instructions of a chain: each guard with its jump, and the jump at the end
unfoldable pub tries_extent : List Try → ℕ
tries_extent [] = 0
tries_extent (t ∷ ts) = length t.code + 1 + tries_extent ts

unfoldable pub end_extent : End → ℕ
end_extent (taken k) = 1
end_extent declined = 1
end_extent idle = 0

unfoldable pub entry_extent : Entry → ℕ
entry_extent (to_body k) = 0
entry_extent (to_chain b ts e) = tries_extent ts + end_extent e
entry_extent to_fallback = 0

-- the jump at the end is an instruction emitted
unfoldable pub end_emits : Entry → ℕ
end_emits (to_body k) = 0
end_emits (to_chain b ts e) = 1
end_emits to_fallback = 0

-- a list of blocks and its entry
pub record Arm : Type 0 where
  pub blocks : List ℕ
  pub entry : Entry

pub record Arms : Type 0 where
  pub arms : List Arm
  pub pools : Pools

unfoldable pub arms_extent : List Arm → ℕ
arms_extent [] = 0
arms_extent (a ∷ as') = entry_extent a.entry + arms_extent as'

unfoldable pub arm_chains : List ℕ → Rec → List (List ℕ) → ℕ → Pools → Arms
arm_chains s rec [] b p = record { arms = []; pools = p }
arm_chains s rec (l ∷ ls) b p =
    let t = tries_of s rec l b p in
    let e = entry_from b t.tries t.end in
    let r = arm_chains s rec ls (b + entry_extent e) (emits (end_emits e) t.pools) in
    record { arms = record { blocks = l; entry = e } ∷ r.arms; pools = r.pools }

-- lists of blocks, each kept where it is first met
unfoldable pub member_of : List ℕ → List (List ℕ) → Bool
member_of l [] = false
member_of l (m ∷ ms) = elim (same l m) [ true ↦ true | false ↦ member_of l ms ]

unfoldable pub distinct_from : List (List ℕ) → List (List ℕ) → List (List ℕ)
distinct_from met [] = []
distinct_from met (l ∷ ls) =
    elim (member_of l met) [ true ↦ distinct_from met ls | false ↦ l ∷ distinct_from (l ∷ met) ls ]

unfoldable pub distinct : List (List ℕ) → List (List ℕ)
distinct ls = distinct_from [] ls

-- the last chain's jump to the fallback is dropped where the fallback is what follows
unfoldable pub drop_end : End → End
drop_end (taken k) = taken k
drop_end declined = idle
drop_end idle = idle

unfoldable pub drop_entry : Entry → Entry
drop_entry (to_body k) = to_body k
drop_entry (to_chain b ts e) = to_chain b ts (drop_end e)
drop_entry to_fallback = to_fallback

unfoldable pub drop_idle_jump : List Arm → List Arm
drop_idle_jump [] = []
drop_idle_jump (a ∷ as') =
    elim (eqb (arms_extent as') 0) [
      | true ↦ record { blocks = a.blocks; entry = drop_entry a.entry } ∷ as'
      | false ↦ a ∷ drop_idle_jump as'
    ]

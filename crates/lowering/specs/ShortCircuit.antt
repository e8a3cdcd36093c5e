-- And, Or: operands from left to right up to the first that decides.
use Rattle.std.specs.Prelude.{ℕ, zero, suc, ◌+◌, ◌-◌, List, [], ◌∷◌, ◌++◌, length}
use Rattle.sheet.specs.Node.{count, position, child, next}
use Rattle.bytecode.specs.declared.Op.{Op}
use Rattle.bytecode.specs.declared.Op.TheVariants.{Bool, Jump, JumpIfTrue, JumpIfFalse}
use Rattle.lowering.specs.Code.{Code, ins, no_pos}
use Rattle.lowering.specs.Pools.{Pools, emits}
use Rattle.lowering.specs.Out.{Out, out, Rec}

-- an operand's code and position, before the jump behind it has its target
pub record Fragment : Type 0 where
  pub code : Code
  pub pos : ℕ

pub record Fragments : Type 0 where
  pub parts : List Fragment
  pub pools : Pools

-- n siblings from node j on, each at depth d and with `gap` instructions behind it
unfoldable pub fragments : List ℕ → Rec → ℕ → ℕ → ℕ → ℕ → ℕ → Pools → Fragments
fragments s rec gap zero j b d p = record { parts = []; pools = p }
fragments s rec gap (suc n) j b d p =
    let o = rec j b d p in
    let r = fragments s rec gap n (next s j) (b + length o.code + gap) d (emits gap o.pools) in
    record { parts = record { code = o.code; pos = position s j } ∷ r.parts; pools = r.pools }

-- instructions of the fragments, with the gaps
unfoldable pub extent : ℕ → List Fragment → ℕ
extent gap [] = 0
extent gap (f ∷ fs) = length f.code + gap + extent gap fs

-- each operand and its jump
unfoldable pub decided : Op → ℕ → List Fragment → Code
decided jump d [] = []
decided jump d (f ∷ fs) = f.code ++ (ins jump (suc d) f.pos ∷ decided jump d fs)

-- stop is 1 for Or, 0 for And
unfoldable pub jump_on : ℕ → ℕ → Op
jump_on zero t = JumpIfFalse t
jump_on (suc n) t = JumpIfTrue t

-- the end of And and Or, with the first of its three instructions at place e
unfoldable pub decision : ℕ → ℕ → ℕ → Code
decision stop e d = ins (Bool (1 - stop)) d no_pos ∷ ins (Jump (e + 3)) (suc d) no_pos ∷ ins (Bool stop) d no_pos ∷ []

unfoldable pub short_circuit : ℕ → List ℕ → Rec → ℕ → ℕ → ℕ → Pools → Out
short_circuit stop s rec j b d p =
    let r = fragments s rec 1 (count s j) (child j) b d p in
    let e = b + extent 1 r.parts in
    out (decided (jump_on stop (e + 2)) d r.parts ++ decision stop e d) (emits 3 r.pools)

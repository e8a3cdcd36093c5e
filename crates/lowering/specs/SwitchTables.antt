-- The tables of a switch: one of cases, and one of ranges where split ranges exist.
use Rattle.std.specs.Prelude.{ℕ, Bool, true, false, List, [], ◌∷◌, length}
use Rattle.text.specs.Same.{same}
use Rattle.sheet.specs.Node.{child}
use Rattle.switch_split.specs.Excess.{shifted}
use Rattle.switch_split.specs.Split as Split
use Rattle.bytecode.specs.declared.Switch.{Switch}
use Rattle.bytecode.specs.declared.SwitchCase.{SwitchCase}
use Rattle.bytecode.specs.declared.SwitchRange.{SwitchRange}
use Rattle.lowering.specs.Pools.{Pools, const_of, const_at, push_const}
use Rattle.lowering.specs.SwitchSheet.{case_blocks}
use Rattle.lowering.specs.Arms.{Entry, to_body, to_chain, to_fallback, Arm}
use Rattle.lowering.specs.Bodies.{Body, body_at}
use Rattle.lowering.specs.SwitchLaid.{SwitchLaid}

-- the entry of a list of blocks
unfoldable pub entry_of : List ℕ → List Arm → Entry
entry_of l [] = to_fallback
entry_of l (a ∷ as') = elim (same l a.blocks) [ true ↦ a.entry | false ↦ entry_of l as' ]

unfoldable pub target : List Body → ℕ → Entry → ℕ
target bodies fallback (to_body k) = body_at k bodies
target bodies fallback (to_chain b ts e) = b
target bodies fallback to_fallback = fallback

-- constants of Cases enter the pool after all code, in sheet order
unfoldable pub case_pools : List ℕ → List ℕ → Pools → Pools
case_pools s [] p = p
case_pools s (c ∷ cs) p = case_pools s cs (push_const s (const_of s (child c)) p)

unfoldable pub case_rows : List ℕ → SwitchLaid → ℕ → List ℕ → Pools → List SwitchCase
case_rows s l fallback [] p = []
case_rows s l fallback (c ∷ cs) p =
    let v = const_of s (child c) in
    record { target = target l.bodies fallback (entry_of (case_blocks s c) l.case_arms); constant = const_at s v p }
    ∷ case_rows s l fallback cs (push_const s v p)

abbrev pub one_if : Bool → ℕ
one_if true = 1
one_if false = 0

unfoldable pub range_rows : SwitchLaid → ℕ → List Split.Entry → List SwitchRange
range_rows l fallback [] = []
range_rows l fallback (e ∷ es) =
    record {
      from = shifted e.from;
      to = shifted e.to;
      inclusive = one_if e.inclusive;
      target = target l.bodies fallback (entry_of e.blocks l.range_arms);
    }
    ∷ range_rows l fallback es

unfoldable pub range_table : ℕ → List Split.Entry → List Switch
range_table fallback [] = []
range_table fallback (e ∷ es) = record { ranged = 1; first = 0; rows = length (e ∷ es); default = fallback } ∷ []

unfoldable pub case_table : ℕ → List ℕ → Switch
case_table fallback cs = record { ranged = 0; first = 0; rows = length cs; default = fallback }

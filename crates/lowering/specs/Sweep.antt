-- All runs of an image, followed place by place: a computed test that every place is reached, always at one depth, that each step finds
-- what it pops or needs and goes forward, that one value remains, and that the reported depth is the greatest.
use Rattle.std.specs.Prelude.{ℕ, zero, suc, ◌-◌, max, Bool, true, false, ◌&&◌, List, [], ◌∷◌, ◌++◌, leb, ltb, eqb}
use Rattle.bytecode.specs.Effect.{effect, Flow, on, jump, branch, table}
use Rattle.lowering.specs.Words.{instructions, greatest_depth, kind_at, a_at, switch_word}
use Rattle.lowering.specs.Run.{State, start, needs, step}

-- how many ways an instruction can go
unfoldable pub ways_of : Flow → List ℕ → ℕ → ℕ
ways_of on w p = 1
ways_of jump w p = 1
ways_of branch w p = 2
ways_of table w p = suc (switch_word w (a_at w p) 2)

-- the states after one step, for ways n - 1 to 0
unfoldable pub after : List ℕ → State → ℕ → List State
after w st zero = []
after w st (suc n) = step w n st ∷ after w st n

-- all these are past p and not past the end
unfoldable pub forward : List ℕ → ℕ → List State → Bool
forward w p [] = true
forward w p (st ∷ sts) =
    elim (ltb p st.place && leb st.place (instructions w)) [ true ↦ forward w p sts | false ↦ false ]

-- the states not at p; those at p have depth d
unfoldable pub elsewhere : ℕ → List State → List State
elsewhere p [] = []
elsewhere p (st ∷ sts) = elim (eqb st.place p) [ true ↦ elsewhere p sts | false ↦ st ∷ elsewhere p sts ]

unfoldable pub alike : ℕ → ℕ → List State → Bool
alike p d [] = true
alike p d (st ∷ sts) =
    elim (eqb st.place p) [
      | true ↦ elim (eqb st.depth d) [ true ↦ alike p d sts | false ↦ false ]
      | false ↦ alike p d sts
    ]

-- the depth at p plus 1, or 0 where no state is at p
unfoldable pub depth_at : ℕ → List State → ℕ
depth_at p [] = 0
depth_at p (st ∷ sts) = elim (eqb st.place p) [ true ↦ suc st.depth | false ↦ depth_at p sts ]

-- n places from p on; `coming` are the states that runs come to from before p, `deepest` is the greatest depth so far
unfoldable pub sweep : List ℕ → ℕ → ℕ → List State → ℕ → Bool
sweep w zero p coming deepest =
    eqb (depth_at p coming) 2 && alike p 1 coming && eqb (max deepest 1) (greatest_depth w)
sweep w (suc n) p coming deepest =
    let d = depth_at p coming - 1 in
    let st : State = record { place = p; depth = d } in
    let sts = after w st (ways_of (effect (kind_at w p)).flow w p) in
    elim (leb 1 (depth_at p coming) && alike p d coming && leb (needs w p) d && forward w p sts) [
      | true ↦ sweep w n (suc p) (sts ++ elsewhere p coming) (max deepest d)
      | false ↦ false
    ]

unfoldable pub all_runs_right : List ℕ → Bool
all_runs_right w = sweep w (instructions w) 0 (start ∷ []) 0

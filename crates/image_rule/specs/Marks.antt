-- The depth at each place, found in one pass over the code. A mark is the depth plus 1, or 0 where no run has come. Marks 0 to n are those
-- of the n places and of the end; behind them each table has one, so that its rows are gone through once, by the first Switch naming it.
use Rattle.std.specs.Prelude.{ℕ, zero, suc, ◌+◌, ◌-◌, max, Bool, true, false, ◌&&◌, List, leb, eqb, get_or, set, replicate}
use Rattle.words.specs.Count.{all_below}
use Rattle.bytecode.specs.Effect.{effect, Flow, on, jump, branch, table}
use Rattle.lowering.specs.Words.{instructions, greatest_depth, kind_at, a_at, switch_word}
use Rattle.lowering.specs.Run.{pops, pushes, needs, branch_target, table_target}
use Rattle.image_rule.specs.Rules.{tables}

abbrev pub mark : List ℕ → ℕ → ℕ
mark l i = get_or l i 0

abbrev pub table_node : List ℕ → ℕ → ℕ
table_node w i = instructions w + 1 + i

-- the marks of the places, of the end and of the tables
abbrev pub marks_there : List ℕ → ℕ
marks_there w = instructions w + 1 + tables w

abbrev pub flow_at : List ℕ → ℕ → Flow
flow_at w p = (effect (kind_at w p)).flow

-- the depth behind the instruction at p
abbrev pub after : List ℕ → ℕ → ℕ → ℕ
after w p d = d - pops w p + pushes w p

-- how many ways differ, and where a way takes a mark: a Switch hands it to its table
unfoldable pub edges : Flow → ℕ
edges on = 1
edges jump = 1
edges branch = 2
edges table = 1

unfoldable pub edge : Flow → List ℕ → ℕ → ℕ → ℕ
edge on w p way = p + 1
edge jump w p way = a_at w p
edge branch w p way = branch_target way (a_at w p) p
edge table w p way = table_node w (a_at w p)

-- a run comes to t: the first one leaves its mark
unfoldable pub come : ℕ → List ℕ → ℕ → List ℕ
come m l t = elim (eqb (mark l t) 0) [ true ↦ set l t m | false ↦ l ]

-- to f 0, f 1, .. f (k - 1)
unfoldable pub comes : ℕ → (ℕ → ℕ) → ℕ → List ℕ → List ℕ
comes m f zero l = l
comes m f (suc k) l = come m (comes m f k l) (f k)

-- to each row of table i and to its default, if none has come to the table before
unfoldable pub enter : List ℕ → ℕ → ℕ → List ℕ → List ℕ
enter w i m l = elim (eqb (mark l (table_node w i)) 0) [ true ↦ comes m (table_target w i) (suc (switch_word w i 2)) l | false ↦ l ]

unfoldable pub opened : Flow → List ℕ → ℕ → ℕ → List ℕ → List ℕ
opened on w p m l = l
opened jump w p m l = l
opened branch w p m l = l
opened table w p m l = enter w (a_at w p) m l

-- place p hands on the mark m
unfoldable pub hand_on : Flow → List ℕ → ℕ → ℕ → List ℕ → List ℕ
hand_on F w p m l = comes m (edge F w p) (edges F) (opened F w p m l)

unfoldable pub pass_by : ℕ → List ℕ → ℕ → List ℕ → List ℕ
pass_by zero w p l = l
pass_by (suc d) w p l = hand_on (flow_at w p) w p (suc (after w p d)) l

-- the marks after the places below p, in `size` words
unfoldable pub marked : List ℕ → ℕ → ℕ → List ℕ
marked w size zero = set (replicate size 0) 0 1
marked w size (suc p) = pass_by (mark (marked w size p) p) w p (marked w size p)

-- place p finds what it needs, and where it leads the marks are its own
unfoldable pub place_by : ℕ → List ℕ → List ℕ → ℕ → Bool
place_by zero w l p = true
place_by (suc d) w l p =
    leb (needs w p) d && all_below (edges (flow_at w p)) (λ way. eqb (mark l (edge (flow_at w p) w p way)) (suc (after w p d)))

-- the rows and the default of table i have its mark
unfoldable pub table_by : ℕ → List ℕ → List ℕ → ℕ → Bool
table_by zero w l i = true
table_by (suc d) w l i = all_below (suc (switch_word w i 2)) (λ r. eqb (mark l (table_target w i r)) (suc d))

-- the greatest of the marks 0 to n
unfoldable pub most : List ℕ → ℕ → ℕ
most l zero = mark l 0
most l (suc n) = max (most l n) (mark l (suc n))

-- the marks agree everywhere, one value remains, and the reported depth is the greatest
unfoldable pub marks_right : List ℕ → List ℕ → Bool
marks_right w l =
    all_below (instructions w) (λ p. place_by (mark l p) w l p)
    && all_below (tables w) (λ i. table_by (mark l (table_node w i)) w l i)
    && eqb (mark l (instructions w)) 2
    && eqb (most l (instructions w)) (suc (greatest_depth w))

-- What the code of the pass leaves in the scratch, why it may break off, and the parts of the test that follows.
use Rattle.std.specs.Prelude.{ℕ, suc, ◌+◌, ◌<◌, ◌≡◌, Bool, true, false, Option, Some, None, List, eqb}
use Rattle.words.specs.Count.{all_below}
use Rattle.bytecode.specs.Effect.{Flow, table}
use Rattle.bytecode.specs.Coded.{flow_of}
use Rattle.lowering.specs.Words.{instructions, a_at}
use Rattle.lowering.specs.Run.{pops, pushes, needs}
use Rattle.image_rule.specs.Rules.{tables}
use Rattle.image_rule.specs.Marks.{mark, marks_there, table_node, flow_at, after, edges, edge, pass_by, marked, place_by, table_by}
use Rattle.image_rows.specs.AllRows.{Pooled}
use Rattle.image_rows.specs.Scratch.{Does}
use Rattle.image_read.specs.declared.RootKind.{RootKind}
use Rattle.image_read.specs.declared.RootKind.TheVariants.{Local, Named, This, Temporary}
use Rattle.image_depths.specs.declared.Code.{Code}

-- what a chain with n operands takes, by its root
unfoldable pub taken : Option RootKind → ℕ → ℕ
taken (Some Temporary) n = n + 1
taken (Some Local) n = n
taken (Some Named) n = n
taken (Some This) n = n
taken None n = n

-- what was read of the instruction at p
pub record Read (w : List ℕ) (p : ℕ) (c : Code) : Type 0 where
  pub a : c.a ≡ a_at w p
  pub flow : flow_of c.flow ≡ flow_at w p
  pub pushes : c.pushes ≡ pushes w p
  pub pops : c.pops ≡ pops w p
  pub needs : c.needs ≡ needs w p

-- where the two ways from p take a mark
pub record Ways (w : List ℕ) (p x y : ℕ) : Type 0 where
  pub first : x ≡ edge (flow_at w p) w p 0
  pub second : y ≡ edge (flow_at w p) w p 1

-- the rows of the table that the instruction at p names
abbrev pub PooledAt : List ℕ → ℕ → Type 0
PooledAt w p = flow_at w p ≡ table → Pooled w (a_at w p)

-- the mark that place p would hand on has no room in a word
pub record Deep (w l : List ℕ) (p : ℕ) : Type 0 where
  pub depth : ℕ
  pub there : mark l p ≡ suc depth
  pub large : 4294967295 < suc (after w p depth)

-- what was done at place p to the marks l and the words n of rows
pub record Passed (w : List ℕ) (p : ℕ) (l n l' n' : List ℕ) (r : Bool) : Type 0 where
  pub done : r ≡ true → Does w (λ a. pass_by (mark a p) w p a) l n l' n'
  pub deep : r ≡ false → Deep w l p

pub record DeepAt (w : List ℕ) : Type 0 where
  pub place : ℕ
  pub inside : place < instructions w
  pub deep : Deep w (marked w (marks_there w) place) place

pub record MarkedAll (w l' : List ℕ) (r : Bool) : Type 0 where
  pub done : r ≡ true → l' ≡ marked w (marks_there w) (instructions w)
  pub deep : r ≡ false → DeepAt w

-- the parts of the test
unfoldable pub leads : Flow → List ℕ → List ℕ → ℕ → ℕ → Bool
leads F w l p m = all_below (edges F) (λ way. eqb (mark l (edge F w p way)) m)

unfoldable pub places_right : List ℕ → List ℕ → Bool
places_right w l = all_below (instructions w) (λ p. place_by (mark l p) w l p)

unfoldable pub tables_right : List ℕ → List ℕ → Bool
tables_right w l = all_below (tables w) (λ i. table_by (mark l (table_node w i)) w l i)

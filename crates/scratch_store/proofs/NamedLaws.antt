-- docs/PORT.md and docs/PROVING.md name these laws: the counts behind an instruction, the depth where no more is there than is popped,
-- the chain that a search by its contract finds, and that twelve counts in a list are all there.
use Rattle.std.proofs.Common.{◌≡◌, ℕ, ◌+◌, ◌%◌, ◌≤◌, ◌<◌, Bool, List, [], ◌∷◌, length, get_or, max, refl, arith}
use Rattle.std.specs.Prelude.{slice_index}
use Rattle.lowering.specs.Code.{Code, greatest}
use Rattle.sheet.specs.Node.{child}
use Rattle.bytecode.specs.Effect.{effect, popped, Count}
use Rattle.lowering.specs.Pools.{first_where}
use Rattle.expr_chains.specs.Same.{same_nodes, RootLocal}
use Rattle.expr_model.specs.Made.{Made}
use Rattle.scratch.specs.declared.Layout.{Layout}
use Rattle.scratch.specs.Places.{chains_at, chain_index, region}
use Rattle.scratch_index.specs.Locals.{Slots}
use Rattle.scratch_index.specs.Held.{names_held}
use Rattle.scratch_index.specs.Chains.{chain_hash, ByNames, FindsChain}
use Rattle.scratch_index.proofs.IndexesLaws.{chain-found, indexes-names}
use Rattle.scratch_store.specs.declared.State.{State}
use Rattle.scratch_store.specs.States.{counted}
use Rattle.scratch_store.specs.Holds.{Holds}
use Rattle.scratch_store.specs.Effects.{after_words}
use Rattle.scratch_store.proofs.TableLaws.{after-by}

pub counted_of :
    (c : State) (n m g d : ℕ) → n ≡ (c.code + 1) % 4294967296 → m ≡ (c.emitted + 1) % 4294967296 → g ≡ max c.deepest c.depth
    → record c { code = n; emitted = m; deepest = g; depth = d % 4294967296 } ≡ counted c d
counted_of c n m g d e f k = rw (e, f, k) refl

pub after_none : (w : List ℕ) (n d e0 e1 c : ℕ) (k : Count) → e0 ≡ (effect (get_or w 0 0)).pops → k ≡ (effect (get_or w 0 0)).count
    → c ≡ popped k (get_or w 1 0) (get_or w 2 0) n → e1 ≡ (effect (get_or w 0 0)).pushes → d ≤ e0 + c → e1 ≡ after_words w n d
after_none w n d e0 e1 c k h0 h2 h3 h1 l = let z = after-by w n d e0 e1 c k h0 h1 h2 h3 in omega arith

pub chain_fits :
    (s : List ℕ) (l : Layout) (xs : List ℕ) (c : State) (v h i : ℕ) (local : Bool) (told : Slots s l xs → RootLocal s (child v) local)
    (hashed : RootLocal s (child v) local → ByNames s l c.names xs (chain_hash s (names_held s l c.names xs) v) h)
    (sought : FindsChain s v local (chain_index l) c.chains h xs i) → (a : Made) → Holds s l xs c a
    → i ≡ first_where (same_nodes s v) (region (chains_at l) c.chains xs)
chain_fits s l xs c v h i local told hashed sought a q =
    chain-found q.index v h i local (told q.index.slots) ((hashed (told q.index.slots)).is (indexes-names q.index)) sought

-- what the counts stand for in a list of twelve; the last of them is never 0, so that a list that holds something is known to have all
abbrev pub state_of : List ℕ → State
state_of c = record {
  code = slice_index c 0;
  consts = slice_index c 1;
  names = slice_index c 2;
  tokens = slice_index c 3;
  residuals = slice_index c 4;
  chains = slice_index c 5;
  emitted = slice_index c 6;
  depth = slice_index c 7;
  deepest = slice_index c 11;
  layout = record { most = slice_index c 9; nodes = slice_index c 10 };
  steps = slice_index c 8;
}

-- all counts are there
abbrev pub Full : List ℕ → Type 0
Full c = 11 < length c

-- a last count that is not 0 is there, and so are all
pub full_by : (c : List ℕ) → 1 ≤ get_or c 11 0 → Full c
full_by ([]) h = absurd (omega arith)
full_by (a0 ∷ []) h = absurd (omega arith)
full_by (a0 ∷ a1 ∷ []) h = absurd (omega arith)
full_by (a0 ∷ a1 ∷ a2 ∷ []) h = absurd (omega arith)
full_by (a0 ∷ a1 ∷ a2 ∷ a3 ∷ []) h = absurd (omega arith)
full_by (a0 ∷ a1 ∷ a2 ∷ a3 ∷ a4 ∷ []) h = absurd (omega arith)
full_by (a0 ∷ a1 ∷ a2 ∷ a3 ∷ a4 ∷ a5 ∷ []) h = absurd (omega arith)
full_by (a0 ∷ a1 ∷ a2 ∷ a3 ∷ a4 ∷ a5 ∷ a6 ∷ []) h = absurd (omega arith)
full_by (a0 ∷ a1 ∷ a2 ∷ a3 ∷ a4 ∷ a5 ∷ a6 ∷ a7 ∷ []) h = absurd (omega arith)
full_by (a0 ∷ a1 ∷ a2 ∷ a3 ∷ a4 ∷ a5 ∷ a6 ∷ a7 ∷ a8 ∷ []) h = absurd (omega arith)
full_by (a0 ∷ a1 ∷ a2 ∷ a3 ∷ a4 ∷ a5 ∷ a6 ∷ a7 ∷ a8 ∷ a9 ∷ []) h = absurd (omega arith)
full_by (a0 ∷ a1 ∷ a2 ∷ a3 ∷ a4 ∷ a5 ∷ a6 ∷ a7 ∷ a8 ∷ a9 ∷ a10 ∷ []) h = absurd (omega arith)
full_by (a0 ∷ a1 ∷ a2 ∷ a3 ∷ a4 ∷ a5 ∷ a6 ∷ a7 ∷ a8 ∷ a9 ∷ a10 ∷ a11 ∷ c) h = omega arith

greatest-least : (c : Code) → 1 ≤ greatest c
unfolding greatest
greatest-least [] = omega arith
greatest-least (i ∷ c) = let z = greatest-least c in omega arith

pub held-full : {s : List ℕ} {l : Layout} {xs : List ℕ} {a : Made} (c : List ℕ) → Holds s l xs (state_of c) a → Full c
held-full {a = a} c h = full_by c (let d = h.counts.deepest in let g = greatest-least a.code in omega arith)

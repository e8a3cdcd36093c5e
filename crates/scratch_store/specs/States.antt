-- The counts, and how they change.
use Rattle.std.specs.Prelude.{ℕ, ◌+◌, ◌%◌, max}
use Rattle.scratch.specs.declared.Layout.{Layout}
use Rattle.scratch_store.specs.declared.State.{State}

-- the layout beside them, as contracts name it
abbrev pub layout_of : State → Layout
layout_of st = st.layout

-- an instruction more, and the depth behind it
abbrev pub counted : State → ℕ → State
counted st d = record st {
  code = (st.code + 1) % 4294967296;
  emitted = (st.emitted + 1) % 4294967296;
  depth = d % 4294967296;
  deepest = max st.deepest st.depth;
}

-- a residual more
abbrev pub with_residual : State → State
with_residual st = record st { residuals = (st.residuals + 1) % 4294967296 }

-- the key of a constant, a name, a token more
abbrev pub with_const : State → State
with_const st = record st { consts = (st.consts + 1) % 4294967296 }

abbrev pub with_name : State → State
with_name st = record st { names = (st.names + 1) % 4294967296 }

abbrev pub with_token : State → State
with_token st = record st { tokens = (st.tokens + 1) % 4294967296 }

-- the key of a chain more, and its n steps
abbrev pub with_chain : State → ℕ → State
with_chain st n = record st { chains = (st.chains + 1) % 4294967296; steps = (st.steps + n) % 4294967296 }

-- another depth
abbrev pub at_depth : State → ℕ → State
at_depth st d = record st { depth = d }

-- the code and the depth as they were
abbrev pub taken_back : State → State → State
taken_back st saved = record st { code = saved.code; depth = saved.depth; deepest = saved.deepest }

-- nothing yet
abbrev pub start : Layout → State
start l = record {
  code = 0;
  consts = 0;
  names = 0;
  tokens = 0;
  residuals = 0;
  chains = 0;
  emitted = 0;
  depth = 0;
  deepest = 1;
  layout = l;
  steps = 0;
}

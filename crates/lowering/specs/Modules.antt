-- What names of modules are, as document 02 says it (A2), of a sheet that passes the check: over bytes, instructions and their order. The
-- definitions that compute it ask for words and tests (`same_name`, `namespace`, `role`, `general_rule`, `lower_call`).
use Rattle.std.specs.Prelude.{ℕ, suc, ◌+◌, ◌-◌, ◌≤◌, ◌<◌, ◌≡◌, true, false, ◌&&◌, ◌||◌, not, eqb, List, [], ◌∷◌, ◌++◌, ◌⊎◌, length, get_or}
use Rattle.std.proofs.Math.Option.{none, some}
use Rattle.text.specs.Keyword.{eval_name, fn_name, call_name, curry_name}
use Rattle.sheet.specs.Kinds.{variable_kind, fn_call_kind}
use Rattle.sheet.specs.Sections.{text_count}
use Rattle.sheet.specs.Node.{kind, count, field_a, field_b, field_c, position, child, next, namespace_word, namespace_pos}
use Rattle.sheet.specs.Text.{text}
use Rattle.sheet.specs.Namespace.{qualified, role}
use Rattle.sheet.specs.Start.{own_start, start_of}
use Rattle.checks.specs.Checked.{verdict_number, checked}
use Rattle.bytecode.specs.declared.Receiver.TheVariants.{Local, Named, This}
use Rattle.bytecode.specs.declared.Root.TheVariants.{Temporary}
use Rattle.bytecode.specs.declared.Op.TheVariants.{EvalAst, LoadLocal, LoadNamed, LoadThis, Call, CallRef}
use Rattle.lowering.specs.Code.{Code, Ins, ins, no_pos}
use Rattle.lowering.specs.Pools.{Name, Pools, pools, emits, defeat, name, own_name, name_bytes, same_name, name_at, push_name, push_residual}
use Rattle.lowering.specs.Nodes.{Valid}
use Rattle.lowering.specs.Out.{Out, out, Rec}
use Rattle.lowering.specs.Operands.{operands}
use Rattle.lowering.specs.Slots.{resolve}
use Rattle.lowering.specs.Leaf.{variable}
use Rattle.lowering.specs.Call.{callee, plain_rule, call_rule, local, named, this, value, receiver, stores_token, lower_call_by, lower_call}
use Rattle.lowering.specs.Chain.{root_of, root_pools}
use Rattle.lowering.specs.Expression.{rule, by_rule}

-- each follows from the other
abbrev pub Both : Type 0 → Type 0 → Type 0
Both A B = (A → B) × (B → A)

-- the bytes `::` and `!`
abbrev pub colons : List ℕ
colons = 58 ∷ 58 ∷ []

abbrev pub exclamation : List ℕ
exclamation = 33 ∷ []

-- the name of text t in the namespace of text n
abbrev pub joined : ℕ → ℕ → ℕ → Name
joined n t mark = record { text = t; mark = mark; namespace = n + 1 }

-- the text of node j's namespace
abbrev pub space : List ℕ → ℕ → ℕ
space s j = namespace_word s j - 1

-- node j is of kind k, and its namespace is a text that has bytes
pub record OfModule (s : List ℕ) (k j : ℕ) : Type 0 where
  pub valid : Valid s j
  pub kind_is : kind s j ≡ k
  pub word : namespace_word s j ≡ 0 → ⊥
  pub bytes : text s (space s j) ≡ [] → ⊥

-- its name as it is pooled
abbrev pub module_name : List ℕ → ℕ → ℕ → Name
module_name s j mark = joined (space s j) (field_a s j) mark

-- entry i of the names has the bytes of n
abbrev pub Same : List ℕ → Name → Pools → ℕ → Type 0
Same s n p i = name_bytes s (get_or p.names i n) ≡ name_bytes s n

-- pools p with these names
abbrev pub with_names : List Name → Pools → Pools
with_names ns p = pools p.consts ns p.tokens p.residuals p.chains p.steps p.emitted p.defeated

-- what node j becomes at place b and depth d, with pools p, where `rec` lowers what is below it; that the definition does so is in Levels
abbrev pub lowered : List ℕ → Rec → Rec
lowered s rec j b d p = by_rule (rule s j) s rec j b d p

-- node j kept as it is
abbrev pub kept : ℕ → ℕ → Pools → Out
kept j d p = out (ins (EvalAst (length p.residuals)) d no_pos ∷ []) (emits 1 (push_residual j p))

-- the instructions `first`, then arguments, then one more instruction
abbrev pub around : Code → Out → Ins → Out
around first args last = out (first ++ args.code ++ (last ∷ [])) (emits 1 args.pools)

-- the four names with a meaning of their own
abbrev pub Keyword : List ℕ → Type 0
Keyword x = (x ≡ eval_name) ⊎ (x ≡ fn_name) ⊎ (x ≡ call_name) ⊎ (x ≡ curry_name)

-- What the call j becomes, o, where its name stands at i and p are the pools behind it. A receiver that is loaded is loaded before the other
-- arguments, at its own position, and nothing is moved.
pub record Called (s : List ℕ) (rec : Rec) (j b d i : ℕ) (p : Pools) (o : Out) : Type 0 where
  -- through a local: the other arguments, and CallRef
  pub local_first : (slot : ℕ) → receiver s j ≡ local slot
      → let others = operands s rec (count s j - 1) (next s (child j)) b d p in
      o ≡ around [] others (ins (CallRef i (count s j) (Local slot)) (d + (count s j - 1)) (position s j))
  -- through `this`: LoadThis, the other arguments, and CallRef
  pub this_first : receiver s j ≡ this
      → let load = ins LoadThis d (position s (child j)) in
      let others = operands s rec (count s j - 1) (next s (child j)) (b + 1) (suc d) (emits 1 p) in
      o ≡ around (load ∷ []) others (ins (CallRef i (count s j) This) (d + count s j) (position s j))
  -- through a name, which is pooled next: LoadNamed, the other arguments, and CallRef
  pub named_first : receiver s j ≡ named
      → let v = name (field_a s (child j)) 0 in
      let k = name_at s v p in
      let load = ins (LoadNamed k) d (position s (child j)) in
      let others = operands s rec (count s j - 1) (next s (child j)) (b + 1) (suc d) (emits 1 (push_name s v p)) in
      o ≡ around (load ∷ []) others (ins (CallRef i (count s j) (Named k)) (d + count s j) (position s j))
  -- through none: all arguments, and Call with the capture mark and no operator
  pub value_first : receiver s j ≡ value
      → let all = operands s rec (count s j) (child j) b d p in
      o ≡ around [] all (ins (Call i (count s j) 0 (field_b s j)) (d + count s j) (position s j))

-- a FnCall of a module
pub record ModuleCall (s : List ℕ) (j : ℕ) : Type 0 where
  -- its own position is where it starts; its capture mark is 0 or 1
  pub starts : start_of s j ≡ position s j
  pub mark : field_b s j ≤ 1
  -- `eval`, by its own name, is kept, and defeats the program
  pub eval : (rec : Rec) (b d : ℕ) (p : Pools) → callee s j ≡ eval_name → lowered s rec j b d p ≡ kept j d (defeat p)
  -- `Fn`, `call` and `curry`, by its own name, are kept, and any other with over 255 arguments; nothing of the arguments is lowered
  pub keyword : (rec : Rec) (b d : ℕ) (p : Pools) → (callee s j ≡ fn_name) ⊎ (callee s j ≡ call_name) ⊎ (callee s j ≡ curry_name)
      → lowered s rec j b d p ≡ kept j d p
  pub many : (rec : Rec) (b d : ℕ) (p : Pools) → 255 < count s j → (callee s j ≡ eval_name → ⊥) → lowered s rec j b d p ≡ kept j d p
  -- any other is called; its name, with `!` exactly if it captures, is pooled before all else
  pub called : (rec : Rec) (b d : ℕ) (p : Pools) → count s j ≤ 255 → (Keyword (callee s j) → ⊥)
      → let n = module_name s j (field_b s j) in
      Called s rec j b d (name_at s n p) (push_name s n p) (lowered s rec j b d p)

-- a Variable of a module
pub record ModuleVariable (s : List ℕ) (j : ℕ) : Type 0 where
  -- it becomes LoadNamed of its name at the namespace's position, and starts there
  pub loaded : (rec : Rec) (b d : ℕ) (p : Pools)
      → let n = module_name s j 0 in
      lowered s rec j b d p ≡ out (ins (LoadNamed (name_at s n p)) d (namespace_pos s j) ∷ []) (emits 1 (push_name s n p))
  pub starts : start_of s j ≡ namespace_pos s j
  -- it is no receiver of a call whose first argument it is
  pub no_receiver : (c : ℕ) → child c ≡ j → receiver s c ≡ value
  -- as a chain's root it is a value like any other, so that nothing is pooled for it before the steps
  pub root : (p : Pools) → root_of s j p ≡ Temporary
  pub root_unpooled : (p : Pools) → root_pools s j p ≡ p

-- A node without a namespace: all is as it would be without modules, and the position of a namespace says nothing.
pub record NoModule (s : List ℕ) (j : ℕ) : Type 0 where
  -- its name has none; as a call's receiver and a chain's root it goes by its kind; it starts at its own position if not inside
  pub name_is : (mark : ℕ) → own_name s j mark ≡ name (field_a s j) mark
  pub role_is : role s j ≡ kind s j
  pub start_is : own_start s j ≡ position s j
  -- a Variable is a local, or LoadNamed at its own position
  pub is_local : (slot d : ℕ) (p : Pools) → resolve s (text s (field_a s j)) ≡ some slot
      → variable s j d p ≡ out (ins (LoadLocal slot) d no_pos ∷ []) (emits 1 p)
  pub is_named : (d : ℕ) (p : Pools) → resolve s (text s (field_a s j)) ≡ none
      → let n = name (field_a s j) 0 in
      variable s j d p ≡ out (ins (LoadNamed (name_at s n p)) d (position s j) ∷ []) (emits 1 (push_name s n p))
  -- a FnCall goes by the rules of `Fn` and `call` too; any other is lowered as one without a namespace, and an operator is stored with 1 or 2
  -- arguments
  pub rule_is : call_rule s j ≡ plain_rule s j
  pub call_is : (rec : Rec) (b d : ℕ) (p : Pools) → lower_call s rec j b d p ≡ lower_call_by (receiver s j) s rec j b d p
  pub token_is : stores_token s j ≡ (not (eqb (field_c s j) 0) && (eqb (count s j) 1 || eqb (count s j) 2))

pub record Modules (s : List ℕ) : Type 0 where
  -- two names are one exactly if their bytes are the same
  pub names : (m n : Name) → Both (same_name s m n ≡ true) (name_bytes s m ≡ name_bytes s n)
  -- these are the bytes of the namespace, `::`, those of the name, and `!`
  pub bytes : (t : ℕ) → name_bytes s (name t 0) ≡ text s t
  pub bytes_marked : (t : ℕ) → name_bytes s (name t 1) ≡ text s t ++ exclamation
  pub bytes_joined : (n t : ℕ) → name_bytes s (joined n t 0) ≡ text s n ++ colons ++ text s t
  pub bytes_joined_marked : (n t : ℕ) → name_bytes s (joined n t 1) ≡ text s n ++ colons ++ text s t ++ exclamation
  -- a name stands where the first with its bytes is, and the pools stay as they are; or it is added at the end of the names
  pub pooled : (n : Name) (p : Pools) (i : ℕ) → i < length p.names → Same s n p i → ((k : ℕ) → k < i → Same s n p k → ⊥)
      → (name_at s n p ≡ i) × (push_name s n p ≡ p)
  pub pooled_new : (n : Name) (p : Pools) → ((k : ℕ) → k < length p.names → Same s n p k → ⊥)
      → (name_at s n p ≡ length p.names) × (push_name s n p ≡ with_names (p.names ++ (n ∷ [])) p)
  -- a node has a namespace exactly if it is a Variable or a FnCall whose namespace is a text that has bytes
  pub module_is : (j : ℕ) → Valid s j → Both (qualified s j ≡ true) (OfModule s variable_kind j ⊎ OfModule s fn_call_kind j)
  -- a node of another kind has both words 0; the position is 0 where there is no namespace; a namespace is one of the texts
  pub other_kinds : (j : ℕ) → Valid s j → (kind s j ≡ variable_kind → ⊥) → (kind s j ≡ fn_call_kind → ⊥)
      → (namespace_word s j ≡ 0) × (namespace_pos s j ≡ 0)
  pub no_position : (j : ℕ) → Valid s j → namespace_word s j ≡ 0 → namespace_pos s j ≡ 0
  pub word_within : (j : ℕ) → Valid s j → namespace_word s j ≤ text_count s
  -- a namespace of no bytes is none
  pub empty_is_none : (j : ℕ) → Valid s j → text s (space s j) ≡ [] → qualified s j ≡ false
  -- what becomes of a node without a namespace, and of a Variable and a FnCall of a module
  pub no_module : (j : ℕ) → qualified s j ≡ false → NoModule s j
  pub variable : (j : ℕ) → OfModule s variable_kind j → ModuleVariable s j
  pub call : (j : ℕ) → OfModule s fn_call_kind j → ModuleCall s j

-- what is to be proved, for every sheet that passes the check
abbrev pub Statement : Type 0
Statement = (s : List ℕ) → verdict_number (checked s) ≡ 0 → Modules s

-- FnCall gives good pools and instructions that name what is there.
use Prim.Native.Nat.{ℕ, suc, ◌+◌, ◌-◌, ◌≤◌, ◌<◌}
use mathlib.Core.Path.{◌≡◌, refl, subst}
use mathlib.Core.Bool as Truth
use mathlib.Core.Bool.{true, false, ◌&&◌, not, and-eq-true_iff}
use mathlib.Core.Option.{Option, none, some}
use mathlib.Core.List.{List, [], ◌∷◌}
use native.Mathlib.Omega.{arith}
use borrow.Author.Tests.{eqb-true, eqb-false, leb-true, not-true}
use lib.Dec.{eqb, leb}
use lib.ListN.{length}
use Rattle.text.specs.Keyword.{is_eval, is_fn, is_call}
use Rattle.sheet.specs.Sections.{text_count, local_count}
use Rattle.sheet.specs.Node.{kind, field_a, field_b, field_c, position, count, child, next}
use Rattle.sheet.specs.Text.{text}
use Rattle.sheet.specs.Namespace.{namespace, qualified, role}
use Rattle.sheet.proofs.NamespaceLaws.{role-kind}
use Rattle.bytecode.specs.declared.Receiver.{Receiver}
use Rattle.bytecode.specs.declared.Receiver.TheVariants as Receivers
use Rattle.bytecode.specs.declared.Op.{Op}
use Rattle.bytecode.specs.declared.Op.TheVariants as Ops
use Rattle.lowering.specs.Kinds.{variable_kind, this_kind}
use Rattle.lowering.specs.Limits.{max_args}
use Rattle.lowering.specs.Code.{ins}
use Rattle.lowering.specs.Pools.{Pools, emits, defeat, name, own_name, name_at, push_name, token_at, push_token}
use Rattle.lowering.specs.Out.{Out, Rec, out, and_then}
use Rattle.lowering.specs.Slots.{resolve}
use Rattle.lowering.specs.Operands.{operands}
use Rattle.lowering.specs.Call
use Rattle.lowering.specs.Call.{First, CallRule}
use Rattle.lowering.specs.Nodes.{Valid, Row}
use Rattle.lowering.proofs.NodesLaws.{row_first, row-others}
use Rattle.lowering.proofs.SoundCall.{lowerable-count}
use Rattle.image_made.proofs.Listed.{counts_for, ReceiverOk, OpOk, NameOk, PoolsOk, CodeOk}
use Rattle.image_made.proofs.Gives.{chains-more, receiver-more, Gives, GivesOut, GivesAll, gives_none, gives-seq, gives-behind}
use Rattle.image_made.proofs.Gives.{gives-code}
use Rattle.image_made.proofs.Gives.{gives-emits, gives-ins, gives_then}
use Rattle.image_made.proofs.GivesPools.{bare-name, name-pushed, name-there, token-pushed, token-there}
use Rattle.image_made.proofs.GivesLeaf.{slot-there, residual-gives}
use Rattle.image_made.proofs.GivesBranch.{operands-give}

-- what the check says of a call
pub record CallFacts (s : List ℕ) (j : ℕ) : Type 0 where
  pub valid : Valid s j
  pub args : Row s (count s j) (child j)
  pub named : field_a s j < text_count s
  pub space : namespace s j ≤ text_count s
  pub capture : field_b s j ≤ 1
  pub operator : field_c s j ≤ 65535
  pub first : 1 ≤ count s j → kind s (child j) ≡ variable_kind → field_a s (child j) < text_count s

-- setting the flag `defeated` changes no pool
defeat-gives : (s : List ℕ) (T : ℕ) (p : Pools) → PoolsOk s p → Gives s T p [] (defeat p)
unfolding defeat
defeat-gives s T p G = record {
  good = record {
    consts = G.consts;
    names = G.names;
    tokens = G.tokens;
    residuals = G.residuals;
    chains = chains-more s p (defeat p) (omega arith) refl G.chains;
    steps = G.steps;
  };
  more = omega arith;
  code = tt;
}

-- the Rotate that puts the receiver under the others
rotate-ok : (s : List ℕ) (T : ℕ) (q : Pools) (others d : ℕ) → others ≤ max_args → CodeOk s T q (Call.rotate others d)
unfolding Call.rotate
rotate-ok s T q others d h = by (eqb others 0) refl
  where
    by : (t : Truth.Bool) → eqb others 0 ≡ t → CodeOk s T q (Call.rotate others d)
    by true e = rw (e, Call.rotate) tt
    by false e = rw (e, Call.rotate) (h, tt)

-- counting instructions drops no name
named-emits : (i : ℕ) (q : Pools) (n : ℕ) → i < length q.names → i < length (emits n q).names
unfolding emits
named-emits i q n h = h

-- ---- what the rule of a call and its first argument say

module _ (s : List ℕ) (j : ℕ) where
  -- of the count of arguments
  abbrev RuleOk : CallRule → Type 0
  RuleOk CallRule.fn_ptr = count s j ≡ 1
  RuleOk CallRule.fn_ptr_call = count s j ≤ max_args + 1
  RuleOk CallRule.lowerable = count s j < 256
  RuleOk CallRule.eval = Prim.Unit {0}
  RuleOk CallRule.residual = Prim.Unit {0}

  -- how many arguments `Fn` and `call` have
  ptr-count : Call.is_fn_ptr s j ≡ true → count s j ≡ 1
  unfolding Call.is_fn_ptr
  ptr-count h = eqb-true (count s j) 1 ((and-eq-true_iff (is_fn (Call.callee s j)) (eqb (count s j) 1)).0 h).1

  ptr_call-count : Call.is_fn_ptr_call s j ≡ true → count s j ≤ max_args + 1
  unfolding Call.is_fn_ptr_call
  ptr_call-count h =
      let both = (and-eq-true_iff (is_call (Call.callee s j) && leb 1 (count s j)) (leb (count s j) (max_args + 1))).0 h in
      leb-true (count s j) (max_args + 1) both.1

  -- the rule of the node: of a call that is no `Fn` and no `call`, without a namespace, and of any
  general-ok : RuleOk (Call.general_rule s j)
  unfolding Call.general_rule
  general-ok = by (Call.is_lowerable_call s j) (is_eval (Call.callee s j)) refl refl
    where
      by : (l e : Truth.Bool) → Call.is_lowerable_call s j ≡ l → is_eval (Call.callee s j) ≡ e → RuleOk (Call.general_rule s j)
      by true e k m = rw (k, Call.general_rule) (lowerable-count s j k)
      by false true k m = rw (k, m, Call.general_rule) tt
      by false false k m = rw (k, m, Call.general_rule) tt

  plain-ok : RuleOk (Call.plain_rule s j)
  unfolding Call.plain_rule
  plain-ok = by (Call.is_fn_ptr s j) (Call.is_fn_ptr_call s j) refl refl
    where
      by : (a c : Truth.Bool) → Call.is_fn_ptr s j ≡ a → Call.is_fn_ptr_call s j ≡ c → RuleOk (Call.plain_rule s j)
      by true c g h = rw (g, Call.plain_rule) (ptr-count g)
      by false true g h = rw (g, h, Call.plain_rule) (ptr_call-count h)
      by false false g h = rw (g, h, Call.plain_rule) general-ok

  rule-ok : RuleOk (Call.call_rule s j)
  unfolding Call.call_rule
  rule-ok = by (qualified s j)
    where
      by : (t : Truth.Bool) → RuleOk (elim t as (λ u. CallRule) [ true ↦ Call.general_rule s j | false ↦ Call.plain_rule s j ])
      by true = general-ok
      by false = plain-ok

  -- of the first argument, where it is a receiver
  abbrev FirstOk : First → Type 0
  FirstOk (First.local slot) = (1 ≤ count s j) × (slot < local_count s)
  FirstOk First.named = (1 ≤ count s j) × (field_a s (child j) < text_count s)
  FirstOk First.this = 1 ≤ count s j
  FirstOk First.value = Prim.Unit {0}

  module _ (F : CallFacts s j) where
    variable-ok : 1 ≤ count s j → kind s (child j) ≡ variable_kind → FirstOk (Call.variable_first s (child j))
    unfolding Call.variable_first
    variable-ok a k = by (resolve s (text s (field_a s (child j)))) refl
      where
        by : (r : Option ℕ) → resolve s (text s (field_a s (child j))) ≡ r → FirstOk (Call.variable_first s (child j))
        by (some slot) e = rw (e, Call.variable_first) (a, slot-there s (text s (field_a s (child j))) slot e)
        by none e = rw (e, Call.variable_first) (a, F.first a k)

    first-ok : 1 ≤ count s j → FirstOk (Call.first_of s (child j))
    unfolding Call.first_of
    first-ok a = by (eqb (role s (child j)) this_kind) (eqb (role s (child j)) variable_kind) refl refl
      where
        by : (t v : Truth.Bool) → eqb (role s (child j)) this_kind ≡ t → eqb (role s (child j)) variable_kind ≡ v
            → FirstOk (Call.first_of s (child j))
        by true v e f = rw (e, Call.first_of) a
        by false true e f =
            let k = role-kind s (child j) (eqb-true (role s (child j)) variable_kind f) (omega arith) in
            rw (e, f, Call.first_of) (variable-ok a k)
        by false false e f = rw (e, f, Call.first_of) tt

    -- the first argument of the node
    receiver-ok : FirstOk (Call.receiver s j)
    unfolding Call.receiver
    receiver-ok = by (eqb (field_c s j) 0 && eqb (field_b s j) 0 && leb 1 (count s j)) refl
      where
        by : (t : Truth.Bool) → (eqb (field_c s j) 0 && eqb (field_b s j) 0 && leb 1 (count s j)) ≡ t → FirstOk (Call.receiver s j)
        by true h =
            let some = ((and-eq-true_iff (eqb (field_c s j) 0 && eqb (field_b s j) 0) (leb 1 (count s j))).0 h).1 in
            rw (h, Call.receiver) (first-ok (leb-true 1 (count s j) some))
        by false h = rw (h, Call.receiver) tt

-- ---- a call that is lowered

module _ (s : List ℕ) (T : ℕ) (rec : Rec) (L : GivesAll s T rec) (j : ℕ) (F : CallFacts s j) (few : count s j < 256) where
  -- the name, then the call, behind code that is right
  call_ref-gives : (r : Receiver) (d : ℕ) (p : Pools) (o : Out) → 1 ≤ count s j → ReceiverOk (counts_for s T o.pools) r → GivesOut s T p o
      → GivesOut s T p (Call.call_ref s j r d o)
  unfolding Call.call_ref
  call_ref-gives r d p o a h g =
      let n = name (field_a s j) 0 in
      let q = push_name s n o.pools in
      let pushed = name-pushed s T o.pools g.good n (bare-name s F.named) in
      let there = name-there s T o.pools g.good n (bare-name s F.named) in
      gives_then (out o.code q) (ins (Ops.CallRef (name_at s n o.pools) (count s j) r) d (position s j))
      (gives-behind g pushed)
      (there, a, few, receiver-more s T o.pools q pushed.more r h)

  call_as-gives : (op capture d : ℕ) (p : Pools) (o : Out) → capture ≤ 1 → op ≤ length o.pools.tokens → GivesOut s T p o
      → GivesOut s T p (Call.call_as s j op capture d o)
  unfolding Call.call_as
  call_as-gives op capture d p o k h g =
      let n = name (field_a s j) capture in
      let i = name_at s n o.pools in
      let pushed = name-pushed s T o.pools g.good n (F.named, k, omega arith) in
      gives_then (out o.code (push_name s n o.pools)) (ins (Ops.Call i (count s j) op capture) (d + count s j) (position s j))
      (gives-behind g pushed)
      (name-there s T o.pools g.good n (F.named, k, omega arith), few, k, omega (arith, h, pushed.more.tokens))

  -- the arguments behind the first
  others-give : (b d : ℕ) (p : Pools) → PoolsOk s p → GivesOut s T p (Call.other_args s rec j b d p)
  unfolding Call.other_args
  others-give b d p G = operands-give s T rec L (count s j - 1) (next s (child j)) b d p (row-others s (count s j) (child j) F.args) G

  -- a receiver in a local, by this, by name
  call_local-gives : (slot b d : ℕ) (p : Pools) → slot < local_count s → 1 ≤ count s j → PoolsOk s p
      → GivesOut s T p (Call.call_local s rec slot j b d p)
  unfolding Call.call_local
  call_local-gives slot b d p h a G =
      call_ref-gives (Receivers.Local slot) (d + (count s j - 1)) p (Call.other_args s rec j b d p) a h (others-give b d p G)

  call_this-gives : (b d : ℕ) (p : Pools) → 1 ≤ count s j → PoolsOk s p → GivesOut s T p (Call.call_this s rec j b d p)
  unfolding Call.call_this
  call_this-gives b d p a G =
      let load = ins Ops.LoadThis d (position s (child j)) in
      let h = gives-ins {T = T} load G tt in
      let o = Call.other_args s rec j (b + 1) (suc d) (emits 1 p) in
      call_ref-gives Receivers.This (d + count s j) p (out (load ∷ o.code) o.pools) a tt
      (gives-seq h (others-give (b + 1) (suc d) (emits 1 p) h.good))

  call_named-gives : (b d : ℕ) (p : Pools) → field_a s (child j) < text_count s → 1 ≤ count s j → PoolsOk s p
      → GivesOut s T p (Call.call_named s rec j b d p)
  unfolding Call.call_named and_then
  call_named-gives b d p h a G =
      let v = name (field_a s (child j)) 0 in
      let i = name_at s v p in
      let others = count s j - 1 in
      let pushed = name-pushed s T p G v (bare-name s h) in
      let o = Call.other_args s rec j b d (push_name s v p) in
      let q = o.pools in
      let g = others-give b d (push_name s v p) pushed.good in
      let there : i < length q.names = omega (arith, name-there s T p G v (bare-name s h), g.more.names) in
      let low : others ≤ max_args = omega arith in
      let last = ins (Ops.LoadNamed i) (d + others) (position s (child j)) ∷ Call.rotate others (d + count s j) in
      let rest = gives-code {T = T} {c' = last} (gives_none g.good) (λ z. (there, rotate-ok s T q others (d + count s j) low)) in
      call_ref-gives (Receivers.Named i) (d + count s j) p (and_then o last) a (named-emits i q (length last) there)
      (gives-emits (length last) (gives-seq pushed (gives-seq g rest)))

  -- a call by token, where there is one
  call_token-gives : (d : ℕ) (p : Pools) (o : Out) → (field_c s j ≡ 0 → ⊥) → GivesOut s T p o → GivesOut s T p (Call.call_token s j d o)
  unfolding Call.call_token
  call_token-gives d p o z g =
      let t = field_c s j in
      let low : 1 ≤ field_c s j = omega (arith, z) in
      let pushed = token-pushed s T o.pools g.good t (low, F.operator) in
      let there = token-there s T o.pools g.good t (low, F.operator) in
      call_as-gives (suc (token_at t o.pools)) 0 d p (out o.code (push_token t o.pools)) (omega arith) there (gives-behind g pushed)

  -- all arguments as values
  call_values-gives : (b d : ℕ) (p : Pools) → PoolsOk s p → GivesOut s T p (Call.call_values s rec j b d p)
  unfolding Call.call_values Call.stores_token
  call_values-gives b d p G =
      let g = operands-give s T rec L (count s j) (child j) b d p F.args G in
      by (operands s rec (count s j) (child j) b d p) refl g (Call.stores_token s j) refl
    where
      by : (o : Out) → operands s rec (count s j) (child j) b d p ≡ o → GivesOut s T p o → (t : Truth.Bool) → Call.stores_token s j ≡ t
          → GivesOut s T p (Call.call_values s rec j b d p)
      by o q g true e =
          let both = ((and-eq-true_iff (not (qualified s j) && not (eqb (field_c s j) 0)) _).0 e).0 in
          let z = not-true (eqb (field_c s j) 0) ((and-eq-true_iff (not (qualified s j)) (not (eqb (field_c s j) 0))).0 both).1 in
          rw (e, Call.call_values, q) (call_token-gives d p o (eqb-false (field_c s j) 0 z) g)
      by o q g false e = rw (e, Call.call_values, q) (call_as-gives 0 (field_b s j) d p o F.capture (omega arith) g)

  -- by the first argument
  lower_call_by-gives : (f : First) (b d : ℕ) (p : Pools) → FirstOk s j f → PoolsOk s p
      → GivesOut s T p (Call.lower_call_by f s rec j b d p)
  unfolding Call.lower_call_by
  lower_call_by-gives (First.local slot) b d p h G = call_local-gives slot b d p h.1 h.0 G
  lower_call_by-gives First.named b d p h G = call_named-gives b d p h.1 h.0 G
  lower_call_by-gives First.this b d p h G = call_this-gives b d p h G
  lower_call_by-gives First.value b d p h G = call_values-gives b d p G

  -- with a namespace the name is there: CallRef behind code that is right
  ref_at-gives : (i : ℕ) (r : Receiver) (d : ℕ) (p : Pools) (o : Out) → i < length o.pools.names → 1 ≤ count s j
      → ReceiverOk (counts_for s T o.pools) r → GivesOut s T p o → GivesOut s T p (Call.ref_at i s j r d o)
  unfolding Call.ref_at
  ref_at-gives i r d p o n a h g = gives_then o (ins (Ops.CallRef i (count s j) r) d (position s j)) g (n, a, few, h)

  -- the receiver, then the other arguments
  loaded_args-gives : (load : Op) (b d : ℕ) (p : Pools) → OpOk (counts_for s T p) load → PoolsOk s p
      → GivesOut s T p (Call.loaded_args load s rec j b d p)
  unfolding Call.loaded_args
  loaded_args-gives load b d p h G =
      let g = gives-ins {T = T} (ins load d (position s (child j))) G h in
      gives-seq g (others-give (b + 1) (suc d) (emits 1 p) g.good)

  -- a receiver by name
  qualified_named-gives : (i b d : ℕ) (p : Pools) → field_a s (child j) < text_count s → 1 ≤ count s j → i < length p.names → PoolsOk s p
      → GivesOut s T p (Call.qualified_named i s rec j b d p)
  unfolding Call.qualified_named
  qualified_named-gives i b d p h a n G =
      let v = name (field_a s (child j)) 0 in
      let k = name_at s v p in
      let q = push_name s v p in
      let ok : NameOk s v = bare-name s h in
      let pushed = name-pushed s T p G v ok in
      let there = name-there s T p G v ok in
      let g = loaded_args-gives (Ops.LoadNamed k) b d q there pushed.good in
      ref_at-gives i (Receivers.Named k) (d + count s j) p (Call.loaded_args (Ops.LoadNamed k) s rec j b d q)
      (omega (arith, n, pushed.more.names, g.more.names)) a (omega (arith, there, g.more.names)) (gives-seq pushed g)

  -- by the first argument
  qualified_by-gives : (f : First) (i b d : ℕ) (p : Pools) → FirstOk s j f → i < length p.names → PoolsOk s p
      → GivesOut s T p (Call.lower_qualified_by f i s rec j b d p)
  unfolding Call.lower_qualified_by Call.qualified_local Call.qualified_this Call.qualified_values
  qualified_by-gives (First.local slot) i b d p h n G =
      let g = others-give b d p G in
      ref_at-gives i (Receivers.Local slot) (d + (count s j - 1)) p (Call.other_args s rec j b d p) (omega (arith, n, g.more.names)) h.0 h.1
      g
  qualified_by-gives First.named i b d p h n G = qualified_named-gives i b d p h.1 h.0 n G
  qualified_by-gives First.this i b d p h n G =
      let g = loaded_args-gives Ops.LoadThis b d p tt G in
      ref_at-gives i Receivers.This (d + count s j) p (Call.loaded_args Ops.LoadThis s rec j b d p) (omega (arith, n, g.more.names)) h tt g
  qualified_by-gives First.value i b d p h n G =
      let g = operands-give s T rec L (count s j) (child j) b d p F.args G in
      gives_then (operands s rec (count s j) (child j) b d p) (ins (Ops.Call i (count s j) 0 (field_b s j)) (d + count s j) (position s j))
      g (omega (arith, n, g.more.names), few, F.capture, omega arith)

  lower_qualified-gives : (b d : ℕ) (p : Pools) → PoolsOk s p → GivesOut s T p (Call.lower_qualified s rec j b d p)
  unfolding Call.lower_qualified
  lower_qualified-gives b d p G =
      let n = own_name s j (field_b s j) in
      let ok : NameOk s n = (F.named, F.capture, omega (arith, F.space)) in
      let pushed = name-pushed s T p G n ok in
      let there = name-there s T p G n ok in
      gives-seq pushed
      (qualified_by-gives (Call.receiver s j) (name_at s n p) b d (push_name s n p) (receiver-ok s j F) there pushed.good)

  -- with or without a namespace
  lower_call-gives : (b d : ℕ) (p : Pools) → PoolsOk s p → GivesOut s T p (Call.lower_call s rec j b d p)
  unfolding Call.lower_call
  lower_call-gives b d p G = by (qualified s j)
    where
      by : (t : Truth.Bool)
          → GivesOut s T p (elim t as (λ u. Out) [
            | true ↦ Call.lower_qualified s rec j b d p
            | false ↦ Call.lower_call_by (Call.receiver s j) s rec j b d p
          ])
      by true = lower_qualified-gives b d p G
      by false = lower_call_by-gives (Call.receiver s j) b d p (receiver-ok s j F) G

-- ---- any call

module _ (s : List ℕ) (T : ℕ) (rec : Rec) (L : GivesAll s T rec) (j : ℕ) (F : CallFacts s j) where
  -- by the rule
  fn_call_by-gives : (r : CallRule) (b d : ℕ) (p : Pools) → RuleOk s j r → PoolsOk s p → GivesOut s T p (Call.fn_call_by r s rec j b d p)
  unfolding Call.fn_call_by Call.make_fn_ptr Call.call_fn_ptr
  fn_call_by-gives CallRule.fn_ptr b d p h G =
      let v = row_first (subst (λ (n : ℕ). Row s n (child j)) h F.args) in
      gives_then (rec (child j) b d p) (ins Ops.MakeFnPtr (suc d) (position s (child j))) (L.gives (child j) b d p v G) tt
  fn_call_by-gives CallRule.fn_ptr_call b d p h G =
      let few : count s j - 1 ≤ max_args = omega arith in
      let call = ins (Ops.CallFnPtr (count s j - 1) (field_b s j)) (d + count s j) (position s j) in
      gives_then (operands s rec (count s j) (child j) b d p) call
      (operands-give s T rec L (count s j) (child j) b d p F.args G) (few, F.capture)
  fn_call_by-gives CallRule.lowerable b d p h G = lower_call-gives s T rec L j F h b d p G
  fn_call_by-gives CallRule.eval b d p h G =
      let g = defeat-gives s T p G in
      gives-seq g (residual-gives s T (defeat p) g.good j d F.valid)
  fn_call_by-gives CallRule.residual b d p h G = residual-gives s T p G j d F.valid

  -- the node
  pub fn_call-gives : (b d : ℕ) (p : Pools) → PoolsOk s p → GivesOut s T p (Call.fn_call s rec j b d p)
  unfolding Call.fn_call
  fn_call-gives b d p G = fn_call_by-gives (Call.call_rule s j) b d p (rule-ok s j) G

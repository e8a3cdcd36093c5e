-- FnCall: a call takes its arguments off and leaves its result.
use Prim.Native.Nat.{ℕ, suc, ◌+◌, ◌-◌, ◌≤◌, ◌<◌}
use mathlib.Core.Path.{◌≡◌, refl}
use mathlib.Core.Bool.{Bool, true, false, ◌&&◌, not, and-eq-true_iff}
use mathlib.Core.List.{List, ◌∷◌}
use lib.Dec.{leb, eqb}
use native.Mathlib.Omega.{arith}
use borrow.Author.Tests.{leb-true}
use Rattle.text.specs.Keyword.{is_call, is_eval}
use Rattle.sheet.specs.Node.{count, field_a, field_b, field_c, position, child, next}
use Rattle.sheet.specs.Namespace.{qualified}
use Rattle.bytecode.specs.declared.Receiver.{Receiver}
use Rattle.bytecode.specs.declared.Receiver.TheVariants.{Local, Named, This}
use Rattle.bytecode.specs.declared.Op.{Op}
use Rattle.bytecode.specs.declared.Op.TheVariants.{LoadNamed, LoadThis, Call, CallRef, Rotate, MakeFnPtr, CallFnPtr}
use Rattle.lowering.specs.Limits.{max_args}
use Rattle.lowering.specs.Code.{ins, no_pos}
use Rattle.lowering.specs.Pools.{Pools, emits, defeat, name, own_name, name_at, push_name, token_at, push_token}
use Rattle.lowering.specs.Out.{Out, out, Rec, and_then}
use Rattle.lowering.specs.Operands.{operands}
use Rattle.lowering.specs.Call.{callee, syntactic, is_lowerable_call, CallRule, fn_ptr, fn_ptr_call, lowerable, eval, residual, is_fn_ptr}
use Rattle.lowering.specs.Call.{is_fn_ptr_call, general_rule, plain_rule, call_rule, make_fn_ptr, call_fn_ptr, First, local, named, this}
use Rattle.lowering.specs.Call.{value, first_of, receiver, other_args, call_ref, call_local, call_this, rotate, call_named, stores_token}
use Rattle.lowering.specs.Call.{call_as, call_token, call_values, lower_call_by, ref_at, loaded_args, qualified_local, qualified_this}
use Rattle.lowering.specs.Call.{qualified_named, qualified_values, lower_qualified_by, lower_qualified, lower_call, fn_call_by, fn_call}
use Rattle.bytecode.specs.declared.Chain.{Chain}
use Rattle.lowering.proofs.Effect.{ref_pops}
use Rattle.lowering.proofs.Typed.{Nothing}
use Rattle.lowering.proofs.Meets.{Meets}
use Rattle.lowering.proofs.Lowers.{Lowers, Done, Straight, lowers-none, lowers-seq, lowers-one, lowers-to, done-then, meets_at}
use Rattle.lowering.proofs.SoundLeaf.{residual-done}
use Rattle.lowering.proofs.SoundOperands.{operands-done}

-- what a call's rule says of the count of its arguments
abbrev Allows : CallRule → ℕ → Type 0
Allows fn_ptr n = Prim.Unit {0}
Allows fn_ptr_call n = 1 ≤ n
Allows lowerable n = n < 256
Allows eval n = Prim.Unit {0}
Allows residual n = Prim.Unit {0}

-- a receiver is an argument
abbrev Takes : First → ℕ → Type 0
Takes (local slot) n = 1 ≤ n
Takes named n = 1 ≤ n
Takes this n = 1 ≤ n
Takes value n = Prim.Unit {0}

module _ (s : List ℕ) (j : ℕ) where
  fn_ptr_call-count : is_fn_ptr_call s j ≡ true → 1 ≤ count s j
  unfolding is_fn_ptr_call
  fn_ptr_call-count h =
      let both = (and-eq-true_iff (is_call (callee s j) && leb 1 (count s j)) (leb (count s j) (max_args + 1))).0 h in
      leb-true 1 (count s j) ((and-eq-true_iff (is_call (callee s j)) (leb 1 (count s j))).0 both.0).1

  pub lowerable-count : is_lowerable_call s j ≡ true → count s j < 256
  unfolding is_lowerable_call
  lowerable-count h =
      let le = leb-true (count s j) max_args ((and-eq-true_iff (leb (count s j) max_args) (not (syntactic (callee s j)))).0 h).0 in
      omega arith

  general-allows : Allows (general_rule s j) (count s j)
  unfolding general_rule
  general-allows = by (is_lowerable_call s j) (is_eval (callee s j)) refl refl
    where
      by : (l e : Bool) → is_lowerable_call s j ≡ l → is_eval (callee s j) ≡ e → Allows (general_rule s j) (count s j)
      by true e k m = rw (k, general_rule) (lowerable-count k)
      by false true k m = rw (k, m, general_rule) tt
      by false false k m = rw (k, m, general_rule) tt

  plain-allows : Allows (plain_rule s j) (count s j)
  unfolding plain_rule
  plain-allows = by (is_fn_ptr s j) (is_fn_ptr_call s j) refl refl
    where
      by : (a c : Bool) → is_fn_ptr s j ≡ a → is_fn_ptr_call s j ≡ c → Allows (plain_rule s j) (count s j)
      by true c g h = rw (g, plain_rule) tt
      by false true g h = rw (g, h, plain_rule) (fn_ptr_call-count h)
      by false false g h = rw (g, h, plain_rule) general-allows

  rule-allows : Allows (call_rule s j) (count s j)
  unfolding call_rule
  rule-allows = by _
    where
      by : (t : Bool) → Allows (elim t as (λ u. CallRule) [ true ↦ general_rule s j | false ↦ plain_rule s j ]) (count s j)
      by true = general-allows
      by false = plain-allows

  any-takes : (f : First) → 1 ≤ count s j → Takes f (count s j)
  any-takes (local slot) h = h
  any-takes named h = h
  any-takes this h = h
  any-takes value h = tt

  receiver-takes : Takes (receiver s j) (count s j)
  unfolding receiver
  receiver-takes = by (eqb (field_c s j) 0 && eqb (field_b s j) 0 && leb 1 (count s j)) refl
    where
      by : (t : Bool) → (eqb (field_c s j) 0 && eqb (field_b s j) 0 && leb 1 (count s j)) ≡ t → Takes (receiver s j) (count s j)
      by true h =
          rw (h, receiver) (any-takes (first_of s (child j))
          (leb-true 1 (count s j) ((and-eq-true_iff (eqb (field_c s j) 0 && eqb (field_b s j) 0) (leb 1 (count s j))).0 h).1))
      by false h = rw (h, receiver) tt

other_args-done : (s : List ℕ) (rec : Rec) → Meets rec → (j b d : ℕ) (p : Pools)
    → Done p b d (d + (count s j - 1)) (other_args s rec j b d p)
unfolding other_args
other_args-done s rec M j b d p = operands-done s rec M (count s j - 1) (next s (child j)) b d p

-- the other arguments stay below
rotate-lowers : {x : List Chain} {b : ℕ} (others e : ℕ) → others + 1 ≤ e → Lowers Nothing x b e e (rotate others e) x
unfolding rotate
rotate-lowers {x} {b} others e h = by (eqb others 0) refl
  where
    by : (t : Bool) → eqb others 0 ≡ t → Lowers Nothing x b e e (rotate others e) x
    by true k = rw (k, rotate) lowers-none
    by false k = rw (k, rotate) (lowers-one (ins (Rotate others) e no_pos) refl (λ X A N q g end le. omega arith))

-- a call with a namespace, its name being pooled
module _ (s : List ℕ) (rec : Rec) (M : Meets rec) (j b d : ℕ) (p : Pools) where
  -- CallRef behind code that ends at depth e, where it finds its arguments
  ref_at-done : (i : ℕ) (r : Receiver) (e f : ℕ) (o : Out) → count s j < 256 → ref_pops (count s j) r + f ≡ e → Done p b d e o
      → Done p b d (suc f) (ref_at i s j r e o)
  unfolding ref_at
  ref_at-done i r e f o h k g =
      done-then o (ins (CallRef i (count s j) r) e (position s j)) refl (λ X A N q u end le. omega arith) g

  -- the receiver, then the other arguments
  loaded_args-done : (load : Op) → 1 ≤ count s j → Straight p.chains (suc d) (ins load d (position s (child j)))
      → Done p b d (d + count s j) (loaded_args load s rec j b d p)
  unfolding loaded_args emits
  loaded_args-done load h f =
      lowers-seq
      (lowers-one {e = suc d} (ins load d (position s (child j))) refl f)
      (lowers-to (omega arith) (other_args-done s rec M j (b + 1) (suc d) (emits 1 p)))

  qualified_local-done : (i slot : ℕ) → count s j < 256 → Done p b d (suc d) (qualified_local i s rec slot j b d p)
  unfolding qualified_local
  qualified_local-done i slot h =
      ref_at-done i (Local slot) (d + (count s j - 1)) d (other_args s rec j b d p) h (omega arith) (other_args-done s rec M j b d p)

  qualified_this-done : (i : ℕ) → 1 ≤ count s j → count s j < 256 → Done p b d (suc d) (qualified_this i s rec j b d p)
  unfolding qualified_this
  qualified_this-done i h k =
      ref_at-done i This (d + count s j) d (loaded_args LoadThis s rec j b d p) k (omega arith)
      (loaded_args-done LoadThis h (λ X A N q g end le. omega arith))

  qualified_values-done : (i : ℕ) → count s j < 256 → Done p b d (suc d) (qualified_values i s rec j b d p)
  unfolding qualified_values
  qualified_values-done i h =
      done-then (operands s rec (count s j) (child j) b d p)
      (ins (Call i (count s j) 0 (field_b s j)) (d + count s j) (position s j))
      refl
      (λ X A N q g end le. omega arith)
      (operands-done s rec M (count s j) (child j) b d p)

module _ (s : List ℕ) (rec : Rec) (M : Meets rec) (j b d : ℕ) (p : Pools) where
  qualified_named-done : (i : ℕ) → 1 ≤ count s j → count s j < 256 → Done p b d (suc d) (qualified_named i s rec j b d p)
  unfolding qualified_named push_name
  qualified_named-done i h k =
      let v = name (field_a s (child j)) 0 in
      let at = name_at s v p in
      let q = push_name s v p in
      ref_at-done s rec M j b d q i (Named at) (d + count s j) d (loaded_args (LoadNamed at) s rec j b d q) k (omega arith)
      (loaded_args-done s rec M j b d q (LoadNamed at) h (λ X A N q g end le. omega arith))

  lower_qualified_by-done : (f : First) (i : ℕ) → Takes f (count s j) → count s j < 256
      → Done p b d (suc d) (lower_qualified_by f i s rec j b d p)
  unfolding lower_qualified_by
  lower_qualified_by-done (local slot) i t h = qualified_local-done s rec M j b d p i slot h
  lower_qualified_by-done named i t h = qualified_named-done i t h
  lower_qualified_by-done this i t h = qualified_this-done s rec M j b d p i t h
  lower_qualified_by-done value i t h = qualified_values-done s rec M j b d p i h

module _ (s : List ℕ) (rec : Rec) (M : Meets rec) (j b d : ℕ) (p : Pools) where
  make_fn_ptr-done : Done p b d (suc d) (make_fn_ptr s rec j b d p)
  unfolding make_fn_ptr
  make_fn_ptr-done =
      done-then (rec (child j) b d p) (ins MakeFnPtr (suc d) (position s (child j))) refl (λ X A N q g end le. omega arith)
      (meets_at M (child j) b d p)

  call_fn_ptr-done : 1 ≤ count s j → Done p b d (suc d) (call_fn_ptr s rec j b d p)
  unfolding call_fn_ptr
  call_fn_ptr-done h =
      done-then (operands s rec (count s j) (child j) b d p)
      (ins (CallFnPtr (count s j - 1) (field_b s j)) (d + count s j) (position s j))
      refl
      (λ X A N q g end le. omega arith)
      (operands-done s rec M (count s j) (child j) b d p)

  -- CallRef behind code that ends at depth e, where it finds its arguments
  call_ref-done : (r : Receiver) (e f : ℕ) (o : Out) → count s j < 256 → ref_pops (count s j) r + f ≡ e → Done p b d e o
      → Done p b d (suc f) (call_ref s j r e o)
  unfolding call_ref push_name
  call_ref-done r e f o h k g =
      let n = name (field_a s j) 0 in
      done-then (out o.code (push_name s n o.pools))
      (ins (CallRef (name_at s n o.pools) (count s j) r) e (position s j))
      refl
      (λ X A N q u end le. omega arith)
      g

  call_local-done : (slot : ℕ) → count s j < 256 → Done p b d (suc d) (call_local s rec slot j b d p)
  unfolding call_local
  call_local-done slot h =
      call_ref-done (Local slot) (d + (count s j - 1)) d (other_args s rec j b d p) h (omega arith) (other_args-done s rec M j b d p)

  call_this-done : 1 ≤ count s j → count s j < 256 → Done p b d (suc d) (call_this s rec j b d p)
  unfolding call_this emits
  call_this-done h k =
      let o = other_args s rec j (b + 1) (suc d) (emits 1 p) in
      let load = ins LoadThis d (position s (child j)) in
      call_ref-done This (d + count s j) d (out (load ∷ o.code) o.pools) k (omega arith)
      (lowers-seq
      (lowers-one {e = suc d} load refl (λ X A N q g end le. omega arith))
      (lowers-to (omega arith) (other_args-done s rec M j (b + 1) (suc d) (emits 1 p))))

  call_named-done : 1 ≤ count s j → count s j < 256 → Done p b d (suc d) (call_named s rec j b d p)
  unfolding call_named and_then emits push_name
  call_named-done h k =
      let v = name (field_a s (child j)) 0 in
      let i = name_at s v p in
      let n = count s j - 1 in
      let o = other_args s rec j b d (push_name s v p) in
      let load = ins (LoadNamed i) (d + n) (position s (child j)) in
      call_ref-done (Named i) (d + count s j) d (and_then o (load ∷ rotate n (d + count s j))) k (omega arith)
      (lowers-seq
      (other_args-done s rec M j b d (push_name s v p))
      (lowers-seq
      (lowers-one load refl (λ X A N q g end le. omega arith))
      (rotate-lowers n (d + count s j) (omega arith))))

  -- Call behind all arguments
  call_as-done : (op capture : ℕ) (o : Out) → count s j < 256 → Done p b d (d + count s j) o
      → Done p b d (suc d) (call_as s j op capture d o)
  unfolding call_as push_name
  call_as-done op capture o h g =
      let n = name (field_a s j) capture in
      done-then (out o.code (push_name s n o.pools))
      (ins (Call (name_at s n o.pools) (count s j) op capture) (d + count s j) (position s j))
      refl
      (λ X A N q u end le. omega arith)
      g

  call_token-done : (o : Out) → count s j < 256 → Done p b d (d + count s j) o → Done p b d (suc d) (call_token s j d o)
  unfolding call_token push_token
  call_token-done o h g = call_as-done (suc (token_at (field_c s j) o.pools)) 0 (out o.code (push_token (field_c s j) o.pools)) h g

  call_values-done : count s j < 256 → Done p b d (suc d) (call_values s rec j b d p)
  unfolding call_values
  call_values-done h = by (stores_token s j) refl
    where
      by : (t : Bool) → stores_token s j ≡ t → Done p b d (suc d) (call_values s rec j b d p)
      by true k =
          rw (k, call_values)
          (call_token-done (operands s rec (count s j) (child j) b d p) h (operands-done s rec M (count s j) (child j) b d p))
      by false k =
          rw (k, call_values) (call_as-done 0 (field_b s j) (operands s rec (count s j) (child j) b d p) h
          (operands-done s rec M (count s j) (child j) b d p))

  lower_call_by-done : (f : First) → Takes f (count s j) → count s j < 256 → Done p b d (suc d) (lower_call_by f s rec j b d p)
  unfolding lower_call_by
  lower_call_by-done (local slot) t h = call_local-done slot h
  lower_call_by-done named t h = call_named-done t h
  lower_call_by-done this t h = call_this-done t h
  lower_call_by-done value t h = call_values-done h

  lower_qualified-done : count s j < 256 → Done p b d (suc d) (lower_qualified s rec j b d p)
  unfolding lower_qualified push_name
  lower_qualified-done h =
      let n = own_name s j (field_b s j) in
      lower_qualified_by-done s rec M j b d (push_name s n p) (receiver s j) (name_at s n p) (receiver-takes s j) h

  lower_call-done : count s j < 256 → Done p b d (suc d) (lower_call s rec j b d p)
  unfolding lower_call
  lower_call-done h = by (qualified s j)
    where
      by : (t : Bool)
          → Done p b d (suc d) (elim t as (λ u. Out) [
            | true ↦ lower_qualified s rec j b d p
            | false ↦ lower_call_by (receiver s j) s rec j b d p
          ])
      by true = lower_qualified-done h
      by false = lower_call_by-done (receiver s j) (receiver-takes s j) h

  fn_call_by-done : (r : CallRule) → Allows r (count s j) → Done p b d (suc d) (fn_call_by r s rec j b d p)
  unfolding fn_call_by defeat
  fn_call_by-done fn_ptr a = make_fn_ptr-done
  fn_call_by-done fn_ptr_call a = call_fn_ptr-done a
  fn_call_by-done lowerable a = lower_call-done a
  fn_call_by-done eval a = residual-done j b d (defeat p)
  fn_call_by-done residual a = residual-done j b d p

  pub fn_call-done : Done p b d (suc d) (fn_call s rec j b d p)
  unfolding fn_call
  fn_call-done = fn_call_by-done (call_rule s j) (rule-allows s j)

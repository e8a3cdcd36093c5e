-- Calls, step by step: what comes before the arguments and behind them.
use Rattle.std.proofs.Common.{◌≡◌, ℕ, suc, ◌+◌, ◌-◌, ◌<◌, true, false, eqb, List, sym, refl, ap, ap₂, ◌∙◌, subst, arith, eq-eqb, ne_eqb, ◌⊎◌, inl, inr}
use Rattle.lowering.proofs.FirstLaws.{first-within}
use Rattle.scratch_store.proofs.GrowingLaws.{growing-emit}
use Rattle.sheet.specs.Node.{count, field_a, field_b, field_c, position, child}
use Rattle.bytecode.specs.declared.Receiver.{Receiver}
use Rattle.bytecode.specs.declared.Receiver.TheVariants as Receivers
use Rattle.bytecode.specs.declared.Op.TheVariants.{LoadNamed, LoadThis, Call, CallRef, Rotate, MakeFnPtr, CallFnPtr}
use Rattle.lowering.specs.Pools.{Name, name, name_at, push_name, emits, token_at}
use Rattle.lowering.specs.Call.{stores_token}
use Rattle.scratch_keys.specs.Keys.{key_of, name_of}
use Rattle.scratch_keys.specs.Used.{TokenKey, NameKey}
use Rattle.expr_model.specs.Made.{Made, emit, add_name, add_token, defeated, residual}
use Rattle.expr_model.specs.Construct.{call_ref, rotate, call_as, call_token, call_end, add_own, load_first, ref_at, values_at}
use Rattle.expr_model.proofs.Growing.{ref-grows, rotate-grows, as-grows}
use Rattle.scratch.specs.declared.Layout.{Layout}
use Rattle.scratch_store.specs.declared.State.{State}
use Rattle.scratch_store.specs.Holds.{Holds}
use Rattle.scratch_store.proofs.HoldsLaws.{tokens-few}
use Rattle.scratch_store.proofs.ResidualLaws.{defeated-holds}
use Rattle.scratch_store.specs.Does.{Fits, Growing, Does}
use Rattle.scratch_store.proofs.DoesLaws.{does-seq, does-none}
use Rattle.expr_emit.specs.declared.calls.Way.{Way}
use Rattle.expr_emit.specs.declared.calls.Way.TheVariants.{FnPtr, FnPtrCall, Local, Named, This, Value, Eval, Kept, InLocal, InNamed, InThis}
use Rattle.expr_emit.specs.declared.calls.Way.TheVariants.{InValue}
use Rattle.expr_emit.specs.declared.calls.Opened.{Opened}
use Rattle.expr_emit.specs.Plain.{Plain}
use Rattle.expr_emit.specs.Ways.{at_places, nowhere, own_at, first_at, opened, opened_at, close_named, closed}
use Rattle.expr_emit.specs.WayFacts.{Facts, Calls, Qualifies, QualifiedNames}
use Rattle.expr_emit.proofs.Doing.{does-placed, does_at}

-- a token's place is far below the greatest word
token-low : {s : List ℕ} {l : Layout} {xs : List ℕ} {st : State} (t : ℕ) (a : Made) → Holds s l xs st a → token_at t a.pools < 4294967295
unfolding token_at
token-low t a h = omega (arith, first-within (eqb t) a.pools.tokens, tokens-few h)

module _ {s : List ℕ} {l : Layout} {xs ys zs : List ℕ} {st q r : State} {at : ℕ} (j : ℕ) where
  -- the name of node j, and then E of its place
  named-does : (n : Name) (E : ℕ → Made → Made) → Growing (E at) → name_of s (key_of j 0) ≡ n
      → ((a : Made) → Holds s l xs st a → at ≡ name_at s (name_of s (key_of j 0)) a.pools)
      → Does s l xs st ys q (add_name s (name_of s (key_of j 0))) → Does s l ys q zs r (E at)
      → Does s l xs st zs r (λ a. E (name_at s n a.pools) (add_name s n a))
  named-does n E grows is found d e =
      does-placed {place = λ (a : Made). name_at s n a.pools} E grows
      (subst (λ (m : Name). (a : Made) → Holds s l xs st a → at ≡ name_at s m a.pools) is found)
      (does_at (add_name s) is d)
      e

  pub call-ref-does : (by : Receiver) → Plain s j
      → ((a : Made) → Holds s l xs st a → at ≡ name_at s (name_of s (key_of j 0)) a.pools)
      → Does s l xs st ys q (add_name s (name_of s (key_of j 0))) → Does s l ys q zs r (ref_at at s j by)
      → Does s l xs st zs r (call_ref s j by)
  unfolding call_ref ref_at
  call-ref-does by plain found d e =
      named-does (name (field_a s j) 0) (λ (i : ℕ). emit (CallRef i (count s j) by) (position s j) 0)
      (growing-emit (CallRef at (count s j) by) (position s j) 0) plain found d e

  pub call-as-does : (n pos op capture : ℕ) → name_of s (key_of j 0) ≡ name (field_a s j) capture → n ≡ count s j → pos ≡ position s j
      → ((a : Made) → Holds s l xs st a → at ≡ name_at s (name_of s (key_of j 0)) a.pools)
      → Does s l xs st ys q (add_name s (name_of s (key_of j 0))) → Does s l ys q zs r (emit (Call at n op capture) pos 0)
      → Does s l xs st zs r (call_as s j op capture)
  unfolding call_as
  call-as-does n pos op capture is counts at-pos found d e =
      named-does (name (field_a s j) capture) (λ (i : ℕ). emit (Call i (count s j) op capture) (position s j) 0)
      (growing-emit (Call at (count s j) op capture) (position s j) 0) is found d
      (does_at (λ (p : ℕ). emit (Call at (count s j) op capture) p 0) at-pos
      (does_at (λ (m : ℕ). emit (Call at m op capture) pos 0) counts e))

  pub call-token-does : (op : ℕ) → (at < 4294967295 → op ≡ at + 1) → ((a : Made) → Holds s l xs st a → at ≡ token_at (field_c s j) a.pools)
      → Does s l xs st ys q (add_token (field_c s j)) → Does s l ys q zs r (call_as s j op 0) → Does s l xs st zs r (call_token s j)
  unfolding call_token
  call-token-does op more found d e =
      does-placed {place = λ (a : Made). suc (token_at (field_c s j) a.pools)} (λ (i : ℕ). call_as s j i 0)
      (record { each = as-grows s j op 0 })
      (λ a h.
      let low = token-low (field_c s j) a h in
      let is = found a h in
      let one = more (omega arith) in
      omega arith)
      d
      e

module _ {s : List ℕ} {l : Layout} {xs ys zs us : List ℕ} {st q t r : State} (j at : ℕ) where
  pub close-named-does : (n pos : ℕ) → n ≡ count s j - 1 → pos ≡ position s (child j) → Does s l xs st ys q (emit (LoadNamed at) pos 0)
      → Does s l ys q zs t (rotate n) → Does s l zs t us r (call_ref s j (Receivers.Named at)) → Does s l xs st us r (close_named s j at)
  unfolding close_named
  close-named-does n pos others at-pos d e f =
      does-seq (record { each = ref-grows s j (Receivers.Named at) })
      (does-seq (record { each = rotate-grows (count s j - 1) }) (does_at (λ (p : ℕ). emit (LoadNamed at) p 0) at-pos d)
      (does_at rotate others e))
      f

pub rotate-none : {s : List ℕ} {l : Layout} {xs : List ℕ} {st : State} (n : ℕ) → n ≡ 0 → Does s l xs st xs st (rotate n)
unfolding rotate
rotate-none {s} {l} {xs} {st} n h = rw (eq-eqb n 0 h, rotate) (does-none xs st)

module _ {s : List ℕ} {l : Layout} {xs ys : List ℕ} {st r : State} where
  pub rotate-some : (n : ℕ) → 0 < n → Does s l xs st ys r (emit (Rotate n) 0 0) → Does s l xs st ys r (rotate n)
  unfolding rotate
  rotate-some n h d = let k : eqb n 0 ≡ false = ne_eqb n 0 (λ e. omega arith) in rw (k, rotate) d

  module _ (j : ℕ) where
    pub call-end-token : stores_token s j ≡ true
        → (Plain s j → count s j < 256 → NameKey s (key_of j 0) → TokenKey s j → Does s l xs st ys r (call_token s j)) → Calls s j
        → Does s l xs st ys r (call_end s j)
    unfolding call_end
    call-end-token h d f = rw (h, call_end) (d (f.tokened h) f.few f.key f.token)

    pub call-end-plain : (b : ℕ) → stores_token s j ≡ false → b ≡ field_b s j
        → (name_of s (key_of j 0) ≡ name (field_a s j) b → count s j < 256 → b < 2 → NameKey s (key_of j 0)
        → Does s l xs st ys r (call_as s j 0 b))
        → Calls s j → Does s l xs st ys r (call_end s j)
    unfolding call_end
    call-end-plain b h e d f =
        let marked = f.marked h ∙ ap (name (field_a s j)) (sym e) in
        let low = subst (λ (m : ℕ). m < 2) (sym e) f.capture in
        rw (h, call_end) (does_at (call_as s j 0) e (d marked f.few low f.key))

    pub close-pointer-does : (n b pos : ℕ) → n ≡ count s j - 1 → b ≡ field_b s j → pos ≡ position s j
        → Does s l xs st ys r (emit (CallFnPtr n b) pos 0) → Does s l xs st ys r (closed FnPtrCall s j nowhere)
    unfolding closed
    close-pointer-does n b pos counts captures at-pos d =
        does_at (λ (p : ℕ). emit (CallFnPtr (count s j - 1) (field_b s j)) p 0) at-pos
        (does_at (λ (c : ℕ). emit (CallFnPtr (count s j - 1) c) pos 0) captures (does_at (λ (m : ℕ). emit (CallFnPtr m b) pos 0) counts d))

    -- CallRef and Call, with the call's name at place i
    pub ref-at-does : (i n pos : ℕ) (by : Receiver) → n ≡ count s j → pos ≡ position s j → Does s l xs st ys r (emit (CallRef i n by) pos 0)
        → Does s l xs st ys r (ref_at i s j by)
    unfolding ref_at
    ref-at-does i n pos by counts at-pos d =
        does_at (λ (p : ℕ). emit (CallRef i (count s j) by) p 0) at-pos (does_at (λ (m : ℕ). emit (CallRef i m by) pos 0) counts d)

    pub values-at-does : (i n b pos : ℕ) → n ≡ count s j → b ≡ field_b s j → pos ≡ position s j
        → Does s l xs st ys r (emit (Call i n 0 b) pos 0) → Does s l xs st ys r (values_at i s j)
    unfolding values_at
    values-at-does i n b pos counts captures at-pos d =
        does_at (λ (p : ℕ). emit (Call i (count s j) 0 (field_b s j)) p 0) at-pos
        (does_at (λ (c : ℕ). emit (Call i (count s j) 0 c) pos 0) captures (does_at (λ (m : ℕ). emit (Call i m 0 b) pos 0) counts d))

-- ---- what comes behind the arguments, by the way

module _ {s : List ℕ} {l : Layout} {xs ys : List ℕ} {st r : State} (w : Way) (j : ℕ) (at : Opened) where
  -- a way by its equation
  close_at : (v : Way) → w ≡ v → (Facts v s j → Does s l xs st ys r (closed v s j at)) → Facts w s j → Does s l xs st ys r (closed w s j at)
  close_at v e d = subst (λ (k : Way). Facts k s j → Does s l xs st ys r (closed k s j at)) (sym e) d

  pub close-make : (pos : ℕ) → w ≡ FnPtr → pos ≡ position s (child j) → Does s l xs st ys r (emit MakeFnPtr pos 0) → Facts w s j
      → Does s l xs st ys r (closed w s j at)
  unfolding closed
  close-make pos e at-pos d = close_at FnPtr e (λ f. does_at (λ (p : ℕ). emit MakeFnPtr p 0) at-pos d)

  pub close-pointer : w ≡ FnPtrCall → Does s l xs st ys r (closed FnPtrCall s j nowhere) → Facts w s j → Does s l xs st ys r (closed w s j at)
  unfolding closed
  close-pointer e d = close_at FnPtrCall e (λ f. d)

  pub close-local : (slot : ℕ) → w ≡ Local slot
      → (Plain s j → count s j < 256 → NameKey s (key_of j 0) → Does s l xs st ys r (call_ref s j (Receivers.Local slot))) → Facts w s j
      → Does s l xs st ys r (closed w s j at)
  unfolding closed
  close-local slot e d = close_at (Local slot) e (λ f. d f.plain f.few f.key)

  pub close-name : w ≡ Named → (Plain s j → count s j < 256 → NameKey s (key_of j 0) → Does s l xs st ys r (close_named s j at.first)) → Facts w s j
      → Does s l xs st ys r (closed w s j at)
  unfolding closed
  close-name e d = close_at Named e (λ f. d f.refers.plain f.refers.few f.refers.key)

  pub close-this : w ≡ This → (Plain s j → count s j < 256 → NameKey s (key_of j 0) → Does s l xs st ys r (call_ref s j Receivers.This))
      → Facts w s j → Does s l xs st ys r (closed w s j at)
  unfolding closed
  close-this e d = close_at This e (λ f. d f.plain f.few f.key)

  pub close-value : w ≡ Value → (Facts Value s j → Does s l xs st ys r (call_end s j)) → Facts w s j → Does s l xs st ys r (closed w s j at)
  unfolding closed
  close-value e d = close_at Value e d

  -- with a namespace
  pub close-in-local : (slot : ℕ) → w ≡ InLocal slot
      → (count s j < 256 → Does s l xs st ys r (ref_at at.name s j (Receivers.Local slot))) → Facts w s j → Does s l xs st ys r (closed w s j at)
  unfolding closed
  close-in-local slot e d = close_at (InLocal slot) e (λ f. d f.few)

  pub close-in-named : w ≡ InNamed → (count s j < 256 → Does s l xs st ys r (ref_at at.name s j (Receivers.Named at.first))) → Facts w s j
      → Does s l xs st ys r (closed w s j at)
  unfolding closed
  close-in-named e d = close_at InNamed e (λ f. d f.qualifies.few)

  pub close-in-this : w ≡ InThis → (count s j < 256 → Does s l xs st ys r (ref_at at.name s j Receivers.This)) → Facts w s j
      → Does s l xs st ys r (closed w s j at)
  unfolding closed
  close-in-this e d = close_at InThis e (λ f. d f.few)

  pub close-in-value : w ≡ InValue → (count s j < 256 → field_b s j < 2 → Does s l xs st ys r (values_at at.name s j)) → Facts w s j
      → Does s l xs st ys r (closed w s j at)
  unfolding closed
  close-in-value e d = close_at InValue e (λ f. d f.few f.capture)

  pub close-kept : (w ≡ Eval) ⊎ (w ≡ Kept) → Does s l xs st ys r (residual j) → Facts w s j → Does s l xs st ys r (closed w s j at)
  unfolding closed
  close-kept (inl e) d = close_at Eval e (λ f. record { holds = λ a h room. d.holds (defeated a) (defeated-holds h) room })
  close-kept (inr e) d = close_at Kept e (λ f. d)

-- ---- what comes before them

module _ (s : List ℕ) (l : Layout) (xs : List ℕ) (st : State) (ys : List ℕ) (r : State) (at : Opened) (j : ℕ) where
  -- w is opened
  abbrev pub Opens : Way → Type 0
  Opens w = (Facts w s j → Does s l xs st ys r (opened w s j)) × (Facts w s j → (a : Made) → Holds s l xs st a → at ≡ opened_at w s j a)

module _ {s : List ℕ} {l : Layout} {xs : List ℕ} {st : State} (w : Way) (j : ℕ) where
  open_at : (v : Way) → w ≡ v → Opens s l xs st xs st nowhere j v → Opens s l xs st xs st nowhere j w
  open_at v e d = subst (Opens s l xs st xs st nowhere j) (sym e) d

  -- nothing comes before the arguments
  pub open-none :
      (w ≡ FnPtr) ⊎ ((w ≡ FnPtrCall) ⊎ (((slot : ℕ) × (w ≡ Local slot)) ⊎ ((w ≡ Value) ⊎ ((w ≡ Eval) ⊎ (w ≡ Kept)))))
      → Opens s l xs st xs st nowhere j w
  unfolding opened opened_at
  open-none (inl e) = open_at FnPtr e ((λ f. does-none xs st), (λ f a h. refl))
  open-none (inr (inl e)) = open_at FnPtrCall e ((λ f. does-none xs st), (λ f a h. refl))
  open-none (inr (inr (inl e))) = open_at (Local e.0) e.1 ((λ f. does-none xs st), (λ f a h. refl))
  open-none (inr (inr (inr (inl e)))) = open_at Value e ((λ f. does-none xs st), (λ f a h. refl))
  open-none (inr (inr (inr (inr (inl e))))) = open_at Eval e ((λ f. does-none xs st), (λ f a h. refl))
  open-none (inr (inr (inr (inr (inr e))))) = open_at Kept e ((λ f. does-none xs st), (λ f a h. refl))

module _ {s : List ℕ} {l : Layout} {xs ys : List ℕ} {st r : State} (w : Way) (j : ℕ) where
  -- a way that is opened by a function of its own
  pub open-by : {at : Opened} (v : Way) → w ≡ v → Opens s l xs st ys r at j v → Opens s l xs st ys r at j w
  open-by {at = at} v e d = subst (Opens s l xs st ys r at j) (sym e) d

  pub open-this : (pos : ℕ) → w ≡ This → pos ≡ position s (child j) → Does s l xs st ys r (emit LoadThis pos 0)
      → Opens s l xs st ys r nowhere j w
  unfolding opened opened_at
  open-this pos e at-pos d =
      subst (Opens s l xs st ys r nowhere j) (sym e) ((λ f. does_at (λ (p : ℕ). emit LoadThis p 0) at-pos d), (λ f a h. refl))

  pub open-named : (at v : ℕ) → w ≡ Named → v ≡ child j → (NameKey s (key_of v 0) → Does s l xs st ys r (add_name s (name_of s (key_of v 0))))
      → ((a : Made) → NameKey s (key_of v 0) → Holds s l xs st a → at ≡ name_at s (name_of s (key_of v 0)) a.pools)
      → Opens s l xs st ys r (at_places 0 at) j w
  unfolding opened opened_at
  open-named at v e is d found =
      let done = subst (λ (u : ℕ). NameKey s (key_of u 0) → Does s l xs st ys r (add_name s (name_of s (key_of u 0)))) is d in
      let place = subst
      (λ (u : ℕ). (a : Made) → NameKey s (key_of u 0) → Holds s l xs st a → at ≡ name_at s (name_of s (key_of u 0)) a.pools) is found in
      subst (Opens s l xs st ys r (at_places 0 at) j) (sym e) (
        (λ f. does_at (add_name s) f.plain (done f.first)),
        (λ f a h. ap (at_places 0) (place a f.first h ∙ ap (λ (n : Name). name_at s n a.pools) f.plain)),
      )

-- ---- with a namespace the call's name comes first

first-grows : (s : List ℕ) (j : ℕ) → Growing (load_first s j)
unfolding load_first emit add_name push_name emits
first-grows s j = record { each = λ a. omega arith }

-- a name emits nothing
own-fits : (s : List ℕ) (j : ℕ) {l : Layout} {xs : List ℕ} {st : State} {a : Made} → Holds s l xs st a → Fits l (add_own s j a)
unfolding add_own add_name push_name
own-fits s j h = let c = h.counts in omega (arith, c.emitted, c.within)

-- the entry of a call's name
pub record Entry (s : List ℕ) (l : Layout) (xs : List ℕ) (st : State) (ys : List ℕ) (q : State) (i j : ℕ) : Type 0 where
  pub does : NameKey s (key_of j 0) → Does s l xs st ys q (add_name s (name_of s (key_of j 0)))
  pub found : (a : Made) → NameKey s (key_of j 0) → Holds s l xs st a → i ≡ name_at s (name_of s (key_of j 0)) a.pools

module _ {s : List ℕ} {l : Layout} {xs ys : List ℕ} {st q : State} {i : ℕ} (j : ℕ) where
  own-does : Entry s l xs st ys q i j → Qualifies s j → Does s l xs st ys q (add_own s j)
  unfolding add_own
  own-does d f = does_at (add_name s) f.own (d.does f.key)

  own-held : Entry s l xs st ys q i j → Qualifies s j → (a : Made) → Holds s l xs st a → Holds s l ys q (add_own s j a)
  own-held d f a h = (own-does d f).holds a h (own-fits s j h)

  own-found : Entry s l xs st ys q i j → Qualifies s j → (a : Made) → Holds s l xs st a → i ≡ own_at s j a
  own-found d f a h = d.found a f.key h ∙ ap (λ (n : Name). name_at s n a.pools) f.own

  pub open-own : (w : Way) → ((slot : ℕ) × (w ≡ InLocal slot)) ⊎ (w ≡ InValue) → Entry s l xs st ys q i j → Opens s l xs st ys q (at_places i 0) j w
  unfolding opened opened_at
  open-own w (inl e) d =
      subst (Opens s l xs st ys q (at_places i 0) j) (sym e.1)
      ((λ f. own-does d f), (λ f a h. ap (λ (n : ℕ). at_places n 0) (own-found d f a h)))
  open-own w (inr e) d =
      subst (Opens s l xs st ys q (at_places i 0) j) (sym e)
      ((λ f. own-does d f), (λ f a h. ap (λ (n : ℕ). at_places n 0) (own-found d f a h)))

  pub open-in-this : {zs : List ℕ} {r : State} (pos : ℕ) → pos ≡ position s (child j) → Entry s l xs st ys q i j → Does s l ys q zs r (emit LoadThis pos 0)
      → Opens s l xs st zs r (at_places i 0) j InThis
  unfolding opened opened_at
  open-in-this pos at-pos d e = (
    (λ f. does-seq (growing-emit LoadThis (position s (child j)) 0) (own-does d f) (does_at (λ (p : ℕ). emit LoadThis p 0) at-pos e)),
    (λ f a h. ap (λ (n : ℕ). at_places n 0) (own-found d f a h)),
  )

  -- and then a receiver's, which is loaded
  pub open-in-named : {ys' zs : List ℕ} {t r : State} {k : ℕ} (v pos : ℕ) → v ≡ child j → pos ≡ position s (child j) → Entry s l xs st ys q i j
      → (NameKey s (key_of v 0) → Does s l ys q ys' t (add_name s (name_of s (key_of v 0))))
      → ((a : Made) → NameKey s (key_of v 0) → Holds s l ys q a → k ≡ name_at s (name_of s (key_of v 0)) a.pools)
      → Does s l ys' t zs r (emit (LoadNamed k) pos 0)
      → Opens s l xs st zs r (at_places i k) j InNamed
  unfolding opened opened_at load_first
  open-in-named {ys'} {zs} {t} {r} {k} v pos is at-pos d e found load =
      let done = subst (λ (u : ℕ). NameKey s (key_of u 0) → Does s l ys q ys' t (add_name s (name_of s (key_of u 0)))) is e in
      let place = subst
      (λ (u : ℕ). (a : Made) → NameKey s (key_of u 0) → Holds s l ys q a → k ≡ name_at s (name_of s (key_of u 0)) a.pools) is found in
      let first : (f : QualifiedNames s j) (a : Made) → Holds s l ys q a → k ≡ first_at s j a
      = λ f a h. place a f.first h ∙ ap (λ (n : Name). name_at s n a.pools) f.plain in (
        (λ f.
            does-seq (first-grows s j)
            (own-does d f.qualifies)
            (does-placed {place = first_at s j} (λ (p : ℕ). emit (LoadNamed p) (position s (child j)) 0)
            (growing-emit (LoadNamed k) (position s (child j)) 0) (first f) (does_at (add_name s) f.plain (done f.first))
            (does_at (λ (p : ℕ). emit (LoadNamed k) p 0) at-pos load))),
        (λ f a h. ap₂ at_places (own-found d f.qualifies a h) (first f (add_own s j a) (own-held d f.qualifies a h))),
      )

-- The effects and the depth that is counted with them, in the shapes of the code.
use Rattle.std.proofs.Common.{◌≡◌, ℕ, ◌+◌, ◌-◌, ◌<◌, ◌≤◌, List, get_or, refl, arith, w32, w64, Fits}
use Rattle.bytecode.specs.declared.Receiver.{Receiver}
use Rattle.bytecode.specs.Op.{four}
use Rattle.bytecode.specs.Effect as effects
use Rattle.bytecode.specs.Effect.{Count, effect, popped, ref_argc}
use Rattle.bytecode.proofs.TableLaws.{pushes-one}
use Rattle.scratch_store.specs.Effects.{receiver_words, joined, call_ref_words, after_words}

-- CallRef
pub call-ref-of : (name argc : ℕ) (r : Receiver) (w : List ℕ) (b : ℕ) → w ≡ receiver_words r → b ≡ joined argc (get_or w 0 0)
    → four 13 name b (get_or w 1 0) ≡ call_ref_words name argc r
unfolding receiver_words call_ref_words
call-ref-of name argc r w b e f = rw (f, e)

-- what is popped is no more than the words and what a chain takes
popped-small : (k : Count) (a b n m : ℕ) → a < m → b < m → n < m → popped k a b n < m
unfolding popped ref_argc
popped-small effects.fixed a b n m h g f = omega arith
popped-small effects.argc a b n m h g f = omega arith
popped-small effects.argc_ref a b n m h g f = grind arith
popped-small effects.pops_a a b n m h g f = h
popped-small effects.needs_a a b n m h g f = omega arith
popped-small effects.operands a b n m h g f = f

pub pops-fit : {e0 c : ℕ} (k : Count) (a b n : ℕ) → c ≡ popped k a b n → e0 < 4294967296 → Fits w32 a → Fits w32 b → n < 4294967296
    → Fits w64 (e0 + c)
pops-fit k a b n e h0 ha hb hn =
    let l = ha.fits in
    let g = hb.fits in
    let q = popped-small k a b n 4294967296 (omega arith) (omega arith) (omega arith) in
    record { fits = omega arith }

-- the depth by the effect that was found
pub after-by : (w : List ℕ) (n d e0 e1 c : ℕ) (k : Count) → e0 ≡ (effect (get_or w 0 0)).pops → e1 ≡ (effect (get_or w 0 0)).pushes
    → k ≡ (effect (get_or w 0 0)).count → c ≡ popped k (get_or w 1 0) (get_or w 2 0) n → d - (e0 + c) + e1 ≡ after_words w n d
unfolding after_words
after-by w n d e0 e1 c k h0 h1 h2 h3 = rw (h0, h1, h3, h2) refl

-- a step adds one at most
pub after-least : (w : List ℕ) (n d : ℕ) → after_words w n d ≤ d + 1
unfolding after_words
after-least w n d =
    let h = pushes-one (get_or w 0 0) in
    omega arith

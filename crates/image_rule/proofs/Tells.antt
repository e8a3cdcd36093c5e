-- A computed test tells whether a statement holds, both ways; and how such tests are joined.
use Prim.Native.Nat.{ℕ, ◌≤◌, ◌<◌}
use mathlib.Core.Path.{◌≡◌, refl}
use mathlib.Core.Bool.{Bool, true, ◌&&◌, and-eq-true_iff}
use lib.Dec.{leb, ltb, eqb}
use borrow.Author.Tests.{leb-true, le-leb, ltb-true, lt-ltb, eqb-true, eq-eqb}
use Rattle.words.specs.Count.{all_below}
use Rattle.words.proofs.CountLaws.{all-at, all_of}

-- test b answers true exactly where P holds
pub record Tells (b : Bool) (P : Type 0) : Type 0 where
  pub yields : b ≡ true → P
  pub passes : P → b ≡ true

-- two tests joined
pub tells-and : {a b : Bool} {P Q : Type 0} → Tells a P → Tells b Q → Tells (a && b) (P × Q)
tells-and {a} {b} s t = record {
  yields = λ h. let both = (and-eq-true_iff a b).0 h in (s.yields both.0, t.yields both.1);
  passes = λ h. (and-eq-true_iff a b).1 (s.passes h.0, t.passes h.1);
}

-- a second test that tells only where the first statement holds
pub tells-then : {a b : Bool} {P Q : Type 0} → Tells a P → (P → Tells b Q) → Tells (a && b) (P × Q)
tells-then {a} {b} s t = record {
  yields = λ h. let both = (and-eq-true_iff a b).0 h in let p = s.yields both.0 in (p, (t p).yields both.1);
  passes = λ h. (and-eq-true_iff a b).1 (s.passes h.0, (t h.0).passes h.1);
}

-- a test of every number below n
pub tells_all : {f : ℕ → Bool} {P : ℕ → Type 0} → (n : ℕ) → ((k : ℕ) → Tells (f k) (P k)) → Tells (all_below n f) ((k : ℕ) → k < n → P k)
tells_all {f} {P} n t = record {
  yields = λ h k l. (t k).yields (all-at f n k h l);
  passes = λ h. all_of f n (λ k l. (t k).passes (h k l));
}

-- the same statement in other words
pub tells_as : {b : Bool} {P Q : Type 0} → Tells b P → (P → Q) → (Q → P) → Tells b Q
tells_as t f g = record { yields = λ h. f (t.yields h); passes = λ q. t.passes (g q) }

pub tells-always : {P : Type 0} → P → Tells true P
tells-always p = record { yields = λ h. p; passes = λ h. refl }

-- the tests of numbers
pub tells-le : (a b : ℕ) → Tells (leb a b) (a ≤ b)
tells-le a b = record { yields = leb-true a b; passes = le-leb a b }

pub tells-lt : (a b : ℕ) → Tells (ltb a b) (a < b)
tells-lt a b = record { yields = ltb-true a b; passes = lt-ltb a b }

pub tells-eq : (a b : ℕ) → Tells (eqb a b) (a ≡ b)
tells-eq a b = record { yields = eqb-true a b; passes = eq-eqb a b }

pub tells-true : (b : Bool) → Tells b (b ≡ true)
tells-true b = record { yields = λ h. h; passes = λ h. h }

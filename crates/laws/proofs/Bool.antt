-- Facts of truth values beside those of mathlib.Core.Bool (`and-true`, `or-false`, `and_assoc`, `and-eq-true_iff` ..).
use mathlib.Core.Path.{◌≡◌, refl, sym}
use mathlib.Core.Bool.{Bool, true, false, ◌&&◌, ◌||◌, true≢false, false≢true, and-eq-true_iff}

-- what cannot be true is false
pub false-unless : (t : Bool) → (t ≡ true → ⊥) → t ≡ false
false-unless true h = absurd (h refl)
false-unless false h = refl

-- what cannot be false is true
pub true-unless : (t : Bool) → (t ≡ false → ⊥) → t ≡ true
true-unless true h = refl
true-unless false h = absurd (h refl)

-- each of two is true where the other is
pub both_ways : (a b : Bool) → (a ≡ true → b ≡ true) → (b ≡ true → a ≡ true) → a ≡ b
both_ways true b f g = sym (f refl)
both_ways false true f g = g refl
both_ways false false f g = refl

-- two that are true are so together
pub both : {a b : Bool} → a ≡ true → b ≡ true → (a && b) ≡ true
both {a} {b} f g = (and-eq-true_iff a b).1 (f, g)

-- of two that are true together the first is
pub and_left : (a b : Bool) → (a && b) ≡ true → a ≡ true
and_left true b h = refl
and_left false b h = h

-- and the second
pub and_right : (a b : Bool) → (a && b) ≡ true → b ≡ true
and_right true b h = h
and_right false b h = absurd (false≢true h)

-- where the first fails, so do both together
pub left-fails : (a b : Bool) → a ≡ false → (a && b) ≡ false
left-fails true b h = absurd (true≢false h)
left-fails false b h = refl

-- and where the second does
pub right-fails : (a b : Bool) → b ≡ false → (a && b) ≡ false
right-fails true b h = h
right-fails false b h = refl

-- a test that is made only where another has passed is the two together
pub and-lazy : (a b : Bool) → elim a [ true ↦ b | false ↦ false ] ≡ (a && b)
and-lazy true b = refl
and-lazy false b = refl

-- where such a test passes, both have passed
pub lazy-true : (a b : Bool) → elim a [ true ↦ b | false ↦ false ] ≡ true → (a ≡ true) × (b ≡ true)
lazy-true true b h = (refl, h)
lazy-true false b h = absurd (false≢true h)

-- and it passes where both do
pub lazy-of : (a b : Bool) → a ≡ true → b ≡ true → elim a [ true ↦ b | false ↦ false ] ≡ true
lazy-of true b g h = h
lazy-of false b g h = g

-- one of two is true where the first is
pub or_left : (a b : Bool) → a ≡ true → (a || b) ≡ true
or_left true b h = refl
or_left false b h = absurd (false≢true h)

-- and where the second is
pub or_right : (a b : Bool) → b ≡ true → (a || b) ≡ true
or_right true b h = refl
or_right false b h = h

-- what follows from each of two follows where one of them is true
pub or-one : {P : Type 0} (a b : Bool) → (a || b) ≡ true → (a ≡ true → P) → (b ≡ true → P) → P
or-one true b h f g = f refl
or-one false b h f g = g h

-- where neither of two is true, each is false
pub not-or : (a b : Bool) → (a || b) ≡ false → (a ≡ false) × (b ≡ false)
not-or true b h = absurd (true≢false h)
not-or false b h = (refl, h)

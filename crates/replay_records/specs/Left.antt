-- What a lent buffer holds before a call, and what it must hold after it.
use Rattle.std.specs.Prelude.{ℕ, ◌-◌, ◌%◌, ◌<◌, ◌≡◌, Bool, true, false, List, get_or}

-- word i before
abbrev pub noise : ℕ → ℕ
noise i = 2863311530 - i % 65536

-- the first n words of a buffer are noise
abbrev pub Noisy : ℕ → List ℕ → Type 0
Noisy n xs = (i : ℕ) → i < n → get_or xs i 0 ≡ noise i

-- word i after: 0, or what was there
abbrev pub word_left : Bool → ℕ → ℕ
word_left true i = 0
word_left false i = noise i

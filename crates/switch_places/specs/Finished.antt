-- The default, the end and the fallback, as they are found from the places of the bodies.
use Rattle.std.specs.Prelude.{ℕ, zero, suc, ◌+◌, ◌-◌, ◌≡◌, List}
use Rattle.switch_tables.specs.Columns.{cell, bands_at, body_at, dispatch_at, default_at, end_at, fallback_at}

-- one of two: the first, where n is 0
unfoldable pub if_none : {A : Type 0} → ℕ → A → A → A
if_none zero a b = a
if_none (suc n) a b = b

-- the default (plus 1): its body, or the Unit behind the bodies
abbrev pub default_in : List ℕ → ℕ → ℕ → ℕ
default_in w def after = if_none def after (cell w (body_at + def - 1))

-- bodies from `start` to `after`, of which the last falls through where there is a default (plus 1)
abbrev pub end_by : ℕ → ℕ → ℕ → ℕ
end_by def start after = if_none def (after + 1) (start + ((after - start) - 1))

-- the second Switch is the fallback, where there are bands
abbrev pub fall_by : ℕ → ℕ → ℕ → ℕ
fall_by bands default dispatch = if_none bands default dispatch

-- Rotate and Pop, and a missing default's Unit
abbrev pub last_ones : ℕ → ℕ
last_ones def = if_none def 3 2

-- from the table w to v
pub record Finished (w v : List ℕ) (def start after : ℕ) : Type 0 where
  pub default_is : cell v default_at ≡ default_in w def after
  pub end_is : cell v end_at ≡ end_by def start after
  pub fallback_is : cell v fallback_at ≡ fall_by (cell w bands_at) (default_in w def after) (cell w dispatch_at)

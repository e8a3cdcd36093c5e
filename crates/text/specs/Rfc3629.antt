-- The syntax of UTF-8 byte sequences, RFC 3629, section 4:
--
--     UTF8-octets = *( UTF8-char )
--     UTF8-char   = UTF8-1 / UTF8-2 / UTF8-3 / UTF8-4
--     UTF8-1      = %x00-7F
--     UTF8-2      = %xC2-DF UTF8-tail
--     UTF8-3      = %xE0 %xA0-BF UTF8-tail / %xE1-EC 2( UTF8-tail ) /
--                   %xED %x80-9F UTF8-tail / %xEE-EF 2( UTF8-tail )
--     UTF8-4      = %xF0 %x90-BF 2( UTF8-tail ) / %xF1-F3 3( UTF8-tail ) /
--                   %xF4 %x80-8F 2( UTF8-tail )
--     UTF8-tail   = %x80-BF
use Rattle.std.specs.Prelude.{ℕ, ◌≤◌, List, [], ◌∷◌, ◌++◌}

-- %xLO-HI
abbrev pub From : ℕ → ℕ → ℕ → Type 0
From low high b = (low ≤ b) × (b ≤ high)

abbrev pub UTF8-tail : ℕ → Type 0
UTF8-tail b = From 0x80 0xBF b

pub data UTF8-1 : List ℕ → Type 0 where
  x00-7F : {a : ℕ} → From 0x00 0x7F a → UTF8-1 (a ∷ [])

pub data UTF8-2 : List ℕ → Type 0 where
  xC2-DF : {a b : ℕ} → From 0xC2 0xDF a → UTF8-tail b → UTF8-2 (a ∷ b ∷ [])

pub data UTF8-3 : List ℕ → Type 0 where
  x_e0 : {b c : ℕ} → From 0xA0 0xBF b → UTF8-tail c → UTF8-3 (0xE0 ∷ b ∷ c ∷ [])
  xE1-EC : {a b c : ℕ} → From 0xE1 0xEC a → UTF8-tail b → UTF8-tail c → UTF8-3 (a ∷ b ∷ c ∷ [])
  xED : {b c : ℕ} → From 0x80 0x9F b → UTF8-tail c → UTF8-3 (0xED ∷ b ∷ c ∷ [])
  xEE-EF : {a b c : ℕ} → From 0xEE 0xEF a → UTF8-tail b → UTF8-tail c → UTF8-3 (a ∷ b ∷ c ∷ [])

pub data UTF8-4 : List ℕ → Type 0 where
  x_f0 : {b c d : ℕ} → From 0x90 0xBF b → UTF8-tail c → UTF8-tail d → UTF8-4 (0xF0 ∷ b ∷ c ∷ d ∷ [])
  xF1-F3 : {a b c d : ℕ} → From 0xF1 0xF3 a → UTF8-tail b → UTF8-tail c → UTF8-tail d → UTF8-4 (a ∷ b ∷ c ∷ d ∷ [])
  x_f4 : {b c d : ℕ} → From 0x80 0x8F b → UTF8-tail c → UTF8-tail d → UTF8-4 (0xF4 ∷ b ∷ c ∷ d ∷ [])

pub data UTF8-char : List ℕ → Type 0 where
  utf8-1 : {s : List ℕ} → UTF8-1 s → UTF8-char s
  utf8-2 : {s : List ℕ} → UTF8-2 s → UTF8-char s
  utf8-3 : {s : List ℕ} → UTF8-3 s → UTF8-char s
  utf8-4 : {s : List ℕ} → UTF8-4 s → UTF8-char s

pub data UTF8-octets : List ℕ → Type 0 where
  none : UTF8-octets []
  more : {c s : List ℕ} → UTF8-char c → UTF8-octets s → UTF8-octets (c ++ s)

-- Laws of the names' check: what a test says that was made on words read before.
use Prim.Native.Nat.{ℕ, ◌+◌}
use mathlib.Core.Path.{◌≡◌, refl, ap, sym, ◌∙◌}
use mathlib.Core.Bool.{Bool, true, false}
use mathlib.Core.List.{List}
use lib.Dec.{ltb}
use Rattle.words.specs.Word.{word}
use Rattle.sheet.specs.Sections.{lengths_at, locals_at}
use Rattle.sheet.specs.Node.{kind, field_a, local_text_by}
use Rattle.sheet.specs.Text.{text_length_by}
use Rattle.check_names.specs.Names.{has_name, has_bytes_by, has_bytes, node_name_by, node_name_ok, local_name_by, local_name_ok}

-- text t has bytes, by its length's word
pub bytes-read : (s : List ℕ) (t : ℕ) {at x : ℕ} → at ≡ lengths_at s → x ≡ word s (at + t) → ltb 0 x ≡ has_bytes s t
unfolding has_bytes_by text_length_by
bytes-read s t ha hx = rw (hx, ha) refl

-- the test of node n, where its kind was read
pub named-read : (s : List ℕ) (n : ℕ) {k a : ℕ} {h r : Bool} → k ≡ kind s n → h ≡ has_name k → a ≡ field_a s n → r ≡ has_bytes s a
    → h ≡ true → r ≡ node_name_ok s n
unfolding node_name_by
named-read s n hk hh ha hr e =
    let named : has_name (kind s n) ≡ true = ap has_name (sym hk) ∙ sym hh ∙ e in
    hr ∙ ap (has_bytes s) ha ∙ sym (rw (named, node_name_by))

pub unnamed-read : (s : List ℕ) (n : ℕ) {k : ℕ} {h : Bool} → k ≡ kind s n → h ≡ has_name k → h ≡ false → true ≡ node_name_ok s n
unfolding node_name_by
unnamed-read s n hk hh e =
    let plain : has_name (kind s n) ≡ false = ap has_name (sym hk) ∙ sym hh ∙ e in
    sym (rw (plain, node_name_by))

-- the test of local l, whose text is read at its place
pub local-at : (s : List ℕ) (l : ℕ) {at : ℕ} → at ≡ locals_at s → has_bytes s (word s (at + l)) ≡ local_name_ok s l
unfolding local_name_by local_text_by
local-at s l h = rw h refl

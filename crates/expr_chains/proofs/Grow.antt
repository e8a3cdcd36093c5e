-- A list that has grown at its end, or not at all.
use mathlib.Core.Path.{◌≡◌, sym, ap, ◌∙◌}
use mathlib.Core.List.{List, [], ◌++◌, append_assoc, append-nil}

-- ys is xs with more behind it
pub record Grows {A : Type 0} (xs ys : List A) : Type 0 where
  pub more : List A
  pub whole : ys ≡ xs ++ more

pub grows-refl : {A : Type 0} (xs : List A) → Grows xs xs
grows-refl xs = record { more = []; whole = sym (append-nil xs) }

pub grows-trans : {A : Type 0} {xs ys zs : List A} → Grows xs ys → Grows ys zs → Grows xs zs
grows-trans {A} {xs} g h = record {
  more = g.more ++ h.more;
  whole = h.whole ∙ ap (λ (l : List A). l ++ h.more) g.whole ∙ append_assoc xs g.more h.more;
}

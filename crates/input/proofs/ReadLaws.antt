-- What a read into the rest of a buffer adds to what was read before.
use Rattle.std.proofs.Common.{◌≡◌, ◌∙◌, ℕ, ◌+◌, ◌≤◌, List, ◌++◌, refl, sym, ap, subst, arith, length, take}
use Rattle.std.proofs.KnownBytes.{Consumes-trans}
use Rattle.std.proofs.lemmas.List.{take-take}
use Rattle.std.proofs.lemmas.Slice.{take-put_mid}
use Rattle.std.specs.Prelude.{Option}
use Rattle.std.specs.Io.KnownBytes.{Consumes}
use borrow.Rule.Slice.PartMut.{put_mid}
use lib.Seq.{length-take-le, take-append-add}

read-parts : (xs ys : List ℕ) (n k got : ℕ) → n ≤ length xs → got ≤ length ys → take (n + got) (put_mid n k xs ys) ≡ take n xs ++ take got ys
read-parts xs ys n k got h l =
    sym (take-take (n + got) (n + length ys) (put_mid n k xs ys) (omega arith))
    ∙ ap (take (n + got)) (take-put_mid n k xs ys (n + length ys) refl h)
    ∙ ap (λ (m : ℕ). take (m + got) (take n xs ++ ys)) (sym (length-take-le n xs h))
    ∙ take-append-add (take n xs) ys got

pub read-more : (a b c : Option (List ℕ)) (xs ys : List ℕ) (n k got : ℕ) → n ≤ length xs → got ≤ length ys → Consumes a b (take n xs)
    → Consumes b c (take got ys) → Consumes a c (take (n + got) (put_mid n k xs ys))
read-more a b c xs ys n k got h l p q = subst (Consumes a c) (sym (read-parts xs ys n k got h l)) (Consumes-trans a b c _ _ p q)

-- nothing was read
pub read-none : (a b c : Option (List ℕ)) (xs ys : List ℕ) (n k got : ℕ) → n ≤ length xs → got ≤ length ys → got ≡ 0
    → Consumes a b (take n xs) → Consumes b c (take got ys) → Consumes a c (take n (put_mid n k xs ys))
read-none a b c xs ys n k got h l z p q =
    let same : n + got ≡ n = omega (arith, z) in
    subst (λ (m : ℕ). Consumes a c (take m (put_mid n k xs ys))) same (read-more a b c xs ys n k got h l p q)

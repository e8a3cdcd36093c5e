-- The fold from another start, and the fold over what stands behind a front, by a power of the factor.
use Prim.Native.Nat.{ℕ, zero, suc, ◌+◌, ◌-◌, ◌*◌, ◌/◌, ◌%◌, ◌^◌, ◌<◌}
use mathlib.Core.Path.{◌≡◌, sym, ap, ◌∙◌}
use mathlib.Core.List.{List, [], ◌∷◌}
use native.Mathlib.Omega.{arith}
use native.Mathlib.Nat.{mod-add-div, mul-le-mul, pow-zero}
use Rattle.std.proofs.Math.Nat.{pow-suc}
use lib.ListN.{length}
use Rattle.scratch_folds.specs.Hash.{byte_step, fold_hash}
use Rattle.scratch_folds.specs.Sums.{factor, times, power_of, behind}
use Rattle.scratch_folds.proofs.HashLaws.{rest-same}

-- the product of two words fits 64 bits
pub product-fits : (a b : ℕ) → a < 4294967296 → b < 4294967296 → a * b < 18446744073709551616
product-fits a b l m =
    let w = mul-le-mul {n₁ = a} {m₁ = b} {n₂ = 4294967295} {m₂ = 4294967295} (omega arith) (omega arith) in
    omega arith

-- the power of numbers, as a word
pub power-wrapped : (a n : ℕ) → (a ^ n) % 4294967296 ≡ power_of a n
unfolding power_of
power-wrapped a zero = ap (λ (v : ℕ). v % 4294967296) (pow-zero a)
power-wrapped a (suc n) =
    let x = a ^ n in
    ap (λ (v : ℕ). v % 4294967296) (pow-suc a n)
    ∙ rest-same (x * a) (x % 4294967296 * a) 0 (x / 4294967296 * a) (omega (arith, ap (λ (v : ℕ). v * a) (mod-add-div x 4294967296)))
    ∙ ap (λ (v : ℕ). times v a) (power-wrapped a n)

pub fold_word : (h : ℕ) (bs : List ℕ) → h < 4294967296 → fold_hash h bs < 4294967296
unfolding fold_hash
fold_word h [] l = l
fold_word h (b ∷ bs) l = fold_word (byte_step h b) bs (omega arith)

-- one byte more in front: h and b times the power w, and the fold f over the others
front-sum :
    (h b w f u c v g i j k m : ℕ) → u + 4294967296 * i ≡ h * 16777619 + b + 1 → c + 4294967296 * j ≡ 0 * 16777619 + b + 1
    → v + 4294967296 * k ≡ w * 16777619 → g + 4294967296 * m ≡ c * w + f
    → u * w + f + 4294967296 * (i * w) ≡ h * v + g + 4294967296 * (h * k + m + j * w)
front-sum h b w f u c v g i j k m p q r s =
    omega (arith, ap (λ (n : ℕ). n * w) p, ap (λ (n : ℕ). n * w) q, ap (λ (n : ℕ). h * n) r)

front-step :
    (h b w f : ℕ)
    → (byte_step h b * w + f) % 4294967296 ≡ (h * times w factor + (byte_step 0 b * w + f) % 4294967296) % 4294967296
front-step h b w f =
    let p = h * 16777619 + b + 1 in
    let q = 0 * 16777619 + b + 1 in
    let s = byte_step 0 b * w + f in
    rest-same (byte_step h b * w + f) (h * times w factor + s % 4294967296) (p / 4294967296 * w)
    (h * (w * 16777619 / 4294967296) + s / 4294967296 + q / 4294967296 * w)
    (front-sum h b w f _ _ _ _ _ _ _ _ (mod-add-div p 4294967296) (mod-add-div q 4294967296) (mod-add-div (w * 16777619) 4294967296)
    (mod-add-div s 4294967296))

-- the fold from another start
pub fold-from :
    (h : ℕ) (bs : List ℕ) → h < 4294967296
    → fold_hash h bs ≡ (h * power_of factor (length bs) + fold_hash 0 bs) % 4294967296
unfolding fold_hash power_of
fold-from h [] l = omega arith
fold-from h (b ∷ bs) l =
    fold-from (byte_step h b) bs (omega arith)
    ∙ front-step h b (power_of factor (length bs)) (fold_hash 0 bs)
    ∙ sym (ap (λ (v : ℕ). (h * times (power_of factor (length bs)) factor + v) % 4294967296) (fold-from (byte_step 0 b) bs (omega arith)))

-- another front, h in place of p: v is their difference as a word, x the product of v and the power
other-front :
    (h p w f v x k i e j : ℕ) → v + 4294967296 * k ≡ p + 4294967296 - h → h < 4294967296 → x + 4294967296 * i ≡ v * w
    → e + 4294967296 * j ≡ p * w + f → x < 4294967296
    → e + 4294967296 - x + 4294967296 * (w + j) ≡ h * w + f + 4294967296 * (k * w + i + 1)
other-front h p w f v x k i e j a l b c m =
    let d : v + h + 4294967296 * k ≡ p + 4294967296 = omega arith in
    omega (arith, ap (λ (n : ℕ). n * w) d)

-- what stands behind a front is told by the folds over the front and over both, and with it the fold from another start
pub behind-is :
    (h e p w f : ℕ) → h < 4294967296 → e ≡ (p * w + f) % 4294967296
    → behind e ((p + 4294967296 - h) % 4294967296) w ≡ (h * w + f) % 4294967296
unfolding behind
behind-is h e p w f l q =
    let d = p + 4294967296 - h in
    let v = d % 4294967296 in
    let x = v * w % 4294967296 in
    let s = p * w + f in
    rest-same (e + 4294967296 - x) (h * w + f) (w + s / 4294967296) (d / 4294967296 * w + v * w / 4294967296 + 1)
    (other-front h p w f v x _ _ e _ (mod-add-div d 4294967296) l (mod-add-div (v * w) 4294967296)
    (ap (λ (n : ℕ). n + 4294967296 * (s / 4294967296)) q ∙ mod-add-div s 4294967296) (omega arith))

-- A bucket is below the count of heads, and what is written for an entry is `noted` where the index holds.
use Rattle.std.proofs.Common.{◌≡◌, ℕ, suc, ◌+◌, ◌*◌, ◌%◌, ◌<◌, List, get_or, set, ap, ◌∙◌, mul_comm, div-lt_iff_lt-mul, arith}
use native.Mathlib.Nat.{mul-lt-mul_of_pos_left}
use Rattle.scratch_index.specs.Table.{bucket_of, link_of, noted_by}
use Rattle.scratch_index.proofs.IndexedLaws.{noted}

pub bucket-below : (count h : ℕ) → h < 4294967296 → 0 < count → bucket_of count h < count
unfolding bucket_of
bucket-below count h l p =
    let m = mul-lt-mul_of_pos_left {m = h} {n = 4294967296} {k = count} l p in
    let c = mul_comm count h in
    (div-lt_iff_lt-mul {k = 4294967296} {x = h * count} {y = count} (omega arith)).1 (omega arith)

pub noted-is :
    (head slot tag e : ℕ) (xs : List ℕ) → get_or xs head 0 < 524288 → e < 524288
    → noted_by head slot tag e xs ≡ noted head slot tag (suc e) xs
unfolding noted_by noted
noted-is head slot tag e xs h l =
    let a : get_or xs head 0 % 524288 ≡ get_or xs head 0 = omega arith in
    let b : (e + 1) % 4294967296 ≡ suc e = omega arith in
    ap (λ (c : ℕ). set (set xs slot (c + 524288 * tag)) head ((e + 1) % 4294967296)) a
    ∙ ap (λ (c : ℕ). set (set xs slot (link_of (get_or xs head 0) tag)) head c) b

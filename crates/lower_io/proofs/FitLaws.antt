-- An image that was lowered fits into its buffer, and what is written is what the outcome says.
use Prim.Native.Nat.{ℕ, ◌≤◌, ◌<◌}
use mathlib.Core.Path.{◌≡◌, refl, sym, ap, subst, ◌∙◌}
use mathlib.Core.Bool.{Bool}
use mathlib.Core.List.{List, [], ◌∷◌, ◌++◌}
use native.Mathlib.Omega.{arith}
use denote.Ref.{Bor}
use borrow.Author.Tests.{le-ltb}
use lib.ListN.{length, drop, take, length-append}
use Rattle.lowering.specs.Outcome.{Outcome, refused, image, outcome}
use Rattle.std.specs.Prelude.{Option, None, Some, IfSome, MatchOption, Ok, Err, IfOk, IfErr, if◌then◌else◌}
use Rattle.std.specs.Io.KnownBytes.{Appends}
use Rattle.std.proofs.Math.Seq.{take-append_seam}
use Rattle.to_image.specs.Answer.{Answer, words_of, answer, image_after, Answers}
use Rattle.refusals.specs.declared.Refusal.{Refusal}
use Rattle.refusals.specs.declared.Refusal.TheVariants.{Size}
use Rattle.refusals.specs.Refusal.{refusal_text}
use Rattle.lower_io.specs.Said.{words_text, outcome_text, said}

fit : (o : Outcome) (xs : List ℕ) → words_of (answer o) ≤ length (image_after o xs)
unfolding answer image_after
fit (refused n) xs = omega arith
fit (image w) xs = omega (arith, length-append w (drop (length w) xs))

pub lowered-fits : {s xs ys : List ℕ} {r : Answer} {xs' ys' : List ℕ} (n : ℕ) → Answers s xs ys r xs' ys' → r ≡ Ok n → n ≤ length xs'
lowered-fits {s} {xs} {ys} {r} {xs'} n a r-is =
    let o = outcome s (length xs) (length ys) in
    let count : n ≡ words_of (answer o) = sym (ap words_of r-is) ∙ ap words_of a.answers in
    let long : length xs' ≡ length (image_after o xs) = ap length a.image_is in
    omega (arith, count, long, fit o xs)

image-text : (o : Outcome) (xs : List ℕ) (n : ℕ) → Ok n ≡ answer o → outcome_text o ≡ words_text (take n (image_after o xs))
unfolding answer image_after
image-text (refused r) xs n e = absurd (subst (λ (v : Answer). IfErr v (λ z. ⊥)) e tt)
image-text (image w) xs n e =
    let long : n ≡ length w = ap words_of e in
    ap words_text (sym (ap (λ (k : ℕ). take k (w ++ drop (length w) xs)) long ∙ take-append_seam w (drop (length w) xs)))

refused-text : (o : Outcome) (r : Refusal) → Err r ≡ answer o → outcome_text o ≡ refusal_text r ++ (10 ∷ [])
unfolding answer
refused-text (refused q) r e = subst (λ (v : Answer). IfErr v (λ z. refusal_text z ++ (10 ∷ []) ≡ refusal_text r ++ (10 ∷ []))) e refl
refused-text (image w) r e = absurd (subst (λ (v : Answer). IfOk v (λ z. ⊥)) e tt)

said-short : (s : List ℕ) → length s ≤ 65536 → said s ≡ outcome_text (outcome s 16384 16384)
said-short s h =
    ap (λ (b : Bool). if b then outcome_text (refused Size) else outcome_text (outcome s 16384 16384)) (le-ltb 65536 (length s) h)

-- the input is the sheet, which is short enough
told : {text : List ℕ} (known old new : Option (List ℕ)) (sheet : List ℕ) → IfSome known (λ input. sheet ≡ input)
    → length sheet ≤ 65536 → outcome_text (outcome sheet 16384 16384) ≡ text → Appends old new text
    → IfSome known (λ input. Appends old new (said input))
told None old new sheet k h e w = tt
told {text} (Some x) old new sheet k h e w =
    subst (λ (y : List ℕ). Appends old new (said y)) k (subst (λ (t : List ℕ). Appends old new t) (sym (said-short sheet h ∙ e)) w)

-- all of the input was read
pub heard : (known : Option (List ℕ)) (n : ℕ) (v : Option (Bor (List ℕ))) (b : Bor (List ℕ))
    → IfSome known (λ left. MatchOption v (n < length left) (λ bytes. bytes.now ≡ left)) → v ≡ Some b → IfSome known (λ left. b.now ≡ left)
heard known n v b h e =
    subst (λ (w : Option (Bor (List ℕ))). IfSome known (λ left. MatchOption w (n < length left) (λ bytes. bytes.now ≡ left))) e h

-- the words that are written are the outcome's
pub said-image : {s xs ys : List ℕ} {r : Answer} {xs' ys' : List ℕ} (known old new : Option (List ℕ)) (n : ℕ)
    → Answers s xs ys r xs' ys' → r ≡ Ok n → length xs ≡ 16384 → length ys ≡ 16384 → IfSome known (λ input. s ≡ input) → length s ≤ 65536
    → Appends old new (words_text (take n xs')) → IfSome known (λ input. Appends old new (said input))
said-image {s} {xs} {ys} {r} {xs'} known old new n a r-is lx ly k h w =
    let o : outcome s (length xs) (length ys) ≡ outcome s 16384 16384 =
    ap (λ (m : ℕ). outcome s m (length ys)) lx ∙ ap (outcome s 16384) ly in
    let text : outcome_text (outcome s 16384 16384) ≡ words_text (take n xs') =
    sym (ap outcome_text o) ∙ image-text _ xs n (sym r-is ∙ a.answers) ∙ ap (λ (l : List ℕ). words_text (take n l)) (sym a.image_is) in
    told known old new s k h text w

-- so is the refusal
pub said-refusal : {s xs ys : List ℕ} {r : Answer} {xs' ys' : List ℕ} (known old new : Option (List ℕ)) (q : Refusal)
    → Answers s xs ys r xs' ys' → r ≡ Err q → length xs ≡ 16384 → length ys ≡ 16384 → IfSome known (λ input. s ≡ input) → length s ≤ 65536
    → Appends old new (refusal_text q ++ (10 ∷ [])) → IfSome known (λ input. Appends old new (said input))
said-refusal {s} {xs} {ys} known old new q a r-is lx ly k h w =
    let o : outcome s (length xs) (length ys) ≡ outcome s 16384 16384 =
    ap (λ (m : ℕ). outcome s m (length ys)) lx ∙ ap (outcome s 16384) ly in
    told known old new s k h (sym (ap outcome_text o) ∙ refused-text _ q (sym r-is ∙ a.answers)) w

-- Joining neighbours with equal block lists, and leaving out those with none, keeps the first match.
use Prim.Native.Nat.{ℕ, ◌≤◌}
use mathlib.Core.Path.{◌≡◌, refl, sym, ◌∙◌, ap}
use mathlib.Core.Bool.{Bool, true, false, true≢false}
use mathlib.Core.Option.{Option, none, some}
use mathlib.Core.List.{List, [], ◌∷◌}
use native.Mathlib.Omega.{arith}
use native.Mathlib.Decide.{dec_lt}
use Rattle.text.specs.Same.{same}
use Rattle.text.proofs.SameLaws.{same_true}
use Rattle.switch_split.proofs.RangeLaws.{Within, within-le, within-lt, inside-yes, inside-low, inside-high, inside-no}
use Rattle.switch_split.specs.Split.{Entry, holds, first_match, stretch, opened, join}

-- ---- the first match

module _ (e : Entry) (es : List Entry) (x : ℕ) where
  pub first-yes : holds e x ≡ true → first_match (e ∷ es) x ≡ e.blocks
  unfolding first_match
  first-yes h = cc

  pub first-no : holds e x ≡ false → first_match (e ∷ es) x ≡ first_match es x
  unfolding first_match
  first-no h = cc

first_more : (e : Entry) (es fs : List Entry) (x : ℕ) → first_match es x ≡ first_match fs x → first_match (e ∷ es) x ≡ first_match (e ∷ fs) x
first_more e es fs x h = by (holds e x) refl
  where
    by : (t : Bool) → holds e x ≡ t → first_match (e ∷ es) x ≡ first_match (e ∷ fs) x
    by true q = cc (first-yes e es x q, first-yes e fs x q)
    by false q = cc (first-no e es x q, first-no e fs x q)

-- ---- pieces in a row

-- each piece starts where the one before it ends, the first at t, and contains its start
abbrev pub Chained : ℕ → List Entry → Type 0
Chained t [] = Unit {0}
Chained t (e ∷ es) = (t ≡ e.from) × Within e.to e.inclusive e.from × Chained e.to es

within-down : (b : ℕ) (i : Bool) (x y : ℕ) → y ≤ x → Within b i x → Within b i y
within-down b true x y h k = omega arith
within-down b false x y h k = omega arith

-- a band and the piece after it contain together what the stretched band contains
module _ (band e : Entry) (x : ℕ) (up : band.from ≤ band.to) (meet : band.to ≡ e.from)
    (full : Within e.to e.inclusive e.from) where
  stretch-band : holds band x ≡ true → holds (stretch band e) x ≡ true
  stretch-band h =
      let low : band.from ≤ x = inside-low band.from band.to band.inclusive x h in
      let high : x ≤ band.to = within-le band.to band.inclusive x (inside-high band.from band.to band.inclusive x h) in
      inside-yes band.from e.to e.inclusive x low (within-down e.to e.inclusive e.from x (omega arith) full)

  stretch-next : holds e x ≡ true → holds (stretch band e) x ≡ true
  stretch-next h =
      let low : e.from ≤ x = inside-low e.from e.to e.inclusive x h in
      inside-yes band.from e.to e.inclusive x (omega arith) (inside-high e.from e.to e.inclusive x h)

  stretch-none : holds band x ≡ false → holds e x ≡ false → holds (stretch band e) x ≡ false
  stretch-none h k =
      inside-no band.from e.to e.inclusive x
      (λ low high. elim (dec_lt x band.to) [
        | yes l ↦
            true≢false (sym (inside-yes band.from band.to band.inclusive x low (within-lt band.to band.inclusive x l)) ∙ h)
        | no n ↦ true≢false (sym (inside-yes e.from e.to e.inclusive x (omega arith) high) ∙ k)
      ])

  stretch-first : (es : List Entry) → band.blocks ≡ e.blocks → first_match (stretch band e ∷ es) x ≡ first_match (band ∷ e ∷ es) x
  stretch-first es q = by (holds band x) (holds e x) refl refl
    where
      by : (s t : Bool) → holds band x ≡ s → holds e x ≡ t → first_match (stretch band e ∷ es) x ≡ first_match (band ∷ e ∷ es) x
      by true t h k = cc (first-yes (stretch band e) es x (stretch-band h), first-yes band (e ∷ es) x h)
      by false true h k = cc (first-yes (stretch band e) es x (stretch-next k), first-no band (e ∷ es) x h, first-yes e es x k)
      by false false h k =
          cc (first-no (stretch band e) es x (stretch-none h k), first-no band (e ∷ es) x h, first-no e es x k)

-- ---- joining

abbrev pub Filled : List ℕ → Type 0
Filled [] = ⊥
Filled (b ∷ bs) = Unit {0}

-- the pieces that have blocks
kept_if : List ℕ → Entry → List Entry → List Entry
kept_if [] e es = es
kept_if (b ∷ bs) e es = e ∷ es

unfoldable pub kept : List Entry → List Entry
unfolding kept_if
kept [] = []
kept (e ∷ es) = kept_if e.blocks e (kept es)

-- an open band ends at t and has blocks
abbrev Open : ℕ → Option Entry → Type 0
Open t none = Unit {0}
Open t (some band) = (band.from ≤ band.to) × (band.to ≡ t) × Filled band.blocks

-- the entries of which the band is the first
abbrev after : Option Entry → List Entry → List Entry
after none es = es
after (some band) es = band ∷ es

opened-open : (e : Entry) (bs : List ℕ) → e.blocks ≡ bs → Within e.to e.inclusive e.from → Open e.to (opened e bs)
unfolding opened
opened-open e [] q h = tt
opened-open e (b ∷ bs) q h = (within-le e.to e.inclusive e.from h, refl, rw q tt)

opened-kept : (e : Entry) (bs : List ℕ) (es : List Entry) → after (opened e bs) es ≡ kept_if bs e es
unfolding opened kept_if
opened-kept e [] es = refl
opened-kept e (b ∷ bs) es = refl

kept-filled : (e : Entry) (bs : List ℕ) (es : List Entry) → Filled bs → kept_if bs e es ≡ e ∷ es
unfolding kept_if
kept-filled e [] es h = absurd h
kept-filled e (b ∷ bs) es h = refl

module _ (band e : Entry) (es : List Entry) where
  pub join-same : same band.blocks e.blocks ≡ true → join (some band) (e ∷ es) ≡ join (some (stretch band e)) es
  unfolding join
  join-same h = cc

  pub join-other : same band.blocks e.blocks ≡ false → join (some band) (e ∷ es) ≡ band ∷ join (opened e e.blocks) es
  unfolding join
  join-other h = cc

-- joining es after any open band keeps the first match for x
abbrev Keeps : ℕ → ℕ → List Entry → Type 0
Keeps x t es = (o : Option Entry) → Open t o → first_match (join o es) x ≡ first_match (after o (kept es)) x

module _ (x : ℕ) (e : Entry) (es : List Entry) (full : Within e.to e.inclusive e.from) (next : Keeps x e.to es) where
  open_next : first_match (join (opened e e.blocks) es) x ≡ first_match (kept (e ∷ es)) x
  unfolding kept
  open_next =
      next (opened e e.blocks) (opened-open e e.blocks refl full)
      ∙ ap (λ (l : List Entry). first_match l x) (opened-kept e e.blocks (kept es))

  band-next : (band : Entry) → Open e.from (some band) → first_match (join (some band) (e ∷ es)) x ≡ first_match (band ∷ kept (e ∷ es)) x
  unfolding kept
  band-next band h = by (same band.blocks e.blocks) refl
    where
      by : (s : Bool) → same band.blocks e.blocks ≡ s → first_match (join (some band) (e ∷ es)) x ≡ first_match (band ∷ kept (e ∷ es)) x
      by true q =
          let m : band.blocks ≡ e.blocks = same_true band.blocks e.blocks q in
          let up : band.from ≤ e.to = omega (arith, within-le e.to e.inclusive e.from full) in
          cc (
            join-same band e es q,
            next (some (stretch band e)) (up, refl, h.2),
            stretch-first band e x h.0 h.1 full (kept es) m,
            kept-filled e e.blocks (kept es) (rw m at h.2),
          )
      by false q = cc (join-other band e es q, first_more band (join (opened e e.blocks) es) (kept (e ∷ es)) x open_next)

join-keeps : (x t : ℕ) (es : List Entry) → Chained t es → Keeps x t es
unfolding join kept
join-keeps x t [] ch none h = refl
join-keeps x t [] ch (some band) h = refl
join-keeps x t (e ∷ es) ch none h = open_next x e es ch.1 (join-keeps x e.to es ch.2)
join-keeps x t (e ∷ es) ch (some band) h =
    band-next x e es ch.1 (join-keeps x e.to es ch.2) band (h.0, h.1 ∙ ch.0, h.2)

-- what the whole comes to
pub join_first : (x t : ℕ) (es : List Entry) → Chained t es → first_match (join none es) x ≡ first_match (kept es) x
join_first x t es ch = join-keeps x t es ch none tt

-- ---- the first match among the pieces that have blocks

module _ (e : Entry) (es : List Entry) (x : ℕ) where
  -- a piece that does not contain x may go
  pub kept-no : holds e x ≡ false → first_match (kept (e ∷ es)) x ≡ first_match (kept es) x
  unfolding kept
  kept-no h = by e.blocks
    where
      by : (bs : List ℕ) → first_match (kept_if bs e (kept es)) x ≡ first_match (kept es) x
      by [] = refl
      by (b ∷ bs) = first-no e (kept es) x h

  -- a piece that contains x is the first match, unless it has no blocks; then nothing after it may match either
  pub kept-yes : holds e x ≡ true → (e.blocks ≡ [] → first_match (kept es) x ≡ []) → first_match (kept (e ∷ es)) x ≡ e.blocks
  unfolding kept
  kept-yes h k = by e.blocks refl
    where
      by : (bs : List ℕ) → e.blocks ≡ bs → first_match (kept_if bs e (kept es)) x ≡ e.blocks
      by [] q = cc (k q)
      by (b ∷ bs) q = first-yes e (kept es) x h

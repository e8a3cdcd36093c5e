-- The two steps of the binary search for a place, in the code's shapes: integers are read from their bits. Assumed: of the
-- place nothing is said unless the cuts ascend strictly.
use Prim.Native.Nat.{ℕ, ◌+◌, ◌^◌, ◌≤◌, ◌<◌}
use mathlib.Core.Path.{◌≡◌, sym, ◌∙◌, ap}
use mathlib.Core.Bool.{true, false}
use mathlib.Core.List.{List}
use native.Mathlib.Omega.{arith}
use lib.Dec.{ltb}
use lib.IntN.{ℤ, pos}
use lib.Signed.{mag, lt_z}
use lib.ListN.{length, get_or, get_or-map}
use mir.Syntax.{w64}
use mir.Val.{SFits}
use mir.ValLaws.{to_z-of_z}
use borrow.Author.Tests.{ltb-true, ltb-false}
use Rattle.switch_split.specs.Excess.{shifted, excess_of}
use Rattle.switch_split.specs.Held.{excesses}
use Rattle.switch_split.proofs.HeldLaws.{excesses-length}
use Rattle.switch_split.proofs.OrderLaws.{as_read}
use Rattle.switch_split.specs.Piece.{cut_at}
use Rattle.switch_split.proofs.PieceLaws.{below-read}
use Rattle.switch_split.specs.Points.{Strict}
use Rattle.switch_tables.specs.Place.{place}
use Rattle.switch_tables.proofs.PlaceLaws.{place-above, place-below, place-most}

-- an argument that went through a local is itself
pub read_fits : (v : ℤ) → SFits w64 v → SFits w64 (as_read v)
read_fits v f = rw (to_z-of_z w64 v f) f

pub place_read : (cs : List ℕ) (v : ℤ) → SFits w64 v → place cs (excess_of (as_read v)) ≡ place cs (excess_of v)
place_read cs v f = ap (λ (z : ℤ). place cs (excess_of z)) (to_z-of_z w64 v f)

-- the place of a value that a call gave
pub place-by : (cs : List ℕ) (v : ℤ) {p x : ℕ} → SFits w64 v → p ≡ place cs (excess_of (as_read v)) → excess_of v ≡ x → p ≡ place cs x
place-by cs v f e h = e ∙ place_read cs v f ∙ ap (place cs) h

-- number i of the slice is cut i
pub cut-held : (at : List ℤ) (i : ℕ) → excess_of (get_or at i (pos 0)) ≡ cut_at (excesses at) i
unfolding excesses shifted excess_of
cut-held at i = sym (get_or-map excess_of at i (pos 0))

-- the place is from lo to hi
pub record Finding (at : List ℤ) (v : ℤ) (lo hi : ℕ) : Type 0 where
  pub order : lo ≤ hi
  pub within : hi ≤ length at
  pub found : Strict (excesses at) → (lo ≤ place (excesses at) (excess_of v)) × (place (excesses at) (excess_of v) ≤ hi)

module _ (at : List ℤ) (v : ℤ) where
  pub finding-start : Finding at v 0 (length at)
  finding-start = record {
    order = omega arith;
    within = omega arith;
    found = λ st. (omega arith, omega (arith, place-most (excesses at) (excess_of v), excesses-length at));
  }

  pub finding-end : (lo hi : ℕ) → Finding at v lo hi → hi ≤ lo
      → (lo ≤ length at) × (Strict (excesses at) → lo ≡ place (excesses at) (excess_of v))
  finding-end lo hi c h = (omega (arith, c.order, c.within), λ st. let f = c.found st in omega (arith, c.order, f.0, f.1))

  module _ (fv : SFits w64 v) (lo hi mid : ℕ) (c : Finding at v lo hi) (l : lo ≤ mid) (h : mid < hi)
      (fits : mag (get_or at mid (pos 0)) < 2 ^ 63) where
    test : lt_z (as_read (get_or at mid (pos 0))) v ≡ ltb (cut_at (excesses at) mid) (excess_of v)
    test =
        ap (lt_z (as_read (get_or at mid (pos 0)))) (sym (to_z-of_z w64 v fv))
        ∙ below-read (get_or at mid (pos 0)) v (record { sfits = fits }) fv
        ∙ ap (λ (x : ℕ). ltb x (excess_of v)) (cut-held at mid)

    among : mid < length (excesses at)
    among = omega (arith, c.within, excesses-length at)

    pub finding-right : lt_z (as_read (get_or at mid (pos 0))) v ≡ true → Finding at v (mid + 1) hi
    finding-right t = record {
      order = omega arith;
      within = c.within;
      found =
          λ st.
          let above =
          place-above (excesses at) (excess_of v) mid st among (ltb-true (cut_at (excesses at) mid) (excess_of v) (sym test ∙ t)) in
          (omega (arith, above), (c.found st).1);
    }

    pub finding-left : lt_z (as_read (get_or at mid (pos 0))) v ≡ false → Finding at v lo mid
    finding-left t = record {
      order = l;
      within = omega (arith, c.within);
      found =
          λ st. (
            (c.found st).0,
            place-below (excesses at) (excess_of v) mid among (ltb-false (cut_at (excesses at) mid) (excess_of v) (sym test ∙ t)),
          );
    }

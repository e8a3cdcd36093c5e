-- A chain that loses its last jump goes where it went, and wants the blocks that it wanted.
use Prim.Native.Nat.{ℕ}
use mathlib.Core.Path.{◌≡◌, refl, sym, ap, ◌∙◌}
use mathlib.Core.Bool.{Bool, true, false, ◌||◌, or_assoc}
use mathlib.Core.List.{List, [], ◌∷◌, ◌++◌}
use lib.Dec.{eqb}
use Rattle.lowering.specs.Arms.{Try, End, taken, declined, idle, Entry, to_body, to_chain, to_fallback, Arm, entry_from}
use Rattle.lowering.specs.Arms.{arms_extent, drop_end, drop_entry, drop_idle_jump}
use Rattle.lowering.specs.Bodies.{Body, try_wants, end_wants, entry_wants, wanted}
use Rattle.lowering.specs.SwitchTables.{target}

-- an entry wants what its tries and its end want
pub entry-wants : (k b : ℕ) (ts : List Try) (e : End) → entry_wants k (entry_from b ts e) ≡ (try_wants k ts || end_wants k e)
unfolding entry_wants entry_from try_wants end_wants
entry-wants k b [] (taken j) = refl
entry-wants k b [] declined = refl
entry-wants k b [] idle = refl
entry-wants k b (x ∷ xs) e = refl

-- the same without its jump
drop-wants : (k : ℕ) (e : Entry) → entry_wants k (drop_entry e) ≡ entry_wants k e
unfolding entry_wants end_wants drop_entry drop_end
drop-wants k (to_body j) = refl
drop-wants k (to_chain b ts (taken j)) = refl
drop-wants k (to_chain b ts declined) = refl
drop-wants k (to_chain b ts idle) = refl
drop-wants k to_fallback = refl

-- chains one after another
pub wanted-append : (k : ℕ) (as' bs : List Arm) → wanted k (as' ++ bs) ≡ (wanted k as' || wanted k bs)
unfolding wanted
wanted-append k [] bs = refl
wanted-append k (a ∷ as') bs =
    ap (λ x. entry_wants k a.entry || x) (wanted-append k as' bs)
    ∙ sym (or_assoc (entry_wants k a.entry) (wanted k as') (wanted k bs))

-- chains of which the last loses its jump
pub wanted-drop : (k : ℕ) (as' : List Arm) → wanted k (drop_idle_jump as') ≡ wanted k as'
unfolding wanted drop_idle_jump
wanted-drop k [] = refl
wanted-drop k (a ∷ as') = by (eqb (arms_extent as') 0) refl (wanted-drop k as')
  where
    by : (t : Bool) → eqb (arms_extent as') 0 ≡ t → wanted k (drop_idle_jump as') ≡ wanted k as'
        → wanted k (drop_idle_jump (a ∷ as')) ≡ wanted k (a ∷ as')
    by true h r = rw (h, drop_idle_jump) (ap (λ x. x || wanted k as') (drop-wants k a.entry))
    by false h r = rw (h, drop_idle_jump) (ap (λ x. entry_wants k a.entry || x) r)

-- where an entry goes
pub target-drop : (bodies : List Body) (fallback : ℕ) (e : Entry) → target bodies fallback (drop_entry e) ≡ target bodies fallback e
unfolding target drop_entry
target-drop bodies fallback (to_body k) = refl
target-drop bodies fallback (to_chain b ts e) = refl
target-drop bodies fallback to_fallback = refl

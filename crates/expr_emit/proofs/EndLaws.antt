-- Where a node's code ends, by the locals of the Variables in the scratch.
use Rattle.std.proofs.Common.{◌≡◌, ℕ, ◌+◌, ◌-◌, ◌*◌, ◌≤◌, min, Bool, true, false, not, eqb, ltb, List, length, get_or, take, drop, sym, refl, ap, ◌∙◌, subst, arith, length-drop, get_or-drop, take_all, ltb-false, ltb-true, ne_eqb}
use mathlib.Core.Option.{Option, none, some}
use Rattle.sheet.specs.Sections.{node_count}
use Rattle.sheet.specs.Node.{kind, field_a}
use Rattle.sheet.specs.Text.{text}
use Rattle.lowering.specs.Kinds.{variable_kind}
use Rattle.lowering.specs.Slots.{resolve}
use Rattle.expr_count.specs.declared.tallies.Tally.{Tally}
use Rattle.expr_count.specs.Limits.{cap}
use Rattle.expr_count.specs.Tally.{capped}
use Rattle.expr_count.specs.declared.locals.Locals.{Locals}
use Rattle.expr_count.specs.Locals.{is_local, told_by, answer}
use Rattle.expr_count.proofs.LocalLaws.{told-each, told-outside}
use Rattle.expr_count.specs.Count.{tally_by, tally}
use Rattle.expr_count.proofs.BoundLaws.{tally-same}
use Rattle.expr_model.specs.Made.{Made, place, lowered}
use Rattle.scratch.specs.declared.Layout.{Layout}
use Rattle.scratch.specs.Places.{links_at}
use Rattle.scratch_index.specs.Locals.{slot_word, local_word, Slotted, Slots}
use Rattle.scratch_store.specs.declared.State.{State}
use Rattle.scratch_store.specs.Holds.{Holds}
use Rattle.scratch_store.specs.States.{layout_of}
use Rattle.scratch_store.specs.Does.{Fits}
use Rattle.scratch_store.proofs.DoesLaws.{held-slots}
use Rattle.expr_emit.specs.Ends.{end_place, EndsAt}
use Rattle.expr_emit.proofs.EndDoes.{capped-len, end-right}

-- a local's word is not 0
slot-local : (s : List ℕ) (v : ℕ) → not (eqb (local_word s v) 0) ≡ is_local s v
unfolding slot_word is_local
slot-local s v = by (resolve s (text s (field_a s v))) refl
  where
    by : (o : Option ℕ) → resolve s (text s (field_a s v)) ≡ o → not (eqb (local_word s v) 0) ≡ is_local s v
    by none e = rw (e, is_local)
    by (some k) e = rw (e, is_local, ne_eqb (k + 1) 0 (omega arith))

-- the words behind the lists say of each Variable what the definition says
pub slot-told :
    {s : List ℕ} {l : Layout} {xs : List ℕ} (at v : ℕ) → Slotted s l xs → l.nodes ≡ node_count s → at ≡ links_at l
    → kind s v ≡ variable_kind → told_by (drop at xs) s v ≡ is_local s v
slot-told {s} {l} {xs} at v S nodes at-is is = by (ltb v (node_count s)) refl
  where
    by : (b : Bool) → ltb v (node_count s) ≡ b → told_by (drop at xs) s v ≡ is_local s v
    by true e =
        let low = ltb-true v (node_count s) e in
        let part : get_or (drop at xs) (2 * v) 0 ≡ get_or xs (at + 2 * v) 0 = simp (get_or-drop) in
        let word = part ∙ ap (λ n. get_or xs (n + 2 * v) 0) at-is ∙ S.slot v (omega arith) is in
        let told = told-each (drop at xs) s v refl low in
        sym told ∙ ap (λ n. not (eqb n 0)) word ∙ slot-local s v
    by false e = sym (told-outside (drop at xs) s v refl (omega (arith, ltb-false v (node_count s) e)))

-- the length of node j, by what is told of the locals
pub told-length :
    (s : List ℕ) (told : Locals) {t : Tally} (levels j : ℕ) → t ≡ capped (tally_by (answer told s) levels s j)
    → ((v : ℕ) → kind s v ≡ variable_kind → answer told s v ≡ is_local s v) → t.len ≡ min (tally levels s j).len cap
told-length s told {t} levels j t-is same =
    capped-len t (tally levels s j) (t-is ∙ ap capped (tally-same (answer told s) (is_local s) s same levels j))

-- all from a place on
pub rest_is : (at : ℕ) (xs : List ℕ) → take (length xs - at) (drop at xs) ≡ drop at xs
rest_is at xs = take_all (length xs - at) (drop at xs) (rw length-drop (omega arith))

-- a length is cut off
pub length-low : (t u : Tally) → t ≡ capped u → t.len ≤ cap
length-low t u e = let n = capped-len t u e in omega arith

-- the end, where the scratch holds a: the locals are right
pub end-held :
    {s : List ℕ} {l : Layout} {xs : List ℕ} {st : State} {a : Made} {r : ℕ} (levels j : ℕ) → EndsAt levels s xs st j r → Holds s l xs st a
    → Fits l (lowered levels s j a) → r ≡ place a + (tally levels s j).len
end-held levels j e h room = e.is (ap (λ (k : Layout). k.nodes) h.laid.layout ∙ h.fit.nodes) (held-slots refl h) ∙ end-right levels j h room

-- by the layout beside the counts
pub ends_at :
    {s : List ℕ} {l : Layout} {xs : List ℕ} {st : State} {r : ℕ} (levels j : ℕ) → l ≡ layout_of st
    → (l.nodes ≡ node_count s → Slots s l xs → r ≡ end_place levels s st.code j) → EndsAt levels s xs st j r
ends_at {s} {xs = xs} levels j is e = record {
  is = λ nodes S. e (ap (λ (k : Layout). k.nodes) is ∙ nodes) (subst (λ (k : Layout). Slots s k xs) (sym is) S);
}

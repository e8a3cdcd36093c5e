-- And, Or: all of their code is reached. The last instruction is reached by the operands' jumps alone, so it takes at least one operand.
use Prim.Native.Nat.{ℕ, zero, suc, ◌+◌, ◌≤◌}
use mathlib.Core.Path.{◌≡◌, refl, sym, ap, subst}
use mathlib.Core.List.{List, [], ◌∷◌, ◌++◌}
use native.Mathlib.Omega.{arith}
use lib.ListN.{length}
use Rattle.lowering.proofs.SoundShortCircuit.{decided-length}
use Rattle.sheet.specs.Node.{count, position, child, next}
use Rattle.bytecode.specs.declared.Op.{Op}
use Rattle.lowering.specs.Code.{Code, ins}
use Rattle.lowering.specs.Pools.{Pools, emits}
use Rattle.lowering.specs.Out.{Rec}
use Rattle.lowering.specs.ShortCircuit.{Fragment, fragments, extent, decided, jump_on, decision, short_circuit}
use Rattle.lowering.proofs.Effect.{Context, nexts}
use Rattle.lowering.proofs.Linked.{Linked, link, link-none}
use Rattle.lowering.proofs.LinkedFrom.{Comes, LinkedFrom, comes-one, comes-behind, link-comes}
use Rattle.lowering.specs.Nodes.{Row}
use Rattle.lowering.proofs.NodesLaws.{row_first, row-rest}
use Rattle.lowering.proofs.LinksAll.{LinksAll, link_branch}

-- fragments from place b on, each with `gap` instructions behind it: all of their code is reached
abbrev pub Parts : Context → ℕ → ℕ → List Fragment → Type 1
Parts X gap b [] = Prim.Unit {1}
Parts X gap b (f ∷ fs) = Linked X b f.code × Parts X gap (b + length f.code + gap) fs

module _ (s : List ℕ) (rec : Rec) (L : LinksAll s rec) where
  pub fragments-link : (X : Context) (gap n j b d : ℕ) (p : Pools) → Row s n j → Parts X gap b (fragments s rec gap n j b d p).parts
  unfolding fragments
  fragments-link X gap zero j b d p r = tt
  fragments-link X gap (suc n) j b d p r =
      let o = rec j b d p in (
        L.links X j b d p (row_first r),
        fragments-link X gap n (next s j) (b + length o.code + gap) d (emits gap o.pools) (row-rest r),
      )

module _ {X : Context} where
  -- each operand and its jump to t
  module _ (jump : Op) (t d : ℕ) (h : (p : ℕ) → nexts X jump p ≡ t ∷ suc p ∷ []) where
    decided-links : (b : ℕ) (fs : List Fragment) → Parts X 1 b fs → Linked X b (decided jump d fs)
    unfolding decided
    decided-links b [] q = link-none
    decided-links b (f ∷ fs) q =
        link q.0 (link (link_branch t (ins jump (suc d) f.pos) (h (b + length f.code)))
        (decided-links (b + length f.code + 1) fs q.1))

    decided-comes : (b : ℕ) (f : Fragment) (fs : List Fragment) → Parts X 1 b (f ∷ fs) → Comes X b t (decided jump d (f ∷ fs))
    unfolding decided
    decided-comes b f fs q = comes-behind q.0 (comes-one (ins jump (suc d) f.pos) (decided jump d fs) (h (b + length f.code)))

jump_goes : (X : Context) (stop t p : ℕ) → nexts X (jump_on stop t) p ≡ t ∷ suc p ∷ []
unfolding jump_on
jump_goes X zero t p = refl
jump_goes X (suc stop) t p = refl

-- the three instructions at place e, where the last is come to from before
decision-links : (X : Context) (stop e d : ℕ) → LinkedFrom X (e + 2) e (decision stop e d)
unfolding decision
decision-links X stop e d =
    let p : e + 2 ≡ suc (suc e) = omega arith in
    record {
      inside = λ R k r t. (r, ((k.0 r).0, (subst R p t, tt)));
      behind = λ R k r t. (k.1.0 (k.0 r).0).0;
    }

-- And and Or, written from their operands' fragments
abbrev written : ℕ → ℕ → ℕ → List Fragment → Code
written stop b d fs = let e = b + extent 1 fs in decided (jump_on stop (e + 2)) d fs ++ decision stop e d

written-links : (X : Context) (stop b d : ℕ) (f : Fragment) (fs : List Fragment) → Parts X 1 b (f ∷ fs)
    → Linked X b (written stop b d (f ∷ fs))
written-links X stop b d f fs q =
    let e = b + extent 1 (f ∷ fs) in
    let jump = jump_on stop (e + 2) in
    let goes = jump_goes X stop (e + 2) in
    let place = ap (λ (n : ℕ). b + n) (sym (decided-length jump d (f ∷ fs))) in
    link-comes
    (decided-links jump (e + 2) d goes b (f ∷ fs) q)
    (decided-comes jump (e + 2) d goes b f fs q)
    (subst (λ (n : ℕ). LinkedFrom X (e + 2) n (decision stop e d)) place (decision-links X stop e d))

module _ (s : List ℕ) (rec : Rec) (L : LinksAll s rec) where
  operands-written : (X : Context) (stop n j b d : ℕ) (p : Pools) → 1 ≤ n → Row s n j
      → Linked X b (written stop b d (fragments s rec 1 n j b d p).parts)
  unfolding fragments
  operands-written X stop zero j b d p h r = absurd (omega arith)
  operands-written X stop (suc n) j b d p h r =
      let o = rec j b d p in
      let rest = fragments s rec 1 n (next s j) (b + length o.code + 1) d (emits 1 o.pools) in
      let first : Fragment = record { code = o.code; pos = position s j } in
      written-links X stop b d first rest.parts (fragments-link s rec L X 1 (suc n) j b d p r)

  pub short-circuit-links : (stop : ℕ) (X : Context) (j b d : ℕ) (p : Pools) → 1 ≤ count s j → Row s (count s j) (child j)
      → Linked X b (short_circuit stop s rec j b d p).code
  unfolding short_circuit
  short-circuit-links stop X j b d p h r = operands-written X stop (count s j) (child j) b d p h r

-- Coalesce: all of its code is reached.
use Prim.Native.Nat.{ℕ, suc, ◌+◌, ◌-◌, ◌≤◌}
use mathlib.Core.Path.{◌≡◌, refl, sym, ap, subst}
use mathlib.Core.List.{List, [], ◌∷◌}
use native.Mathlib.Omega.{arith}
use lib.ListN.{length}
use Rattle.lowering.proofs.SoundCoalesce.{skipped-length}
use Rattle.sheet.specs.Node.{count, child}
use Rattle.sheet.specs.Walk.{skip}
use Rattle.bytecode.specs.declared.Op.TheVariants.{SkipIfNotUnit, Pop}
use Rattle.lowering.specs.Code.{ins}
use Rattle.lowering.specs.Pools.{Pools}
use Rattle.lowering.specs.Out.{Rec}
use Rattle.lowering.specs.ShortCircuit.{Fragment, fragments, extent}
use Rattle.lowering.specs.Coalesce.{skipped, coalesce}
use Rattle.lowering.proofs.Effect.{Context}
use Rattle.lowering.proofs.Linked.{Linked, link, link-none}
use Rattle.lowering.specs.Nodes.{Row}
use Rattle.lowering.proofs.NodesLaws.{row-less}
use Rattle.lowering.proofs.LinksAll.{LinksAll, link-cons, link_branch}
use Rattle.lowering.proofs.LinkedShortCircuit.{Parts, fragments-link}

skipped-links : (X : Context) (t d b : ℕ) (fs : List Fragment) → Parts X 2 b fs → Linked X b (skipped t d fs)
unfolding skipped
skipped-links X t d b [] q = link-none
skipped-links X t d b (f ∷ fs) q =
    let c = b + length f.code in
    let two : c + 2 ≡ c + 1 + 1 = omega arith in
    let rest = subst (λ (n : ℕ). Linked X n (skipped t d fs)) two (skipped-links X t d (c + 2) fs q.1) in
    let pop = link-cons (ins Pop (suc d) f.pos) refl rest in
    link q.0 (link (link_branch t (ins (SkipIfNotUnit t) (suc d) f.pos) refl) pop)

module _ (s : List ℕ) (rec : Rec) (L : LinksAll s rec) where
  pub coalesce-links : (X : Context) (j b d : ℕ) (p : Pools) → 1 ≤ count s j → Row s (count s j) (child j)
      → Linked X b (coalesce s rec j b d p).code
  unfolding coalesce
  coalesce-links X j b d p h r =
      let n = count s j - 1 in
      let fs = fragments s rec 2 n (child j) b d p in
      let e = b + extent 2 fs.parts in
      let v = skip s n (child j) in
      let o = rec v e d fs.pools in
      let t = e + length o.code in
      let place = ap (λ (m : ℕ). b + m) (sym (skipped-length t d fs.parts)) in
      let last = L.links X v e d fs.pools (r.each n (omega arith)) in
      link (skipped-links X t d b fs.parts (fragments-link s rec L X 2 n (child j) b d p (row-less (omega arith) r)))
      (subst (λ (m : ℕ). Linked X m o.code) place last)

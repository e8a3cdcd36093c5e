-- Laws of the iterator of a chain's links: what it gives next, and what is left then.
use Prim.Native.Nat.{ℕ, ◌-◌}
use mathlib.Core.Path.{◌≡◌, refl, sym, ap, ap₂, subst, ◌∙◌}
use mathlib.Core.Bool.{Bool, true, false}
use Rattle.std.specs.Prelude.{Option, Some, None}
use Rattle.std.specs.Bool.{then_some}
use mathlib.Core.List.{List, [], ◌∷◌, map}
use native.Mathlib.Omega.{arith}
use Rattle.lowering.proofs.ChainNodesLaws.{links-more, links-last, links-none}
use Rattle.lowering.specs.Flatten.{links, goes_on, rest_of}
use Rattle.expr_rules.specs.declared.chains.Read.{Read}
use Rattle.expr_rules.specs.declared.chains.Links.{Links}
use Rattle.expr_rules.specs.Reads.{Reads, read_of, next_of}
use Rattle.expr_rules.specs.Links.{links_from, links_left, nodes_left}

-- what is read of a link is all that a read says
pub read_is : {s : List ℕ} {c : ℕ} {p : Read} → Reads s c p → p ≡ read_of s c
read_is h = λ i. record {
  link = h.link_is i;
  next = h.next_is i;
  with = h.with_is i;
  rule = h.rule_is i;
  flag = h.flag_is i;
}

module _ (s : List ℕ) where
  -- no link is left
  pub links-end : (n : ℕ) (o : Option ℕ) → n ≡ 0 → map (read_of s) (links_from n s o) ≡ []
  links-end n None e = refl
  links-end n (Some c) e = ap (map (read_of s)) (links-none s n c (omega (arith, e)))

  -- a link, and what is behind it
  links-first : (n c : ℕ) → (n ≡ 0 → ⊥) → links n s c ≡ c ∷ links_from (n - 1) s (next_of s c)
  links-first n c some = by (goes_on s c) refl
    where
      by : (t : Bool) → goes_on s c ≡ t → links n s c ≡ c ∷ links_from (n - 1) s (then_some (goes_on s c) (rest_of s c))
      by true e = links-more s n c (omega arith) e ∙ rw e refl
      by false e = links-last s n c (omega arith) e ∙ rw e refl

  pub links-go : (n c : ℕ) {p : Read} → Reads s c p → (n ≡ 0 → ⊥)
      → map (read_of s) (links n s c) ≡ p ∷ map (read_of s) (links_from (n - 1) s p.next)
  links-go n c h some =
      ap (map (read_of s)) (links-first n c some)
      ∙ ap₂ (λ x o. x ∷ map (read_of s) (links_from (n - 1) s o)) (sym (read_is h)) (sym h.next_is)

-- ---- for whoever walks along the links of a chain

reads-own : (s : List ℕ) (c : ℕ) → Reads s c (read_of s c)
reads-own s c = record { link_is = refl; next_is = refl; with_is = refl; rule_is = refl; flag_is = refl }

links-read : (s cs : List ℕ) → map (λ (p : Read). p.link) (map (read_of s) cs) ≡ cs
links-read s [] = refl
links-read s (c ∷ cs) = ap (λ l. c ∷ l) (links-read s cs)

abbrev first_or : Read → List Read → Read
first_or d [] = d
first_or d (x ∷ xs) = x

abbrev others : List Read → List Read
others [] = []
others (x ∷ xs) = xs

-- what is left is read of the sheet
pub record Left (s : List ℕ) (it : Links) : Type 0 where
  pub reads : links_left it ≡ map (read_of s) (nodes_left it)

-- an iterator of these links
pub record Begun (s : List ℕ) (it : Links) (cs : List ℕ) : Type 0 where
  pub left : Left s it
  pub nodes : nodes_left it ≡ cs

pub links-begin : {s : List ℕ} {it : Links} {cs : List ℕ} → links_left it ≡ map (read_of s) cs → Begun s it cs
links-begin {s} {it} {cs} h =
    let nodes : nodes_left it ≡ cs = ap (map (λ p. p.link)) h ∙ links-read s cs in
    record { left = record { reads = h ∙ ap (map (read_of s)) (sym nodes) }; nodes = nodes }

-- one gave what its next link says, and is t behind it
pub record Turn (s : List ℕ) (it : Links) (p : Read) (t : Links) : Type 0 where
  pub says : Reads s p.link p
  pub nodes : nodes_left it ≡ p.link ∷ nodes_left t
  pub left : Left s t

pub links-turn : {s : List ℕ} {it : Links} (t : Links) {p : Read} → Left s it → links_left it ≡ p ∷ links_left t → Turn s it p t
links-turn {s} {it} t {p} l h =
    let nodes : nodes_left it ≡ p.link ∷ nodes_left t = ap (map (λ p. p.link)) h in
    let whole : p ∷ links_left t ≡ read_of s p.link ∷ map (read_of s) (nodes_left t) =
    sym h ∙ l.reads ∙ ap (map (read_of s)) nodes in record {
      says = subst (Reads s p.link) (sym (ap (first_or p) whole)) (reads-own s p.link);
      nodes = nodes;
      left = record { reads = ap others whole };
    }

pub links-over : (it : Links) → links_left it ≡ [] → nodes_left it ≡ []
links-over it h = ap (map (λ p. p.link)) h

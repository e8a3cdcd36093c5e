-- The parts of the front of an image, in their order, are the front; how long it is.
use Prim.Native.Nat.{ℕ}
use mathlib.Core.Path.{◌≡◌, refl, sym, ap, ◌∙◌}
use mathlib.Core.List.{List, [], ◌++◌, append_assoc, append-nil}
use lib.ListN.{length}
use Rattle.bytecode.specs.Chain.{chain_words}
use Rattle.bytecode.specs.Switch.{switch_words, case_words, range_words}
use Rattle.lowering.specs.Limits.{sizes_words}
use Rattle.lowering.specs.Code.{code_words, positions}
use Rattle.lowering.specs.Pools.{steps_words}
use Rattle.lowering.specs.Out.{Out}
use Rattle.lowering.specs.Program.{Program, plain}
use Rattle.lowering.specs.Image.{section, const_words, name_words, sizes, words}
use Rattle.expr_model.specs.Made.{Made, made}
use Rattle.write_front.specs.Front.{front_sizes, front, code_part, pools_part, chains_part}

pub sizes-length : (a : Made) (sw ca ra : ℕ) → length (front_sizes a sw ca ra) ≡ sizes_words
unfolding front_sizes
sizes-length a sw ca ra = refl

-- what is joined behind a list
module _ (x : List ℕ) where
  two-behind : (a b : List ℕ) → x ++ (a ++ b) ≡ (x ++ a) ++ b
  two-behind a b = sym (append_assoc x a b)

  four-behind : (a b c d : List ℕ) → x ++ (a ++ b ++ c ++ d) ≡ x ++ a ++ b ++ c ++ d
  four-behind a b c d =
      two-behind (a ++ b ++ c) d
      ∙ ap (λ (l : List ℕ). l ++ d) (two-behind (a ++ b) c ∙ ap (λ (l : List ℕ). l ++ c) (two-behind a b))

pub front-parts : (a : Made) (sw ca ra : ℕ) → front_sizes a sw ca ra ++ code_part a ++ pools_part a ++ chains_part a ≡ front a sw ca ra
unfolding front code_part pools_part chains_part
front-parts a sw ca ra =
    let p = a.pools in
    let z = front_sizes a sw ca ra in
    let c = code_words a.code in
    let i = positions a.code in
    let ks = section const_words p.consts in
    let ns = section name_words p.names in
    let hs = section chain_words p.chains in
    ap (λ (l : List ℕ). l ++ (ks ++ ns ++ p.tokens ++ p.residuals) ++ (hs ++ steps_words p.steps)) (two-behind z c i)
    ∙ ap (λ (l : List ℕ). l ++ (hs ++ steps_words p.steps)) (four-behind (z ++ c ++ i) ks ns p.tokens p.residuals)
    ∙ two-behind (z ++ c ++ i ++ ks ++ ns ++ p.tokens ++ p.residuals) hs (steps_words p.steps)

-- the words of a program
pub words-front :
    (r : Program) (d : ℕ) → words r
    ≡ front (made r.code r.pools d) (length r.switches) (length r.cases) (length r.ranges)
    ++ section switch_words r.switches
    ++ section case_words r.cases
    ++ section range_words r.ranges
unfolding words sizes front front_sizes
words-front r d = refl

-- of an expression
pub plain-front : (o : Out) (d : ℕ) → words (plain o) ≡ front (made o.code o.pools d) 0 0 0
unfolding plain section
plain-front o d =
    let f = front (made o.code o.pools d) 0 0 0 in
    words-front (plain o) d ∙ append-nil (f ++ [] ++ []) ∙ append-nil (f ++ []) ∙ append-nil f

-- How many words each section has.
use Prim.Native.Nat.{ℕ, ◌*◌}
use mathlib.Core.Path.{◌≡◌, ap, ◌∙◌}
use mathlib.Core.List.{List, map}
use lib.ListN.{length, length-map}
use Rattle.lowering.proofs.Widths.{chain-width, const-width, name-width}
use Rattle.lowering.proofs.Parts.{section-length}
use Rattle.bytecode.specs.declared.Chain.{Chain}
use Rattle.bytecode.specs.Chain.{chain_words}
use Rattle.lowering.specs.Limits.{const_width, name_width, chain_width}
use Rattle.lowering.specs.Pools.{Const, Name, const_of}
use Rattle.lowering.specs.Image.{section, const_words, name_words}
use Rattle.scratch_keys.specs.Keys.{name_of}

pub consts-length : (cs : List Const) → length (section const_words cs) ≡ const_width * length cs
consts-length cs = section-length const_words const_width const-width cs

pub names-length : (ns : List Name) → length (section name_words ns) ≡ name_width * length ns
names-length ns = section-length name_words name_width name-width ns

pub chain-words-length : (cs : List Chain) → length (section chain_words cs) ≡ chain_width * length cs
chain-words-length cs = section-length chain_words chain_width chain-width cs

-- by the keys
pub consts-long : (s ks : List ℕ) → length (section const_words (map (const_of s) ks)) ≡ const_width * length ks
consts-long s ks = consts-length (map (const_of s) ks) ∙ ap (λ (n : ℕ). const_width * n) (length-map ks (const_of s))

pub names-long : (s ks : List ℕ) → length (section name_words (map (name_of s) ks)) ≡ name_width * length ks
names-long s ks = names-length (map (name_of s) ks) ∙ ap (λ (n : ℕ). name_width * n) (length-map ks (name_of s))

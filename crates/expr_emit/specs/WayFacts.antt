-- What is known of a call that goes a way: counts, captures and keys.
use Rattle.std.specs.Prelude.{◌≡◌, ℕ, ◌<◌, true, false, List}
use Rattle.sheet.specs.Node.{count, field_a, field_b, child}
use Rattle.lowering.specs.Pools.{name, own_name}
use Rattle.lowering.specs.Call.{stores_token}
use Rattle.scratch_keys.specs.Keys.{key_of, name_of}
use Rattle.scratch_keys.specs.Used.{TokenKey, NameKey}
use Rattle.expr_emit.specs.declared.calls.Way.{Way}
use Rattle.expr_emit.specs.declared.calls.Way.TheVariants.{FnPtr, FnPtrCall, Local, Named, This, Value, Eval, Kept, InLocal, InNamed, InThis}
use Rattle.expr_emit.specs.declared.calls.Way.TheVariants.{InValue}
use Rattle.expr_emit.specs.Plain.{Plain}

-- a call through a receiver
pub record Refers (s : List ℕ) (j : ℕ) : Type 0 where
  pub key : NameKey s (key_of j 0)
  pub plain : Plain s j
  pub few : count s j < 256

-- a call of values: with a token its name has no mark, else the mark says whether it captures
pub record Calls (s : List ℕ) (j : ℕ) : Type 0 where
  pub key : NameKey s (key_of j 0)
  pub token : TokenKey s j
  pub few : count s j < 256
  pub capture : field_b s j < 2
  pub tokened : stores_token s j ≡ true → Plain s j
  pub marked : stores_token s j ≡ false → name_of s (key_of j 0) ≡ name (field_a s j) (field_b s j)

-- a call through a name
pub record Names (s : List ℕ) (j : ℕ) : Type 0 where
  pub refers : Refers s j
  pub first : NameKey s (key_of (child j) 0)
  pub plain : Plain s (child j)

-- a call with a namespace: the mark says whether it captures
pub record Qualifies (s : List ℕ) (j : ℕ) : Type 0 where
  pub key : NameKey s (key_of j 0)
  pub own : name_of s (key_of j 0) ≡ own_name s j (field_b s j)
  pub few : count s j < 256
  pub capture : field_b s j < 2

-- through a name
pub record QualifiedNames (s : List ℕ) (j : ℕ) : Type 0 where
  pub qualifies : Qualifies s j
  pub first : NameKey s (key_of (child j) 0)
  pub plain : Plain s (child j)

abbrev pub Facts : Way → List ℕ → ℕ → Type 0
Facts FnPtr s j = Prim.Unit {0}
Facts FnPtrCall s j = Prim.Unit {0}
Facts (Local slot) s j = Refers s j
Facts Named s j = Names s j
Facts This s j = Refers s j
Facts Value s j = Calls s j
Facts (InLocal slot) s j = Qualifies s j
Facts InNamed s j = QualifiedNames s j
Facts InThis s j = Qualifies s j
Facts InValue s j = Qualifies s j
Facts Eval s j = Prim.Unit {0}
Facts Kept s j = Prim.Unit {0}

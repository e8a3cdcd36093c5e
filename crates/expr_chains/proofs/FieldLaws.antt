-- Steps with equal fields are equal.
use Prim.Native.Nat.{ℕ}
use mathlib.Core.Path.{◌≡◌, ap, ap₂, ◌∙◌}
use Rattle.bytecode.specs.declared.Step.TheVariants.{Index, Method}

pub index-by : (n : ℕ) {f g p q b d : ℕ} → f ≡ g → p ≡ q → b ≡ d → Index n f p b ≡ Index n g q d
index-by n {g = g} {p = p} {d = d} e h i = ap₂ (λ f b. Index n f p b) e i ∙ ap (λ p. Index n g p d) h

pub method-by : (name n : ℕ) {m k f g p q : ℕ} → m ≡ k → f ≡ g → p ≡ q → Method name m n f p ≡ Method name k n g q
method-by name n {k = k} {g = g} {p = p} e h i = ap₂ (λ m f. Method name m n f p) e h ∙ ap (Method name k n g) i

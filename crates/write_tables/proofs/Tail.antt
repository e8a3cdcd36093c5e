-- The words of a program: the front and the three sections of tables, each written behind the other, and how many words each has.
use Prim.Native.Nat.{ℕ, ◌+◌, ◌*◌, ◌≤◌}
use mathlib.Core.Path.{◌≡◌, sym, ap, ◌∙◌}
use mathlib.Core.List.{List, ◌++◌}
use native.Mathlib.Omega.{arith}
use lib.ListN.{length, drop, length-append}
use Rattle.lowering.proofs.Widths.{switch-width, case-width, range-width}
use Rattle.lowering.proofs.Parts.{section-length}
use Rattle.bytecode.specs.declared.Switch.{Switch}
use Rattle.bytecode.specs.declared.SwitchCase.{SwitchCase}
use Rattle.bytecode.specs.declared.SwitchRange.{SwitchRange}
use Rattle.bytecode.specs.Switch.{switch_words, case_words, range_words}
use Rattle.lowering.specs.Limits.{switch_width, case_width, range_width}
use Rattle.lowering.specs.Image.{section, words}
use Rattle.lowering.specs.Program.{Program}
use Rattle.expr_model.specs.Made.{made}
use Rattle.write_rows.specs.TableRows.{tables_of, table_count}
use Rattle.write_rows.proofs.TableLaws.{tables-length}
use Rattle.write_front.specs.Front.{front}
use Rattle.write_front.proofs.FrontFacts.{words-front}
use Rattle.write_front.specs.Puts.{Puts}
use Rattle.write_front.proofs.PutsLaws.{puts-as, puts-next, puts-start}

switches-length : (ts : List Switch) → length (section switch_words ts) ≡ switch_width * length ts
switches-length ts = section-length switch_words switch_width switch-width ts

pub cases-length : (cs : List SwitchCase) → length (section case_words cs) ≡ case_width * length cs
cases-length cs = section-length case_words case_width case-width cs

pub ranges-length : (rs : List SwitchRange) → length (section range_words rs) ≡ range_width * length rs
ranges-length rs = section-length range_words range_width range-width rs

-- of the tables that are written
pub switch-words :
    (n fallback m default : ℕ) → length (section switch_words (tables_of n fallback m default)) ≡ switch_width * table_count m
switch-words n fallback m default =
    switches-length (tables_of n fallback m default) ∙ ap (λ (i : ℕ). switch_width * i) (tables-length n fallback m default)

module _ (r : Program) (d : ℕ) where
  abbrev pub before : List ℕ
  before = front (made r.code r.pools d) (length r.switches) (length r.cases) (length r.ranges)

  pub words-length :
      length (words r)
      ≡ length before + switch_width * length r.switches + case_width * length r.cases + range_width * length r.ranges
  words-length =
      let parts = simp length-append at (ap length (words-front r d)) in
      omega (arith, switches-length r.switches, cases-length r.cases, ranges-length r.ranges)

  pub words_are :
      {x y z u v : List ℕ} {m n o p : ℕ} → Puts x y 0 m before → Puts y z m n (section switch_words r.switches)
      → Puts z u n o (section case_words r.cases) → Puts u v o p (section range_words r.ranges) → length (words r) ≤ length x
      → v ≡ words r ++ drop (length (words r)) x
  words_are one two three four h =
      let all = puts-next _ _ (puts-next _ _ (puts-next _ _ one two) three) four in
      puts-start (words r) (puts-as _ (words r) (sym (words-front r d)) all) h

-- What the counts of a Switch tell, by its own locals and by others.
use Prim.Native.Nat.{ℕ}
use mathlib.Core.Path.{◌≡◌, ap, subst, ◌∙◌}
use mathlib.Core.Bool.{Bool}
use mathlib.Core.List.{List}
use Rattle.checks.specs.Checked.{verdict_number}
use Rattle.sheet.specs.Limits.{max_depth}
use Rattle.sheet.specs.Sections.{node_count}
use Rattle.sheet.specs.Node.{kind}
use Rattle.lowering.specs.Kinds.{switch_kind}
use Rattle.expr_count.specs.declared.tallies.Tally.{Tally}
use Rattle.expr_count.specs.Tally.{taken_back, capped}
use Rattle.expr_count.specs.Locals.{answer}
use Rattle.expr_count.specs.declared.locals.Locals.TheVariants.{Sought, All, Nobody}
use Rattle.expr_count.proofs.LocalLaws.{sought-answer, all-locals, no-locals}
use Rattle.expr_count.specs.Count.{tally_by, tally}
use Rattle.switch_count.specs.Total.{switch_total}
use Rattle.switch_places.specs.Counted.{Counted}
use Rattle.needs.specs.Counts.{Counts, early, Decides, Exact}
use Rattle.needs.proofs.CountLaws.{plain-counted, switch-counted}
use Rattle.needs.proofs.DecideLaws.{exact-decides, greater-decides, cut-back, plain-between, switch-between}

-- the same count by locals that are the same
by-locals : {here there : ℕ → Bool} (s w : List ℕ) (r : Tally) → here ≡ there → Counted s (tally_by here max_depth s) w r
    → Counted s (tally_by there max_depth s) w r
by-locals s w r e C = subst (λ (h : ℕ → Bool). Counted s (tally_by h max_depth s) w r) e C

module _ (s w : List ℕ) (r : Tally) where
  pub sought-counts : Counted s (tally_by (answer Sought s) max_depth s) w r → Counted s (tally max_depth s) w r
  sought-counts C = by-locals s w r (sought-answer s) C

  module _ (C : Counted s (tally max_depth s) w r) where
    pub exact-table : Exact s w
    unfolding switch_total
    exact-table = record { tables = C.tables; placed = C.placed }

    pub exact-total : taken_back r ≡ capped (taken_back (switch_total s))
    unfolding switch_total
    exact-total = C.total

    pub exact-switch : (m : ℕ) → kind s 0 ≡ switch_kind → Decides s m r
    exact-switch m h = exact-decides s m (switch-counted s r h exact-total)

-- with no Variable a local, and with all of them
pub greater-switch : (s w v : List ℕ) (m : ℕ) (t u : Tally) {nodes : ℕ} → kind s 0 ≡ switch_kind
    → Counted s (tally_by (answer Nobody s) max_depth s) w u → Counted s (tally_by (answer All s) max_depth s) v t
    → nodes ≡ node_count s
    → early t.defeated t.emitted m nodes ≡ early u.defeated u.emitted m nodes
    → Decides s m u
greater-switch s w v m t u h high low n-is same =
    let between = switch-between s h in
    greater-decides s m _ _ t u between.0 between.1 (by-locals s v t (all-locals s) low).total
    (by-locals s w u (no-locals s) high).total n-is (ap verdict_number same)

-- ---- an expression

-- by its own locals
pub sought-plain : (s : List ℕ) (r : Tally) → (kind s 0 ≡ switch_kind → ⊥) → r ≡ capped (tally_by (answer Sought s) max_depth s 0)
    → Counts s r
sought-plain s r h e =
    plain-counted s r h (e ∙ ap (λ (here : ℕ → Bool). capped (tally_by here max_depth s 0)) (sought-answer s))

-- with no Variable a local, and with all of them
pub greater-plain : (s : List ℕ) (m : ℕ) (t u : Tally) {nodes : ℕ} → (kind s 0 ≡ switch_kind → ⊥)
    → u ≡ capped (tally_by (answer Nobody s) max_depth s 0) → t ≡ capped (tally_by (answer All s) max_depth s 0)
    → nodes ≡ node_count s
    → early t.defeated t.emitted m nodes ≡ early u.defeated u.emitted m nodes
    → Decides s m u
greater-plain s m t u h u-is t-is n-is same =
    let between = plain-between s h in
    let by = λ (here : ℕ → Bool). capped (tally_by here max_depth s 0) in
    greater-decides s m _ _ t u between.0 between.1 (cut-back _ (t-is ∙ ap by (all-locals s)))
    (cut-back _ (u-is ∙ ap by (no-locals s))) n-is (ap verdict_number same)

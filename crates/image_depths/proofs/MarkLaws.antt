-- One law for each way through the code that finds the marks.
use Prim.Native.Nat.{ℕ, zero, suc, ◌+◌, ◌-◌, ◌<◌}
use mathlib.Core.Path.{◌≡◌, refl, sym, ap, ap₂, ◌∙◌, subst}
use mathlib.Core.Bool.{Bool, true, false, true≢false}
use mathlib.Core.List.{List}
use native.Mathlib.Omega.{arith}
use native.Mathlib.Numerals.{add-one}
use mathlib.Core.Logic.{◌⊎◌, inl, inr}
use lib.ListN.{get_or}
use borrow.Author.Tests.{eq-eqb, ne_eqb}
use Rattle.image_rule.proofs.WordLaws.{row-there, default-there}
use Rattle.zeros.specs.Zeros.{zeros}
use Rattle.bytecode.specs.Effect.{Flow, on, jump, branch, table}
use Rattle.bytecode.specs.Coded.{flow_of}
use Rattle.bytecode.specs.declared.table.Flow.TheVariants as flows
use Rattle.bytecode.specs.declared.table.Flow.TheVariants.{On, Jump, Branch, Table}
use Rattle.lowering.specs.Words.{instructions, a_at, switch_word}
use Rattle.lowering.specs.Run.{pops, row_target, table_target, branch_target}
use Rattle.image_rule.specs.Marks.{mark, marks_there, table_node, flow_at, after, edge, edges}
use Rattle.image_rule.specs.Marks.{come, comes, enter, opened, hand_on, pass_by, marked}
use Rattle.image_rule.proofs.ComeLaws.{come-new}
use Rattle.image_rule.proofs.Right.{TablesNamed}
use Rattle.image_rows.specs.AllRows.{Pooled}
use Rattle.image_rows.specs.Scratch.{Seen, Does}
use Rattle.image_rows.proofs.SeenLaws.{comes-same, settled-there, come-settled, did_none, did-come, did-both}
use Rattle.image_depths.specs.declared.Code.{Code}
use Rattle.image_depths.specs.Checked.{RowsPooled}
use Rattle.image_depths.specs.Passing.{Read, Ways, PooledAt, Deep, Passed, MarkedAll}

-- the same change in other words
did-same : (w : List ℕ) (F G : List ℕ → List ℕ) (l n l' n' : List ℕ) → F l ≡ G l → Does w F l n l' n' → Does w G l n l' n'
did-same w F G l n l' n' e D S = let d = D S in record { marks = d.marks ∙ e; seen = d.seen }

-- a table without a mark: its rows and its default are come to
enter-new : (w : List ℕ) (i m : ℕ) (l : List ℕ) → mark l (table_node w i) ≡ 0
    → come m (comes m (row_target w i) (switch_word w i 2) l) (switch_word w i 3) ≡ enter w i m l
unfolding enter comes
enter-new w i m l z =
    let n = switch_word w i 2 in
    rw (eq-eqb (mark l (table_node w i)) 0 z, enter)
    (ap (λ (x : List ℕ). come m x (switch_word w i 3)) (comes-same m (row_target w i) (table_target w i) n l (λ r h. sym (row-there w i r h)))
    ∙ ap (come m (comes m (table_target w i) n l)) (sym (default-there w i)))

-- a table with a mark: nothing changes
enter-old : (w : List ℕ) (i m : ℕ) (l : List ℕ) → (mark l (table_node w i) ≡ 0 → ⊥) → enter w i m l ≡ l
unfolding enter
enter-old w i m l z = rw (ne_eqb (mark l (table_node w i)) 0 z, enter)

module _ (w : List ℕ) (i m node x : ℕ) (l n : List ℕ) (there : node ≡ table_node w i) (e : x ≡ mark l node) where
  at-node : x ≡ mark l (table_node w i)
  at-node = e ∙ ap (mark l) there

  pub entered-old : (x ≡ 0 → ⊥) → Does w (enter w i m) l n l n
  entered-old z = did-same w (λ a. a) (enter w i m) l n l n (sym (enter-old w i m l (λ q. z (at-node ∙ q)))) (did_none w l n)

  pub entered-new : (d : ℕ) (l₁ n₁ l₂ : List ℕ) → x ≡ 0 → Does w (comes m (row_target w i) (switch_word w i 2)) l n l₁ n₁
      → d ≡ switch_word w i 3 → l₂ ≡ come m l₁ d → Does w (enter w i m) l n l₂ n₁
  entered-new d l₁ n₁ l₂ z R g D =
      let rows = comes m (row_target w i) (switch_word w i 2) in
      did-same w (λ a. come m (rows a) d) (enter w i m) l n l₂ n₁ (ap (come m (rows l)) g ∙ enter-new w i m l (sym at-node ∙ z))
      (did-both w rows (λ a. come m a d) l n l₁ n₁ l₂ n₁ R (did-come w m d l₁ n₁ l₂ D))

-- the two ways of an instruction that was read
module _ (w : List ℕ) (p : ℕ) (c : Code) (R : Read w p c) where
  to : (F : Flow) → flow_of c.flow ≡ F → (x y : ℕ) → x ≡ edge F w p 0 → y ≡ edge F w p 1 → Ways w p x y
  to F f x y a b =
      let same : F ≡ flow_at w p = sym f ∙ R.flow in
      record { first = a ∙ ap (λ G. edge G w p 0) same; second = b ∙ ap (λ G. edge G w p 1) same }

  pub ways-table : (x y : ℕ) → c.flow ≡ Table → x ≡ table_node w c.a → y ≡ table_node w c.a → Ways w p x y
  unfolding edge flow_of
  ways-table x y f a b = to table (ap flow_of f) x y (a ∙ ap (table_node w) R.a) (b ∙ ap (table_node w) R.a)

  pub ways-branch : c.flow ≡ Branch → Ways w p (p + 1) c.a
  unfolding edge branch_target flow_of
  ways-branch f = to branch (ap flow_of f) (p + 1) c.a refl R.a

  pub ways-jump : c.flow ≡ Jump → Ways w p c.a c.a
  unfolding edge flow_of
  ways-jump f = to jump (ap flow_of f) c.a c.a R.a R.a

  pub ways-on : c.flow ≡ On → Ways w p (p + 1) (p + 1)
  unfolding edge flow_of
  ways-on f = to on (ap flow_of f) (p + 1) (p + 1) refl refl

-- a Switch opens its table
is-table : (F : Flow) (w : List ℕ) (p m : ℕ) (l : List ℕ) → F ≡ table → enter w (a_at w p) m l ≡ opened F w p m l
unfolding opened
is-table F w p m l e = rw e refl

pub open-switch : (w : List ℕ) (c : Code) (p m : ℕ) (l n l' n' : List ℕ) → c.flow ≡ Table
    → (Pooled w c.a → 0 < m → Does w (enter w c.a m) l n l' n')
    → Read w p c → PooledAt w p → 0 < m → Does w (opened (flow_at w p) w p m) l n l' n'
unfolding flow_of
open-switch w c p m l n l' n' f D R Q h =
    let by = sym R.flow ∙ ap flow_of f in
    let pooled : Pooled w c.a = subst (Pooled w) (sym R.a) (Q by) in
    did-same w (enter w c.a m) (opened (flow_at w p) w p m) l n l' n'
    (ap (λ (i : ℕ). enter w i m l) R.a ∙ is-table (flow_at w p) w p m l by) (D pooled h)

-- any other instruction opens none
opens-none : (f : flows.the_data) (F : Flow) (w : List ℕ) (p m : ℕ) (l : List ℕ) → (f ≡ Branch) ⊎ ((f ≡ Jump) ⊎ (f ≡ On)) → flow_of f ≡ F
    → l ≡ opened F w p m l
unfolding flow_of opened
opens-none f F w p m l (inl e) h = subst (λ G. l ≡ opened G w p m l) (ap flow_of (sym e) ∙ h) refl
opens-none f F w p m l (inr (inl e)) h = subst (λ G. l ≡ opened G w p m l) (ap flow_of (sym e) ∙ h) refl
opens-none f F w p m l (inr (inr e)) h = subst (λ G. l ≡ opened G w p m l) (ap flow_of (sym e) ∙ h) refl

pub open-none : (w : List ℕ) (c : Code) (p m : ℕ) (l n : List ℕ) → (c.flow ≡ Branch) ⊎ ((c.flow ≡ Jump) ⊎ (c.flow ≡ On))
    → Read w p c → Does w (opened (flow_at w p) w p m) l n l n
open-none w c p m l n f R =
    did-same w (λ a. a) (opened (flow_at w p) w p m) l n l n (opens-none c.flow (flow_at w p) w p m l f R.flow) (did_none w l n)

-- where both ways are one, the second mark changes nothing
come-twice : (m : ℕ) (l : List ℕ) (t : ℕ) → 0 < m → come m (come m l t) t ≡ come m l t
come-twice m l t h = come-settled m (come m l t) t (settled-there m l t h)

two-ways : (F : Flow) (w : List ℕ) (p m : ℕ) (l : List ℕ) → 0 < m
    → come m (come m l (edge F w p 0)) (edge F w p 1) ≡ comes m (edge F w p) (edges F) l
unfolding comes edges edge branch_target
two-ways on w p m l h = come-twice m l (p + 1) h
two-ways jump w p m l h = come-twice m l (a_at w p) h
two-ways branch w p m l h = refl
two-ways table w p m l h = come-twice m l (table_node w (a_at w p)) h

pub handed : (w : List ℕ) (p m x y : ℕ) (l n l₁ n₁ l₂ l₃ : List ℕ) → Does w (opened (flow_at w p) w p m) l n l₁ n₁ → Ways w p x y
    → l₂ ≡ come m l₁ x → l₃ ≡ come m l₂ y → 0 < m → Does w (hand_on (flow_at w p) w p m) l n l₃ n₁
unfolding hand_on
handed w p m x y l n l₁ n₁ l₂ l₃ D W e g h =
    let F = flow_at w p in
    let o = opened F w p m in
    did-same w (λ q. come m (come m (o q) x) y) (hand_on F w p m) l n l₃ n₁
    (ap₂ (λ (i j : ℕ). come m (come m (o l) i) j) W.first W.second ∙ two-ways F w p m (o l) h)
    (did-both w (λ q. come m (o q) x) (λ q. come m q y) l n l₂ n₁ l₃ n₁
    (did-both w o (λ q. come m q x) l n l₁ n₁ l₂ n₁ D (did-come w m x l₁ n₁ l₂ e)) (did-come w m y l₂ n₁ l₃ g))

-- the pass at one place
pub after_read : (w : List ℕ) (p : ℕ) (c : Code) (d n : ℕ) → n ≡ d - c.pops + c.pushes → Read w p c → n ≡ after w p d
after_read w p c d n e R = e ∙ ap (λ (x : ℕ). d - x + c.pushes) R.pops ∙ ap (λ (x : ℕ). d - pops w p + x) R.pushes

module _ (w : List ℕ) (p m : ℕ) (l n : List ℕ) (there : m ≡ mark l p) where
  -- no run comes here: nothing is handed on
  pub passed_none : m ≡ 0 → Passed w p l n l n true
  unfolding pass_by
  passed_none z = record {
    done = λ h. did-same w (λ a. a) (λ a. pass_by (mark a p) w p a) l n l n (ap (λ (x : ℕ). pass_by x w p l) (sym (sym there ∙ z)))
        (did_none w l n);
    deep = λ h. absurd (true≢false h);
  }

  -- the mark to hand on has no room in a word
  pub passed_deep : (c : Code) (k : ℕ) (l' n' : List ℕ) → (m ≡ 0 → ⊥) → k ≡ (m - 1) - c.pops + c.pushes → 4294967295 < k + 1
      → Read w p c → Passed w p l n l' n' false
  passed_deep c k l' n' z g h R = record {
    done = λ q. absurd (true≢false (sym q));
    deep = λ q. record {
      depth = m - 1;
      there = omega (arith, there, z);
      large = subst (λ (x : ℕ). 4294967295 < suc x) (after_read w p c (m - 1) k g R) (omega arith);
    };
  }

  -- the mark is handed on
  pub passed_on : (c : Code) (k : ℕ) (l' n' : List ℕ) → (m ≡ 0 → ⊥) → k ≡ (m - 1) - c.pops + c.pushes
      → (Read w p c → PooledAt w p → 0 < k + 1 → Does w (hand_on (flow_at w p) w p (k + 1)) l n l' n')
      → Read w p c → PooledAt w p → Passed w p l n l' n' true
  unfolding pass_by
  passed_on c k l' n' z g D R Q =
      let some : mark l p ≡ suc (m - 1) = omega (arith, there, z) in
      let next : k + 1 ≡ suc (after w p (m - 1)) = omega (arith, after_read w p c (m - 1) k g R) in
      record {
        done = λ q. did-same w (hand_on (flow_at w p) w p (k + 1)) (λ a. pass_by (mark a p) w p a) l n l' n'
            (ap (λ (x : ℕ). hand_on (flow_at w p) w p x l) next ∙ ap (λ (x : ℕ). pass_by x w p l) (sym some)) (D R Q (omega arith));
        deep = λ q. absurd (true≢false q);
      }

-- the pass over the whole code: places below p have handed on their marks
pub record Held (w : List ℕ) (p : ℕ) (l n : List ℕ) : Type 0 where
  pub marks : l ≡ marked w (marks_there w) p
  pub seen : Seen w l n

-- a scratch of zeros has no mark
zeros-at : (n j : ℕ) → get_or (zeros n) j 0 ≡ 0
zeros-at zero j = refl
zeros-at (suc n) zero = refl
zeros-at (suc n) (suc j) = zeros-at n j

-- place 0 has the first mark
pub held_start : (w l n l' : List ℕ) (i k : ℕ) → l ≡ zeros i → n ≡ zeros k → l' ≡ come 1 l 0 → i ≡ marks_there w → Held w 0 l' n
unfolding marked
held_start w l n l' i k e g h s = record {
  marks = h ∙ ap (λ (x : List ℕ). come 1 x 0) (e ∙ ap zeros s) ∙ come-new 1 (zeros (marks_there w)) 0 (zeros-at (marks_there w) 0);
  seen = record { seen = λ q j a b. absurd (omega (arith, ap (λ (x : List ℕ). get_or x q 0) g ∙ zeros-at k q)) };
}

-- one more place is passed
pub held_on : (w : List ℕ) (p : ℕ) (l n l' n' : List ℕ) (r : Bool) → Held w p l n → Passed w p l n l' n' r → r ≡ true → Held w (p + 1) l' n'
unfolding marked
held_on w p l n l' n' r H T t =
    let D = T.done t H.seen in
    record {
      marks = D.marks ∙ ap (λ (x : List ℕ). pass_by (mark x p) w p x) H.marks ∙ ap (marked w (marks_there w)) (sym (add-one p));
      seen = D.seen;
    }

-- the rows of the table that p names are there
pub pooled-at : (w : List ℕ) (p : ℕ) → TablesNamed w → RowsPooled w → p < instructions w → PooledAt w p
pooled-at w p N R h f = R (a_at w p) (N p h f)

-- the pass stopped
pub held-deep : (w : List ℕ) (p : ℕ) (l n l' n' l'' : List ℕ) (r : Bool) → p < instructions w → Held w p l n → Passed w p l n l' n' r
    → r ≡ false → MarkedAll w l'' false
held-deep w p l n l' n' l'' r b H T t = record {
  done = λ z. absurd (true≢false (sym z));
  deep = λ z. record { place = p; inside = b; deep = subst (λ (x : List ℕ). Deep w x p) H.marks (T.deep t) };
}

-- the pass went to the end
pub held-done : (w : List ℕ) (p : ℕ) (l n : List ℕ) → p ≡ instructions w → Held w p l n → MarkedAll w l true
held-done w p l n e H = record {
  done = λ z. H.marks ∙ ap (marked w (marks_there w)) e;
  deep = λ z. absurd (true≢false z);
}

-- The chains of a switch, laid out, add what their tallies say, and want the bodies that their lists do.
use Prim.Native.Nat.{ℕ, ◌+◌}
use mathlib.Core.Path.{◌≡◌, refl, sym, ap, ◌∙◌}
use mathlib.Core.Bool.{Bool, true, false, ◌||◌, or_assoc}
use mathlib.Core.List.{List, [], ◌∷◌, ◌++◌}
use native.Mathlib.Omega.{arith}
use lib.Dec.{eqb}
use lib.ListN.{length}
use Rattle.lowering.proofs.DropLaws.{entry-wants}
use Rattle.lowering.specs.Pools.{Pools, emits}
use Rattle.lowering.specs.Out.{Rec}
use Rattle.lowering.specs.SwitchSheet.{guard_of}
use Rattle.lowering.specs.Arms.{Try, End, taken, declined, idle, Entry, Tries, Guard, never, always, tried, guard_kind, try_at, tries_of}
use Rattle.lowering.specs.Arms.{entry_from, tries_extent, end_extent, entry_extent, end_emits, Arm, arms_extent, arm_chains, drop_end, drop_entry}
use Rattle.lowering.specs.Arms.{drop_idle_jump}
use Rattle.lowering.specs.Bodies.{try_wants, end_wants, wanted}
use Rattle.expr_count.specs.declared.tallies.Tally.{Tally}
use Rattle.expr_count.specs.Tally.{instructions, nothing, plus, taken_back}
use Rattle.expr_count.specs.Count as Count
use Rattle.expr_count.proofs.Adds.{Adds, Counts, adds_none, adds-emits, adds-seq, adds-length, adds-tally}
use Rattle.switch_count.specs.Arms.{tries_tally, end_of, has_try, wants, any_wants, end_tally, arm_tally, arms_tally, idle_tally, last_tally}
use Rattle.switch_count.specs.Arms.{falls_tally}

-- a list of tries is empty or not
unfoldable pub some : List Try → Bool
some [] = false
some (x ∷ xs) = true

-- what the tries of a list come to: their tally, the end, whether there are any, the blocks that they reach
pub record Sums (p : Pools) (a : Tally) (e : End) (b : Bool) (w : ℕ → Bool) (r : Tries) : Type 0 where
  pub adds : Adds p a (tries_extent r.tries) r.pools
  pub end_is : r.end ≡ e
  pub some_is : some r.tries ≡ b
  pub wants-are : (k : ℕ) → (try_wants k r.tries || end_wants k r.end) ≡ w k

abbrev pub SumsOf : List ℕ → Count.Rec → List ℕ → Pools → Tries → Type 0
SumsOf s t ks p r = Sums p (tries_tally s t ks) (end_of s ks) (has_try s ks) (λ k. wants s k ks) r

module _ (s : List ℕ) (rec : Rec) (t : Count.Rec) (C : Counts rec t) where
  -- one more guard that is tried
  try-sum : (k b : ℕ) (ks : List ℕ) (p : Pools)
      → ((b' : ℕ) (p' : Pools) → SumsOf s t ks p' (tries_of s rec ks b' p'))
      → Sums p (plus (plus (t (guard_of s k)) (instructions 1)) (tries_tally s t ks)) (end_of s ks) true (λ j. eqb j k || wants s j ks)
      (try_at s k b (rec (guard_of s k) b 1 p)
      (tries_of s rec ks (b + length (rec (guard_of s k) b 1 p).code + 1) (emits 1 (rec (guard_of s k) b 1 p).pools)))
  unfolding try_at some tries_extent try_wants
  try-sum k b ks p rest =
      let o = rec (guard_of s k) b 1 p in
      let r = rest (b + length o.code + 1) (emits 1 o.pools) in
      record {
        adds = adds-seq (adds-seq (C.each (guard_of s k) b 1 p) (adds-emits 1 o.pools)) r.adds;
        end_is = r.end_is;
        some_is = refl;
        wants-are = λ j. or_assoc (eqb j k) _ _ ∙ ap (λ x. eqb j k || x) (r.wants-are j);
      }

  pub tries-sum : (ks : List ℕ) (b : ℕ) (p : Pools) → SumsOf s t ks p (tries_of s rec ks b p)
  unfolding tries_of tries_tally end_of has_try some wants tries_extent try_wants end_wants
  tries-sum [] b p = record { adds = adds_none p; end_is = refl; some_is = refl; wants-are = λ k. refl }
  tries-sum (k ∷ ks) b p = by (guard_kind s (guard_of s k)) refl (λ b' p'. tries-sum ks b' p')
    where
      by : (g : Guard) → guard_kind s (guard_of s k) ≡ g → ((b' : ℕ) (p' : Pools) → SumsOf s t ks p' (tries_of s rec ks b' p'))
          → SumsOf s t (k ∷ ks) p (tries_of s rec (k ∷ ks) b p)
      by never h rest = rw (h, tries_of, tries_tally, end_of, has_try, wants) (rest b p)
      by always h rest =
          rw (h, tries_of, tries_tally, end_of, has_try, wants)
          record { adds = adds_none p; end_is = refl; some_is = refl; wants-are = λ j. refl }
      by tried h rest = rw (h, tries_of, tries_tally, end_of, has_try, wants) (try-sum k b ks p rest)

-- ---- entries

-- no list ends idle
end-jumps : (s ks : List ℕ) → end_extent (end_of s ks) ≡ 1
unfolding end_of end_extent
end-jumps s [] = refl
end-jumps s (k ∷ ks) = by (guard_kind s (guard_of s k)) refl (end-jumps s ks)
  where
    by : (g : Guard) → guard_kind s (guard_of s k) ≡ g → end_extent (end_of s ks) ≡ 1 → end_extent (end_of s (k ∷ ks)) ≡ 1
    by never h r = rw (h, end_of) r
    by always h r = rw (h, end_of) refl
    by tried h r = rw (h, end_of) r

entry-adds : {p q : Pools} {a : Tally} (b : ℕ) (ts : List Try) (e : End) → end_extent e ≡ 1 → Adds p a (tries_extent ts) q
    → Adds p (plus a (end_tally (some ts))) (entry_extent (entry_from b ts e)) (emits (end_emits (entry_from b ts e)) q)
unfolding some end_tally nothing entry_from tries_extent end_extent entry_extent end_emits
entry-adds {p} {q} {a} b [] (taken k) h g = adds-seq g (adds-emits 0 q)
entry-adds {p} {q} {a} b [] declined h g = adds-seq g (adds-emits 0 q)
entry-adds {p} {q} {a} b [] idle h g = adds-seq g (adds-emits 0 q)
entry-adds {p} {q} {a} b (x ∷ xs) e h g = adds-length (ap (λ n. tries_extent (x ∷ xs) + n) h) (adds-seq g (adds-emits 1 q))

pub drop-extent : (b : ℕ) (ts : List Try) (e : End)
    → entry_extent (drop_entry (entry_from b ts e)) ≡ tries_extent ts + (idle_tally (some ts) e).len
unfolding some idle_tally instructions taken_back nothing entry_from drop_entry drop_end tries_extent end_extent entry_extent
drop-extent b [] (taken k) = refl
drop-extent b [] declined = refl
drop-extent b [] idle = refl
drop-extent b (x ∷ xs) (taken k) = refl
drop-extent b (x ∷ xs) declined = refl
drop-extent b (x ∷ xs) idle = refl

-- ---- arms

pub any_append : (s : List ℕ) (k : ℕ) (ls ms : List (List ℕ)) → any_wants s k (ls ++ ms) ≡ (any_wants s k ls || any_wants s k ms)
unfolding any_wants
any_append s k [] ms = refl
any_append s k (l ∷ ls) ms =
    ap (λ x. wants s k l || x) (any_append s k ls ms) ∙ sym (or_assoc (wants s k l) (any_wants s k ls) (any_wants s k ms))

-- emitted and defeated are the same whether a jump is dropped or not
idle-emitted : (b : Bool) (e : End) → (idle_tally b e).emitted ≡ (end_tally b).emitted
unfolding idle_tally end_tally instructions taken_back nothing
idle-emitted true (taken k) = refl
idle-emitted true declined = refl
idle-emitted true idle = refl
idle-emitted false e = refl

idle-defeated : (b : Bool) (e : End) → (idle_tally b e).defeated ≡ (end_tally b).defeated
unfolding idle_tally end_tally instructions taken_back nothing
idle-defeated true (taken k) = refl
idle-defeated true declined = refl
idle-defeated true idle = refl
idle-defeated false e = refl

module _ (s : List ℕ) (t : Count.Rec) where
  pub falls-emitted : (ls : List (List ℕ)) → (falls_tally s t ls).emitted ≡ (arms_tally s t ls).emitted
  unfolding falls_tally arms_tally last_tally arm_tally plus
  falls-emitted [] = refl
  falls-emitted (l ∷ ls) = by (eqb (arms_tally s t ls).len 0) refl (falls-emitted ls)
    where
      by : (b : Bool) → eqb (arms_tally s t ls).len 0 ≡ b → (falls_tally s t ls).emitted ≡ (arms_tally s t ls).emitted
          → (falls_tally s t (l ∷ ls)).emitted ≡ (arms_tally s t (l ∷ ls)).emitted
      by true h r = rw (h, falls_tally) (omega (arith, idle-emitted (has_try s l) (end_of s l)))
      by false h r = rw (h, falls_tally) (omega arith)

  pub falls-defeated : (ls : List (List ℕ)) → (falls_tally s t ls).defeated ≡ (arms_tally s t ls).defeated
  unfolding falls_tally arms_tally last_tally arm_tally plus
  falls-defeated [] = refl
  falls-defeated (l ∷ ls) = by (eqb (arms_tally s t ls).len 0) refl (falls-defeated ls)
    where
      by : (b : Bool) → eqb (arms_tally s t ls).len 0 ≡ b → (falls_tally s t ls).defeated ≡ (arms_tally s t ls).defeated
          → (falls_tally s t (l ∷ ls)).defeated ≡ (arms_tally s t (l ∷ ls)).defeated
      by true h r =
          rw (h, falls_tally)
          (ap (λ x. ((tries_tally s t l).defeated || x) || (arms_tally s t ls).defeated) (idle-defeated (has_try s l) (end_of s l)))
      by false h r = rw (h, falls_tally) (ap (λ x. (arm_tally s t l).defeated || x) r)

-- the length with the dropped jump, arm by arm
fall-step : (s : List ℕ) (t : Count.Rec) (l : List ℕ) (ls : List (List ℕ)) (a : Arm) (rest : List Arm)
    → entry_extent a.entry ≡ (arm_tally s t l).len → entry_extent (drop_entry a.entry) ≡ (last_tally s t l).len
    → arms_extent rest ≡ (arms_tally s t ls).len → arms_extent (drop_idle_jump rest) ≡ (falls_tally s t ls).len
    → arms_extent (drop_idle_jump (a ∷ rest)) ≡ (falls_tally s t (l ∷ ls)).len
unfolding arms_extent drop_idle_jump falls_tally plus
fall-step s t l ls a rest g d n k = by (eqb (arms_tally s t ls).len 0) refl (ap (λ m. eqb m 0) n)
  where
    by : (x : Bool) → eqb (arms_tally s t ls).len 0 ≡ x → eqb (arms_extent rest) 0 ≡ eqb (arms_tally s t ls).len 0
        → arms_extent (drop_idle_jump (a ∷ rest)) ≡ (falls_tally s t (l ∷ ls)).len
    by true h m = rw (m, h, drop_idle_jump, falls_tally) (omega arith)
    by false h m = rw (m, h, drop_idle_jump, falls_tally) (omega arith)

module _ (s : List ℕ) (rec : Rec) (t : Count.Rec) (C : Counts rec t) where
  -- the entry of a list, at place b
  abbrev pub entry_at : List ℕ → ℕ → Pools → Entry
  entry_at l b p = entry_from b (tries_of s rec l b p).tries (tries_of s rec l b p).end

  pub arm-adds : (l : List ℕ) (b : ℕ) (p : Pools)
      → Adds p (arm_tally s t l) (entry_extent (entry_at l b p)) (emits (end_emits (entry_at l b p)) (tries_of s rec l b p).pools)
  unfolding arm_tally
  arm-adds l b p =
      let r = tries-sum s rec t C l b p in
      adds-tally (ap (λ x. plus (tries_tally s t l) (end_tally x)) r.some_is)
      (entry-adds b (tries_of s rec l b p).tries (tries_of s rec l b p).end (ap end_extent r.end_is ∙ end-jumps s l) r.adds)

  pub arms-add : (ls : List (List ℕ)) (b : ℕ) (p : Pools)
      → Adds p (arms_tally s t ls) (arms_extent (arm_chains s rec ls b p).arms) (arm_chains s rec ls b p).pools
  unfolding arms_tally arms_extent arm_chains
  arms-add [] b p = adds_none p
  arms-add (l ∷ ls) b p =
      let e = entry_at l b p in
      adds-seq (arm-adds l b p) (arms-add ls (b + entry_extent e) (emits (end_emits e) (tries_of s rec l b p).pools))

  pub arms-want : (k : ℕ) (ls : List (List ℕ)) (b : ℕ) (p : Pools) → wanted k (arm_chains s rec ls b p).arms ≡ any_wants s k ls
  unfolding wanted any_wants arm_chains
  arms-want k [] b p = refl
  arms-want k (l ∷ ls) b p =
      let e = entry_at l b p in
      let r = tries-sum s rec t C l b p in
      ap (λ x. x || wanted k (arm_chains s rec ls (b + entry_extent e) (emits (end_emits e) (tries_of s rec l b p).pools)).arms)
      (entry-wants k b (tries_of s rec l b p).tries (tries_of s rec l b p).end ∙ r.wants-are k)
      ∙ ap (λ x. wants s k l || x) (arms-want k ls (b + entry_extent e) (emits (end_emits e) (tries_of s rec l b p).pools))

  -- with the jump to what follows dropped
  last-extent : (l : List ℕ) (b : ℕ) (p : Pools) → entry_extent (drop_entry (entry_at l b p)) ≡ (last_tally s t l).len
  unfolding last_tally plus
  last-extent l b p =
      let r = tries-sum s rec t C l b p in
      drop-extent b (tries_of s rec l b p).tries (tries_of s rec l b p).end
      ∙ ap (λ n. n + (idle_tally (some (tries_of s rec l b p).tries) (tries_of s rec l b p).end).len) r.adds.length-is
      ∙ ap (λ e. (tries_tally s t l).len + (idle_tally (some (tries_of s rec l b p).tries) e).len) r.end_is
      ∙ ap (λ x. (tries_tally s t l).len + (idle_tally x (end_of s l)).len) r.some_is

  pub falls-length : (ls : List (List ℕ)) (b : ℕ) (p : Pools)
      → arms_extent (drop_idle_jump (arm_chains s rec ls b p).arms) ≡ (falls_tally s t ls).len
  unfolding arms_extent arm_chains drop_idle_jump falls_tally nothing instructions
  falls-length [] b p = refl
  falls-length (l ∷ ls) b p =
      let e = entry_at l b p in
      let b' = b + entry_extent e in
      let p' = emits (end_emits e) (tries_of s rec l b p).pools in
      fall-step s t l ls (record { blocks = l; entry = e }) (arm_chains s rec ls b' p').arms (arm-adds l b p).length-is (last-extent l b p)
      (arms-add ls b' p').length-is (falls-length ls b' p')

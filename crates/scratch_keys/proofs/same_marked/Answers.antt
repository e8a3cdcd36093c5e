-- `scratch_keys::same_marked` meets its contract: one law for each way.
use mathlib.Core.Path.{sym, ap, ◌∙◌}
use mathlib.Core.Bool.{not, beq}
use Rattle.text.specs.Same.{same}
use Rattle.scratch_keys.specs.Keys.{key_node, key_field, is_marked, marked}
use Rattle.scratch_keys.proofs.BangLaws.{texts-differ, texts_same, longer-on, longer-on-not, longer-off, longer-off-not}
use Rattle.scratch_keys.proofs.same_marked.Goals as goal

pub returns-then-same_bytes : goal.returns-then-same_bytes
returns-then-same_bytes c =
    let a = c.args in
    ap (λ n. beq n a.m) c.is_marked.ensures
    ∙ sym (texts_same a.x.now a.y.now a.m _ (sym c.same_bytes.ensures ∙ c.if-same_bytes.true))

pub returns-else-same_bytes : goal.returns-else-same_bytes
returns-else-same_bytes c =
    let a = c.args in
    c.if-same_bytes.false ∙ sym (texts-differ a.x.now a.y.now a.m _ c.if-x-y.true (sym c.same_bytes.ensures ∙ c.if-same_bytes.false))

pub returns-then-same_with_bang : goal.returns-then-same_with_bang
returns-then-same_with_bang c =
    let a = c.args in
    let x = a.x.now in
    let y = a.y.now in
    let n = is_marked a.sheet.now (key_node a.k) (key_field a.k) in
    ap not c.is_marked-then-same_with_bang.ensures
    ∙ sym (longer-on x y n c.if-x-y.false (sym c.same_with_bang.ensures ∙ c.if-same_with_bang.true))
    ∙ ap (λ m. same (marked x m) (marked y n)) (sym c.if-m.true)

pub returns-else-same_with_bang : goal.returns-else-same_with_bang
returns-else-same_with_bang c =
    let a = c.args in
    let x = a.x.now in
    let y = a.y.now in
    let n = is_marked a.sheet.now (key_node a.k) (key_field a.k) in
    c.if-same_with_bang.false
    ∙ sym (longer-on-not x y n c.if-x-y.false (sym c.same_with_bang.ensures ∙ c.if-same_with_bang.false))
    ∙ ap (λ m. same (marked x m) (marked y n)) (sym c.if-m.true)

pub returns-then-same_with_bang-2 : goal.returns-then-same_with_bang-2
returns-then-same_with_bang-2 c =
    let a = c.args in
    let x = a.x.now in
    let y = a.y.now in
    let n = is_marked a.sheet.now (key_node a.k) (key_field a.k) in
    c.is_marked-then-same_with_bang-2.ensures
    ∙ sym (longer-off x y n c.if-x-y.false (sym c.same_with_bang-2.ensures ∙ c.if-same_with_bang-2.true))
    ∙ ap (λ m. same (marked x m) (marked y n)) (sym c.if-m.false)

pub returns-else-same_with_bang-2 : goal.returns-else-same_with_bang-2
returns-else-same_with_bang-2 c =
    let a = c.args in
    let x = a.x.now in
    let y = a.y.now in
    let n = is_marked a.sheet.now (key_node a.k) (key_field a.k) in
    c.if-same_with_bang-2.false
    ∙ sym (longer-off-not x y n c.if-x-y.false (sym c.same_with_bang-2.ensures ∙ c.if-same_with_bang-2.false))
    ∙ ap (λ m. same (marked x m) (marked y n)) (sym c.if-m.false)

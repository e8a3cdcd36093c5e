-- Refusal 2: node kind, shape or field wrong. The children of a node tile the nodes of its subtree behind it. Each test is said of what
-- reads the fields of nodes, and of what reads the bounds of kinds (names that end in `By`); below that, of a sheet and the table.
use Rattle.std.specs.Prelude.{ℕ, zero, suc, ◌+◌, ◌*◌, Bool, true, false, ◌&&◌, ◌||◌, not, List, leb, eqb}
use Rattle.words.specs.Count.{all_below}
use Rattle.sheet.specs.Kinds.{char_kind, switch_kind, last_kind}
use Rattle.sheet.specs.Sections.{node_count}
use Rattle.sheet.specs.Node.{Fields, kind_at, span_at, count_at, a_at, b_at, c_at, namespace_at, namespace_pos_at, field}
use Rattle.sheet.specs.Node.{kind, span, count, field_a, field_b, field_c, namespace_word, namespace_pos}
use Rattle.sheet.specs.Namespace.{may_have}
use Rattle.check_shape.specs.Kinds.{Bounds, least_count, most_count, most_a, most_b, most_c, bound, scalar, expression, child_kind}

-- the fields of a node of kind k, with m children, are within the kind's bounds
unfoldable pub within_bounds_by : Bounds → ℕ → ℕ → ℕ → ℕ → ℕ → Bool
within_bounds_by bs k m a b c =
    let bound = bs k in
    leb 1 k
    && leb k last_kind
    && leb (bound least_count) m
    && leb m (bound most_count)
    && leb a (bound most_a)
    && leb b (bound most_b)
    && leb c (bound most_c)

-- a Char is a scalar value, and a Switch has a subject, its blocks and its cases
unfoldable pub own_rule : ℕ → ℕ → ℕ → ℕ → Bool
own_rule k m a b = (not (eqb k char_kind) || scalar a) && (not (eqb k switch_kind) || leb (1 + 2 * a + b) m)

-- the namespace's word x and the word y of its position, of a node of kind k: only a Variable or a FnCall has a namespace, and y is 0
-- where there is none
unfoldable pub space_rule : ℕ → ℕ → ℕ → Bool
space_rule k x y = (may_have k || eqb x 0) && (not (eqb x 0) || eqb y 0)

-- node n, by its kind, span, count, fields and namespace's words, is right by itself and its subtree lies within `total` nodes
unfoldable pub self_by : Bounds → ℕ → ℕ → ℕ → ℕ → ℕ → ℕ → ℕ → ℕ → ℕ → ℕ → Bool
self_by bs n k w m a b c x y total =
    within_bounds_by bs k m a b c && own_rule k m a b && space_rule k x y && leb 1 w && leb (n + w) total

-- a node of kind k and span w may stand at j, as child i of a node of kind p with fields a and b that ends at e
unfoldable pub child_words : ℕ → ℕ → ℕ → ℕ → ℕ → ℕ → ℕ → ℕ → Bool
child_words p a b e i j k w = leb 1 w && leb (j + w) e && child_kind p a b i k

-- m children from child i on, which is node j, of a node of kind p with fields a and b, end at e
unfoldable pub tiles_by : Fields → ℕ → ℕ → ℕ → ℕ → ℕ → ℕ → ℕ → Bool
tiles_by g p a b e zero i j = eqb j e
tiles_by g p a b e (suc m) i j =
    let v = g j in
    let w = v span_at in
    elim (child_words p a b e i j (v kind_at) w) [
      | true ↦ tiles_by g p a b e m (suc i) (j + w)
      | false ↦ false
    ]

-- node n of `total` is right, and so are its children's places
unfoldable pub node_by : Bounds → Fields → ℕ → ℕ → Bool
node_by bs g total n =
    let v = g n in
    let k = v kind_at in
    let w = v span_at in
    let m = v count_at in
    let a = v a_at in
    let b = v b_at in
    elim (self_by bs n k w m a b (v c_at) (v namespace_at) (v namespace_pos_at) total) [
      | true ↦ tiles_by g k a b (n + w) m 0 (n + 1)
      | false ↦ false
    ]

-- node 0 is an expression or a Switch, and its subtree is the whole sheet
unfoldable pub root_by : Fields → ℕ → Bool
root_by g total = let k = g 0 kind_at in (expression k || eqb k switch_kind) && eqb (g 0 span_at) total

-- every node is right
unfoldable pub nodes_by : Bounds → Fields → ℕ → Bool
nodes_by bs g total = all_below total (node_by bs g total)

-- nothing of refusal 2
unfoldable pub shape_by : Bounds → Fields → ℕ → Bool
shape_by bs g total = elim (root_by g total) [ true ↦ nodes_by bs g total | false ↦ false ]

-- ---- of a sheet

-- within the bounds of the table
abbrev pub within_bounds : ℕ → ℕ → ℕ → ℕ → ℕ → Bool
within_bounds = within_bounds_by bound

-- right by itself, by the table
abbrev pub self_fits : ℕ → ℕ → ℕ → ℕ → ℕ → ℕ → ℕ → ℕ → ℕ → ℕ → Bool
self_fits = self_by bound

-- node n is right by itself and its subtree lies within `total` nodes
abbrev pub self_ok : List ℕ → ℕ → ℕ → Bool
self_ok s n total =
    self_fits n (kind s n) (span s n) (count s n) (field_a s n) (field_b s n) (field_c s n) (namespace_word s n) (namespace_pos s n) total

-- node j may be child i of a node of kind p with fields a and b, and its subtree ends at e or before
abbrev pub child_fits : List ℕ → ℕ → ℕ → ℕ → ℕ → ℕ → ℕ → Bool
child_fits s p a b e i j = child_words p a b e i j (kind s j) (span s j)

-- node j may be child i of node n
abbrev pub child_ok : List ℕ → ℕ → ℕ → ℕ → ℕ → Bool
child_ok s n e i j = child_fits s (kind s n) (field_a s n) (field_b s n) e i j

-- m children of n from child i on, which is node j, end at e
abbrev pub tiles : ℕ → List ℕ → ℕ → ℕ → ℕ → ℕ → Bool
tiles m s n e i j = tiles_by (field s) (kind s n) (field_a s n) (field_b s n) e m i j

-- node n is right, and so are its children's places
abbrev pub node_ok : List ℕ → ℕ → Bool
node_ok s = node_by bound (field s) (node_count s)

-- node 0 is right as a root
abbrev pub root_ok : List ℕ → Bool
root_ok s = root_by (field s) (node_count s)

-- every node is right
abbrev pub nodes_ok : List ℕ → Bool
nodes_ok s = nodes_by bound (field s) (node_count s)

-- nothing of refusal 2
abbrev pub shape_ok : List ℕ → Bool
shape_ok s = shape_by bound (field s) (node_count s)

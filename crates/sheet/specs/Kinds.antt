-- The node kinds by name. Each number stands here once; src/kinds.rt has the same for the code.
use Rattle.std.specs.Prelude.{ℕ}

abbrev pub bool_kind : ℕ
bool_kind = 1

abbrev pub unit_kind : ℕ
unit_kind = 2

abbrev pub int_kind : ℕ
int_kind = 3

abbrev pub float_kind : ℕ
float_kind = 4

abbrev pub char_kind : ℕ
char_kind = 5

abbrev pub string_kind : ℕ
string_kind = 6

abbrev pub interpolated_kind : ℕ
interpolated_kind = 7

abbrev pub array_kind : ℕ
array_kind = 8

abbrev pub variable_kind : ℕ
variable_kind = 9

abbrev pub this_kind : ℕ
this_kind = 10

abbrev pub property_kind : ℕ
property_kind = 11

abbrev pub method_call_kind : ℕ
method_call_kind = 12

abbrev pub fn_call_kind : ℕ
fn_call_kind = 13

abbrev pub dot_kind : ℕ
dot_kind = 14

abbrev pub index_kind : ℕ
index_kind = 15

abbrev pub and_kind : ℕ
and_kind = 16

abbrev pub or_kind : ℕ
or_kind = 17

abbrev pub coalesce_kind : ℕ
coalesce_kind = 18

abbrev pub switch_kind : ℕ
switch_kind = 19

abbrev pub case_kind : ℕ
case_kind = 20

abbrev pub range_kind : ℕ
range_kind = 21

abbrev pub ref_kind : ℕ
ref_kind = 22

abbrev pub map_kind : ℕ
map_kind = 23

abbrev pub block_kind : ℕ
block_kind = 24

abbrev pub dynamic_constant_kind : ℕ
dynamic_constant_kind = 25

-- the kinds are 1 to 25
abbrev pub last_kind : ℕ
last_kind = dynamic_constant_kind

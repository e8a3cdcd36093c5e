-- The worked rows of names with namespaces are right.
use Prim.Native.Nat.{ℕ}
use mathlib.Core.Path.{◌≡◌, refl}
use mathlib.Core.List.{map}
use Rattle.lowering.specs.Compute.{answer}
use Rattle.lowering.specs.ModuleRows.{variable, empty_local, empty_named, and_variable, chain_root, index_variable, index_call, call_local}
use Rattle.lowering.specs.ModuleRows.{call_first, call_named, call_this, call_marked, call_operator, plain_call, value_call, kept, empty_fn}
use Rattle.lowering.specs.ModuleRows.{reached_eval, long_curry, one_name, one_mark, six_words, unit_in, position_alone, no_text}
use Rattle.lowering.specs.ModuleRows.{coalesce_variable, interpolated_variable, fn_variable, module_rows, computed}

pub module_rows_right : (p : ℕ) → map computed (module_rows p) ≡ module_rows p
unfolding variable coalesce_variable interpolated_variable fn_variable empty_local empty_named and_variable chain_root index_variable
    index_call call_local call_first call_named call_this call_marked call_operator plain_call value_call kept empty_fn reached_eval
    long_curry one_name one_mark six_words unit_in position_alone no_text module_rows computed answer
module_rows_right p = refl

-- The node kinds that the lowering asks for by name; their numbers stand in crate sheet.
pub use Rattle.sheet.specs.Kinds.{bool_kind, int_kind, string_kind, variable_kind, this_kind, property_kind}
pub use Rattle.sheet.specs.Kinds.{method_call_kind, dot_kind, index_kind, switch_kind}

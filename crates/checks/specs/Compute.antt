-- The check opened for computation: whoever says `unfolding opened_by` has all that it computes unfolded.
use Rattle.std.specs.Prelude.{ℕ, List}
use Rattle.words.specs.Word.{word}
use Rattle.words.specs.Count.{all_below}
use Rattle.text.specs.Same.{same}
use Rattle.text.specs.Keyword.{is_curry}
use Rattle.text.specs.Utf8.{row_in, row_of, utf8_rest, utf8}
use Rattle.sheet.specs.Sections.{Words}
use Rattle.sheet.specs.Node.{Fields, child, next_by, local_text_by}
use Rattle.sheet.specs.Text.{text_start_by, text_length_by, text_by}
use Rattle.sheet.specs.Walk.{siblings_by, skip_by}
use Rattle.check_sizes.specs.Sizes.{limits_ok, length_ok, pad_ok, padding_ok, sizes_ok}
use Rattle.check_shape.specs.Kinds.{Bounds, scalar, expression, case_value, switch_child, case_child, child_kind}
use Rattle.check_shape.specs.Shape.{within_bounds_by, own_rule, space_rule, self_by, child_words, tiles_by, node_by, root_by, nodes_by}
use Rattle.check_shape.specs.Shape.{shape_by}
use Rattle.check_texts.specs.Texts.{text_ok_by, texts_by}
use Rattle.check_numbers.specs.Numbers.{names_text, exist, number_by, local_by, node_numbers_by, locals_by, numbers_by}
use Rattle.check_names.specs.Names.{has_name, has_bytes_by, node_name_by, local_name_by, node_names_by, local_names_by, names_by}
use Rattle.check_depth.specs.Depth.{within_by, depth_by}
use Rattle.check_switches.specs.Switch.{is_switch_by, first_case_by, refs_by, counts_by, entries_by, same_value_by, apart_by, distinct_by}
use Rattle.check_switches.specs.Switch.{cases_by}
use Rattle.check_support.specs.Support.{refused_kind, long_curry_by, supported_by, support_by}
use Rattle.checks.specs.Checked.{Verdict, in_order, checked_by}

unfoldable pub opened_by : Bounds → Fields → Words → List ℕ → Verdict
unfolding word all_below same is_curry row_in row_of utf8_rest utf8 child next_by local_text_by text_start_by text_length_by text_by
    siblings_by skip_by
    limits_ok length_ok pad_ok padding_ok sizes_ok scalar expression case_value switch_child case_child child_kind
    within_bounds_by own_rule space_rule self_by child_words tiles_by node_by root_by nodes_by shape_by text_ok_by texts_by
    names_text exist number_by local_by node_numbers_by locals_by numbers_by
    has_name has_bytes_by node_name_by local_name_by node_names_by local_names_by names_by within_by depth_by
    is_switch_by first_case_by refs_by counts_by entries_by same_value_by apart_by distinct_by cases_by
    refused_kind long_curry_by supported_by support_by in_order checked_by
opened_by = checked_by

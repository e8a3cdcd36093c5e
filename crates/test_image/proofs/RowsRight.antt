-- Every row of the table gets its number.
use mathlib.Core.Path.{◌≡◌, refl}
use mathlib.Core.Bool.{true}
use Rattle.words.specs.Word.{word}
use Rattle.words.specs.Count.{all_below}
use Rattle.check_shape.specs.Kinds.{scalar}
use Rattle.bytecode.specs.Effect.{effect, popped, kept, ref_argc}
use Rattle.lowering.specs.MakeSheet.{bytes_of}
use Rattle.lowering.specs.Words.{consts_at, chains_at, switches_at, cases_at, ranges_at, const_word, chain_word, switch_word, case_word, range_word}
use Rattle.lowering.specs.Run.{chain_takes, pops, pushes, needs, row_target, table_target, branch_target, goes_to, next}
use Rattle.check_quick.specs.Quick.{quick_number}
use Rattle.image_rule.specs.Rules.{names_at, tokens_at, residuals_at, steps_at, step_word, end_at, receiver_rule, rows_there}
use Rattle.image_rule.specs.Rules.{code_table, const_table, root_table, step_table, operand_table}
use Rattle.image_rule.specs.Marks.{edges, edge, come, comes, enter, opened, hand_on, pass_by, marked, place_by, table_by, most, marks_right}
use Rattle.image_rule.specs.Test.{fits, obeys, least, least_target, aims, targets_right}
use Rattle.image_fields.specs.Fields.{fields_right}
use Rattle.image_check.specs.Sizes.{sizes_agree}
use Rattle.test_image.specs.Row.{AllRight}
use Rattle.test_image.specs.Table.{table}
use Rattle.test_image.proofs.Computed.{made, number_by, agree, agree_right}

computed : agree table ≡ true
unfolding table agree number_by made bytes_of quick_number sizes_agree fields_right targets_right marks_right word all_below scalar effect popped
    kept ref_argc consts_at chains_at switches_at cases_at ranges_at const_word chain_word switch_word case_word range_word chain_takes pops pushes
    needs row_target table_target branch_target goes_to next names_at tokens_at residuals_at steps_at step_word end_at receiver_rule code_table
    const_table root_table step_table operand_table rows_there edges edge come comes enter opened hand_on pass_by marked place_by table_by most fits
    obeys least least_target aims
computed = refl

pub rows_right : AllRight table
rows_right = agree_right table computed

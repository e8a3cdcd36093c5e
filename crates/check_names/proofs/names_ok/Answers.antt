-- `check_names::names_ok` meets its contract: where every text has bytes, so has every name.
use mathlib.Core.Path.{sym, ap, ap₂, ◌∙◌}
use mathlib.Core.Bool.{◌&&◌}
use Rattle.check_names.specs.Names.{names_by, names_ok}
use Rattle.check_names.proofs.NameLaws.{names-all}
use Rattle.check_names.proofs.names_ok.Goals as goal

pub returns-then-all_have_bytes : goal.returns-then-all_have_bytes
returns-then-all_have_bytes c = λ numbers.
    sym (names-all c.args.sheet.now numbers (cc))

pub returns : goal.returns
unfolding names_by
returns c = λ numbers. ap₂ ◌&&◌ c.nodes_ok-nodes.ensures c.locals_ok-locals.ensures ∙ ap names_ok c.of-lengths.ensures

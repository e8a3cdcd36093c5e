-- `scratch_index::Names::link_hash` meets its contract: each arm is the definition's, by the rule that the link says.
use Rattle.std.proofs.Common.{refl, ap}
use Rattle.expr_rules.specs.Inverse.{step_rule_from}
use Rattle.expr_rules.proofs.ReadsLaws.{rule_told}
use Rattle.scratch_index.specs.Held.{names_held}
use Rattle.scratch_index.specs.Chains.{property_hash, method_hash, step_hash}
use Rattle.scratch_index.proofs.ChainWalkLaws.{link-read, by-plain, by-same}
use Rattle.scratch_index.proofs.Names.link_hash.Goals as goal

pub returns-in-Index : goal.returns-in-Index
unfolding step_rule_from step_hash
returns-in-Index c =
    let a = c.args in
    let it = a.self.now in
    let s = it.sheet.now in
    let xs = it.scratch.now in
    λ says.
    link-read s it.layout it.count xs a.h a.p.link (rule_told says c.in-Index.is) says.flag_is c.more-g.ensures
    (by-plain s it.layout it.count xs (c.index_hash.ensures says.with_is))

pub returns-in-Property : goal.returns-in-Property
unfolding step_rule_from step_hash
returns-in-Property c =
    let a = c.args in
    let it = a.self.now in
    let s = it.sheet.now in
    let xs = it.scratch.now in
    let held = names_held s it.layout it.count xs in
    λ says.
    link-read s it.layout it.count xs a.h a.p.link (rule_told says c.in-Property.is) says.flag_is c.more-g.ensures
    (by-same s it.layout it.count xs (ap (property_hash s held c.more-g.result) says.with_is) c.property_hash.ensures)

pub returns-in-Method : goal.returns-in-Method
unfolding step_rule_from step_hash
returns-in-Method c =
    let a = c.args in
    let it = a.self.now in
    let s = it.sheet.now in
    let xs = it.scratch.now in
    let held = names_held s it.layout it.count xs in
    λ says.
    link-read s it.layout it.count xs a.h a.p.link (rule_told says c.in-Method.is) says.flag_is c.more-g.ensures
    (by-same s it.layout it.count xs (ap (method_hash s held c.more-g.result) says.with_is) c.method_hash.ensures)

pub returns-in-Nothing : goal.returns-in-Nothing
unfolding step_rule_from step_hash
returns-in-Nothing c =
    let a = c.args in
    let it = a.self.now in
    let s = it.sheet.now in
    let xs = it.scratch.now in
    λ says.
    link-read s it.layout it.count xs a.h a.p.link (rule_told says c.in-Nothing.is) says.flag_is c.more-g.ensures
    (by-plain s it.layout it.count xs refl)

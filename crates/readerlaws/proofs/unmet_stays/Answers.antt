use Rattle.readerlaws.proofs.Tables.{unmet_stays, met_is_changed, parts_are_there}
use Rattle.readerlaws.proofs.unmet_stays.Goals as goal

pub returns-clause-unmet : goal.returns-clause-unmet
returns-clause-unmet c = unmet_stays c.action_on_rows.ensures c.each_listed.ensures

pub returns-clause-met : goal.returns-clause-met
returns-clause-met c = met_is_changed c.action_on_rows.ensures c.each_listed.ensures c.overflows_on_rows.ensures

pub returns-clause-parts : goal.returns-clause-parts
returns-clause-parts c = parts_are_there c.action_on_rows.ensures c.each_listed.ensures

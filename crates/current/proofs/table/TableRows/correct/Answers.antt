use Rattle.std.proofs.Common.{rules, ◌≡◌, length}
use Rattle.model.specs.Periods.{period_of}
use Rattle.current.specs.Named.{IsNamed}
use Rattle.current.specs.Table.{rows_of_table}
use Rattle.current.proofs.Reading.{no_more_than_all, few_if_named, few_if_none}
use Rattle.current.proofs.table.TableRows.correct.Goals as goal

pub returns-in-Some-clause-named : goal.returns-in-Some-clause-named
returns-in-Some-clause-named c =
    let correction = c.args.correction.now in
    let t = c.args.self.now in
    let key = c.in-Some.key in
    let named : (length key ≡ t.columns) × IsNamed correction.conditions.now key = search rules in
    few_if_named correction.conditions.now (period_of correction.portion) t.columns key (rows_of_table t) c.args.count.now c.correct_key.new.count named.1 c.correct_key.ensures.few

pub returns-in-Some-clause-all : goal.returns-in-Some-clause-all
returns-in-Some-clause-all c = no_more_than_all c.in-Some.key (period_of c.args.correction.now.portion) (rows_of_table c.args.self.now) c.args.count.now c.correct_key.new.count c.correct_key.ensures.few

pub returns-in-None-clause-named : goal.returns-in-None-clause-named
returns-in-None-clause-named c =
    let correction = c.args.correction.now in
    let t = c.args.self.now in
    few_if_none correction.conditions.now (period_of correction.portion) t.columns (rows_of_table t) c.args.count.now c.correct_all.new.count (c.in_ok-key.ensures.none c.in-None.is)

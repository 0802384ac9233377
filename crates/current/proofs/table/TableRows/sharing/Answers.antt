use Rattle.model.specs.Periods.{period_of}
use Rattle.current.proofs.Reading.{few_to_correct}
use Rattle.current.proofs.table.TableRows.sharing.Goals as goal

pub returns-clause-few : goal.returns-clause-few
returns-clause-few c =
    let t = c.args.self.now in
    let found = c.sharing.result in
    few_to_correct t.index.strands t.ordered t.in_strands c.args.key.now c.sharing_is_overlap.ensures (period_of c.args.period) c.args.period.ordered found.0 found.1.now c.sharing.ensures.found c.args.count.now c.sharing.new.count c.sharing.ensures.few

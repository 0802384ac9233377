use Rattle.std.proofs.Common.{◌∙◌, map}
use Rattle.model.specs.Periods.{period_of, is_free}
use Rattle.rowlaws.specs.Covering.{periods_of}
use Rattle.current.specs.Places.{rows_at}
use Rattle.current.specs.Table.{rows_of_table}
use Rattle.current.proofs.Placed.{days_of_row}
use Rattle.current.proofs.Looking.{ok_map}
use Rattle.current.proofs.Meeting.{find_alike}
use Rattle.current.proofs.references.first_free_day.Goals as goal

pub returns-clause-day : goal.returns-clause-day
returns-clause-day c =
    let p = period_of c.args.period in
    let all = periods_of (rows_at rows_of_table c.args.tables.now c.args.table) c.args.key.now in
    ok_map c.first_free.result (λ day e. e ∙ find_alike (is_free (map days_of_row c.rows_sharing-rows.result.now)) (is_free all) p c.args.period.ordered c.rows_sharing-rows.ensures.free) c.first_free.ensures

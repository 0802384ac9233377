use Rattle.model.specs.Periods.{period_of, is_free}
use Rattle.rowlaws.specs.Covering.{periods_of}
use Rattle.current.specs.Places.{rows_at}
use Rattle.current.specs.Table.{rows_of_table}
use Rattle.current.proofs.Refusing.{hole_told, if_ok}
use Rattle.current.proofs.refused.passes_over_a_hole.Goals as goal

pub returns : goal.returns
returns g c = if_ok c.first_free_day.result _ _ c.first_free_day.ensures.day (λ day ok. hole_told day (is_free (periods_of (rows_at rows_of_table c.args.tables.now c.args.table) c.args.key.now)) (period_of c.args.period) g.day ok c.requires.0 c.requires.1.0 c.requires.1.1)

-- A row of the code as a row of the definitions.
use Rattle.std.specs.Arc.{arc_slice_items}
use Rattle.model.specs.Tables.{Row}
use Rattle.model.specs.Periods.{period_of}
use Rattle.current.specs.declared.row.Row.{Row as Declared}

abbrev pub row_of : Declared → Row
row_of r = record { key = r.key; period = period_of r.period; values = arc_slice_items r.values; system_start = r.system_start }

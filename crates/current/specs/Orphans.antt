-- A day without a parent, as the code finds it.
use Rattle.model.specs.Transactions.{Place as DayPlace}
use Rattle.current.specs.declared.references.Place.{Place}

abbrev pub place_of : Place → DayPlace
place_of p = record { table = p.table; key = p.key.now; day = p.day.number }

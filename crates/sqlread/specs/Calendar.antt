-- Days that the calendar has.
use Rattle.std.specs.Prelude.{◌≡◌, Bool, true, nat_le, IsTrue, Ok}
use Rattle.model.specs.declared.value.Value.{Value}
use Rattle.model.specs.declared.value.Value.TheVariants.{Day}
use Rattle.schema.specs.declared.table.Kind.{Kind}
use Rattle.sqlsyntax.specs.Shared.{LiteralForm}
use Rattle.sqlchecks.specs.Literals.{literal_in}

-- a value that is a day is one from 0001-01-01 to 9999-12-31
abbrev pub is_in_calendar : Value → Bool
is_in_calendar (Day d) = nat_le d 3_652_058
is_in_calendar v = true

-- what a literal is read as is so
abbrev pub LiteralsInCalendar : Type 0
LiteralsInCalendar = (kind : Kind) (literal : LiteralForm) (v : Value) → literal_in kind literal ≡ Ok v → IsTrue (is_in_calendar v)

-- The key that a WHERE names.
use Rattle.std.specs.Prelude.{◌≡◌, ℕ, ◌<◌, ◌==◌, Option, Some, None, List, [], ◌∷◌, length, slice_get, if◌then◌else◌}
use Rattle.std.specs.Option.{option_or}
use Rattle.model.specs.declared.value.Value.{Value}
use Rattle.sqlsyntax.specs.declared.forms.Operator.{Operator}
use Rattle.sqlsyntax.specs.declared.forms.Operator.TheVariants.{Equal}
use Rattle.sqlchecks.specs.declared.field.Field.{Field}
use Rattle.sqlchecks.specs.declared.field.Field.TheVariants.{Key}
use Rattle.sqlchecks.specs.declared.comparison.Comparison.{Comparison}

-- what the key column at this place is to be equal to, if a comparison says so
abbrev pub equal_at : ℕ → Operator → Field → Value → Option Value
equal_at place Equal (Key column) v = if column == place then Some v else None
equal_at place _ _ v = None

-- the first comparison that says it counts
abbrev pub said_at : ℕ → List Comparison → Option Value
said_at place [] = None
said_at place (c ∷ cs) = option_or (equal_at place c.operator c.field c.value) (said_at place cs)

-- there is `=` for each column of the key
abbrev pub IsNamed : List Comparison → List Value → Type 0
IsNamed conditions key = (place : ℕ) → place < length key → said_at place conditions ≡ slice_get key place

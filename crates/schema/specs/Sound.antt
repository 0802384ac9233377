-- What every table of a schema keeps: its places are those of its columns, and its parents stand before it, with keys
-- as long as what refers to them.
use Rattle.std.specs.Prelude.{◌≡◌, ℕ, ◌<◌, List, length, slice_get, Some, All}
use Rattle.std.specs.Option.{option_map}
use Rattle.schema.specs.declared.table.Kind.{Kind}
use Rattle.schema.specs.declared.table.Kind.TheVariants.{Date, SystemStart, SystemEnd}
use Rattle.schema.specs.Shape.{TableShape}

-- a column stands at this place, and is of this kind
pub record IsColumn (table : TableShape) (place : ℕ) (kind : Kind) : Type 0 where
  pub within : place < length table.columns
  pub of_kind : option_map (λ c. c.1) (slice_get table.columns place) ≡ Some kind

-- a table at this place among the tables
pub record IsSound (tables : List (List ℕ × TableShape)) (place : ℕ) (table : TableShape) : Type 0 where
  pub start : IsColumn table table.start Date
  pub end : IsColumn table table.end Date
  pub system_start : IsColumn table table.system_start SystemStart
  pub system_end : IsColumn table table.system_end SystemEnd
  pub key : All (λ c. c < length table.columns) table.key
  pub values : All (λ c. c < length table.columns) table.values
  pub parents : All (λ r. r.parent < place) table.references
  pub children : All (λ r. All (λ c. c < length table.columns) r.columns) table.references
  -- as many columns refer to a parent as its key has
  pub counts : All (λ r. option_map (λ p. length p.1.key) (slice_get tables r.parent) ≡ Some (length r.columns)) table.references

abbrev pub AreSound : List (List ℕ × TableShape) → Type 0
AreSound tables = (place : ℕ) (name : List ℕ) (table : TableShape) → slice_get tables place ≡ Some (name, table) → IsSound tables place table

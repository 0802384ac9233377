-- The rows of a table in the map of the code.
use Rattle.std.specs.Prelude.{ℕ, Bool, true, ◌&&◌, nat_lt, nat_le, Option, Some, None, List, [], ◌∷◌, if◌then◌else◌, map, flat_map}
use Rattle.std.specs.BTreeMap.{BTreeMap, get}
use Rattle.model.specs.declared.value.Value.{Value}
use Rattle.model.specs.Values.{key_cmp, same_key}
use Rattle.model.specs.Tables.{days, Row}
use Rattle.current.specs.declared.row.Row.{Row as Declared}
use Rattle.current.specs.Rows.{row_of}

-- the rows of each key
abbrev pub Strands : Type 0
Strands = List Value → List Row

abbrev pub Map : Type 0
Map = BTreeMap (List Value) (List Declared)

abbrev pub strand_in : Option (List Declared) → List Row
strand_in None = []
strand_in (Some rows) = map row_of rows

abbrev pub strands_of : Map → Strands
strands_of m = λ key. strand_in (get key_cmp m key)

-- all rows, key by key
abbrev pub rows_in : List (List Value × List Declared) → List Row
rows_in entries = flat_map (λ e. map row_of e.1) entries

-- rows of the key, one after another from a day on, with no day in two of them
abbrev pub in_strand : List Value → ℕ → List Row → Bool
in_strand key d [] = true
in_strand key d (r ∷ rs) = same_key r.key key && nat_le d r.period.start && nat_lt r.period.start r.period.end && nat_le r.period.end days && in_strand key r.period.end rs

-- the strands with this one for the key
abbrev pub with_strand : List Value → List Row → Strands → Strands
with_strand key rows strands = λ k. if same_key key k then rows else strands k

-- one more row, in the order of starts
abbrev pub with_row : Row → List Row → List Row
with_row row [] = row ∷ []
with_row row (r ∷ rs) = if nat_lt r.period.start row.period.start then r ∷ with_row row rs else (row ∷ r ∷ rs)

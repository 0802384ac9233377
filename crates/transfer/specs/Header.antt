-- What the first line of a file names.
use Rattle.std.specs.Prelude.{ℕ, ◌+◌, false, Bool, not, ◌||◌, ◌==◌, if◌then◌else◌, List, [], ◌∷◌, ◌++◌, length, map, slice_get, Option, Some, None, option_to_list, unwrap_or, Result, Ok, Err}
use Rattle.std.specs.List.{list_all, range_with_len}
use Rattle.std.specs.Option.{option_map_or}
use Rattle.fault.specs.declared.refusal.Refusal.{Refusal}
use Rattle.fault.specs.declared.refusal.Refusal.TheVariants.{UnknownColumn, NotAssignable}
use Rattle.schema.specs.Shape.{TableShape}
use Rattle.schema.specs.declared.table.Kind.{Kind}
use Rattle.sqlchecks.specs.Columns.{column_named}
use Rattle.sqlread.specs.Changes.{is_system, is_among}
use Rattle.transfer.specs.declared.unread.Fault.{Fault}
use Rattle.transfer.specs.declared.header.Target.{Target}
use Rattle.transfer.specs.Faults.{fault_at, at, fault_if, ◌>>=◌, ◌>>◌}
use Rattle.transfer.specs.Fields.{is_printable}
use Rattle.transfer.specs.Lines.{Bytes, before_field, fields_at}

-- the column that a field of the header names: 12 where there is none
unfoldable pub column_in : TableShape → Bytes → Result (ℕ × Kind) Refusal
column_in table name = if is_printable name then column_named table name else Err UnknownColumn

-- the column as the target of the field at this place: none where it is a system column, 14 where one before it is the same
unfoldable pub target_for : TableShape → List Target → ℕ → ℕ × Kind → Result (Option Target) Refusal
target_for table before place column =
    if is_system table column.0 then Ok None
    else if is_among column.0 (map (λ t. t.column) before) then Err NotAssignable
    else Ok (Some (record { place = place; column = column.0; name = option_map_or (λ c. c.0) (slice_get table.columns column.0) []; kind = column.1 }))

unfoldable pub target_in : TableShape → Bytes → List Target → ℕ → Bytes → Result (Option Target) Fault
target_in table line before place name =
    at 1 (before_field false place line) (column_in table name) >>= λ c. at 1 (before_field false place line) (target_for table before place c)

-- these targets and, in their order, those of the fields from this place on
abbrev pub targets_after : TableShape → Bytes → List Target → ℕ → List Bytes → Result (List Target) Fault
targets_after table line before place [] = Ok before
targets_after table line before place (name ∷ names) =
    target_in table line before place name >>= λ t. targets_after table line (before ++ option_to_list t) (place + 1) names

-- each column but the system columns has a field
abbrev pub has_all : TableShape → List Target → Bool
has_all table targets = list_all (λ c. is_system table c || is_among c (map (λ t. t.column) targets)) (range_with_len 0 (length table.columns))

-- the targets of a header, and how many fields it has: 12 where a column is left out
unfoldable pub header_of : TableShape → Bytes → List Bytes → Result (List Target × ℕ) Fault
header_of table line names =
    targets_after table line [] 0 names >>= λ targets. fault_if (not (has_all table targets)) (fault_at 1 0 UnknownColumn) >> Ok (targets, length names)

unfoldable pub header_in : TableShape → Bytes → Result (List Target × ℕ) Fault
header_in table line = fields_at 1 line >>= λ names. header_of table line (unwrap_or names [])

-- The statement of a line of a file.
use Rattle.std.specs.Prelude.{ℕ, Bool, false, not, ◌==◌, ◌||◌, nat_lt, if◌then◌else◌, List, [], ◌∷◌, ◌++◌, length, map, flat_map, position, slice_get, Option, Some, None, option_map, option_and_then, ok_or, Result, Ok, Err, codes}
use Rattle.csv.specs.Records.{field_at}
use Rattle.fault.specs.declared.refusal.Refusal.TheVariants.{WrongType, EmptyPeriod, TooLarge}
use Rattle.model.specs.declared.value.Value.{Value}
use Rattle.model.specs.declared.value.Value.TheVariants.{Number, Text, Day}
use Rattle.schema.specs.Shape.{TableShape}
use Rattle.transfer.specs.declared.unread.Fault.{Fault}
use Rattle.transfer.specs.declared.header.Target.{Target}
use Rattle.transfer.specs.Faults.{fault_at, at, fault_if, found_in, ◌>>=◌, ◌>>◌}
use Rattle.transfer.specs.Fields.{field_value, literal_text}
use Rattle.transfer.specs.Lines.{Bytes, before_field, fields_at}

-- the value of a target
unfoldable pub target_value : ℕ → Bytes → List Bytes → Target → Result (Option Value) Fault
target_value n line fields target =
    at n (before_field false target.place line) (ok_or (field_at fields target.place) WrongType) >>= λ field. at n (before_field false target.place line) (field_value target.kind field) >>= λ v. Ok (Some v)

-- the value of a column
unfoldable pub value_for : List Target → List Value → ℕ → Option Value
value_for targets values column = option_and_then (λ i. slice_get values i) (position (λ t. t.column == column) targets)

abbrev pub is_before : Option Value → Option Value → Bool
is_before (Some (Day a)) (Some (Day b)) = nat_lt a b
is_before a b = false

-- the row's period has a day
abbrev pub has_days : TableShape → List Target → List Value → Bool
has_days table targets values = is_before (value_for targets values table.start) (value_for targets values table.end)

-- with a comma and a space between two
abbrev pub listed : List Bytes → Bytes
listed [] = []
listed (p ∷ ps) = p ++ flat_map (λ q. codes ", " ++ q) ps

-- the row of these values as a statement
abbrev pub statement_text : Bytes → List Target → List Value → Bytes
statement_text name targets values =
    codes "INSERT INTO " ++ name ++ codes " (" ++ listed (map (λ t. t.name) targets) ++ codes ") VALUES (" ++ listed (map literal_text values) ++ codes ");"

-- The row of these fields: 13 where they are more or fewer than the header has, then what is wrong with the first of them that no value
-- of its column is, 15 where its period has no day, 17 where the statement is longer than a request may be.
unfoldable pub row_of : Bytes → TableShape → List Target × ℕ → ℕ → Bytes → List Bytes → Result (ℕ × Bytes) Fault
row_of name table header n line fields =
    fault_if (not (length fields == header.1)) (fault_at n 0 WrongType)
    >> found_in (target_value n line fields) header.0 >>= λ values. fault_if (not (has_days table header.0 values)) (fault_at n 0 EmptyPeriod)
    >> fault_if (nat_lt 4096 (length (statement_text name header.0 values))) (fault_at n 0 TooLarge)
    >> Ok (n, statement_text name header.0 values)

abbrev pub row_of_fields : Bytes → TableShape → List Target × ℕ → ℕ → Bytes → Option (List Bytes) → Result (Option (ℕ × Bytes)) Fault
row_of_fields name table header n line None = Ok None
row_of_fields name table header n line (Some fields) = row_of name table header n line fields >>= λ row. Ok (Some row)

-- the row of a line, by its number and its text: none of a blank one
unfoldable pub row_in : Bytes → TableShape → List Target × ℕ → ℕ → Bytes → Result (Option (ℕ × Bytes)) Fault
row_in name table header n line = fields_at n line >>= λ fields. row_of_fields name table header n line fields

-- the lines behind the first, from this one on
unfoldable pub row_from : Bytes → TableShape → List Target × ℕ → ℕ → ℕ × Bytes → Result (Option (ℕ × Bytes)) Fault
row_from name table header from numbered = if numbered.0 == 1 || nat_lt numbered.0 from then Ok None else row_in name table header numbered.0 numbered.1

-- The lines of a file, and the fields of a line. A line feed is 10, a carriage return 13, a double quote 34, a comma 44.
use Rattle.std.specs.Prelude.{ℕ, ◌+◌, ◌-◌, ◌%◌, Bool, false, not, ◌&&◌, ◌==◌, if◌then◌else◌, List, [], ◌∷◌, length, map, count_by, Option, option_map, Result, Ok, Err}
use Rattle.std.specs.List.{list_any, slice_split}
use Rattle.csv.specs.Machine.{next_record}
use Rattle.csv.specs.Reading.{default_config, strip_bom}
use Rattle.csv.specs.declared.parser.State.TheVariants.{StartRecord}
use Rattle.fault.specs.declared.refusal.Refusal.TheVariants.{Syntax}
use Rattle.transfer.specs.declared.unread.Fault.{Fault}
use Rattle.transfer.specs.Faults.{fault_at}

abbrev pub Bytes : Type 0
Bytes = List ℕ

-- what stands between line feeds
abbrev pub pieces_of : Bytes → List Bytes
pieces_of file = slice_split (λ b. b == 10) file

-- each double quote of the line has its other one, and no carriage return stands in it
abbrev pub is_whole : Bytes → Bool
is_whole line = (count_by (λ b. b == 34) line % 2 == 0) && not (list_any (λ b. b == 13) line)

-- the fields of a line, as the kit's `csv` reads them; none of one that is blank
abbrev pub fields_in : Bytes → Option (List Bytes)
fields_in line = option_map (λ p. p.0) (next_record default_config StartRecord [] [] (strip_bom line))

-- the fields of the line of this number, without the carriage return that may end it: 10 where it is not whole
unfoldable pub fields_at : ℕ → Bytes → Result (Option (List Bytes)) Fault
fields_at n line = if is_whole line then Ok (fields_in line) else Err (fault_at n (length line) (Syntax (length line)))

-- how many bytes of a line stand before a field, by its place; whether they begin between quotes
abbrev pub before_field : Bool → ℕ → Bytes → ℕ
before_field quoted place [] = 0
before_field quoted place (b ∷ rest) =
    if place == 0 then 0
    else if b == 34 then 1 + before_field (not quoted) place rest
    else if b == 44 && not quoted then 1 + before_field false (place - 1) rest
    else 1 + before_field quoted place rest

-- The rows of a file as requests.
use Rattle.std.specs.Prelude.{ℕ, ◌+◌, Bool, ◌&&◌, nat_lt, nat_le, if◌then◌else◌, List, [], ◌∷◌, ◌++◌, length, map, slice_get, Option, Some, None, unwrap_or, string_bytes, Result, Ok}
use Rattle.std.specs.List.{enumerate_from}
use Rattle.std.specs.Str.Lines.{strip_carriage_return}
use Rattle.schema.specs.Shape.{TableShape}
use Rattle.transfer.specs.declared.unread.Fault.{Fault}
use Rattle.transfer.specs.declared.requests.Request.{Request}
use Rattle.transfer.specs.Faults.{found_in, ◌>>=◌}
use Rattle.transfer.specs.Header.{header_in}
use Rattle.transfer.specs.Lines.{Bytes, pieces_of}
use Rattle.transfer.specs.Rows.{row_from}

-- a request: the numbers of its first and its last line, how many rows it has, and its text
pub record RequestShape : Type 0 where
  pub first : ℕ
  pub last : ℕ
  pub rows : ℕ
  pub text : Bytes

abbrev pub request_of : Request → RequestShape
request_of r = record { first = r.first; last = r.last; rows = r.rows; text = string_bytes r.text }

-- the request of one row
abbrev pub alone : ℕ × Bytes → RequestShape
alone row = record { first = row.0; last = row.0; rows = 1; text = row.1 }

-- the row as one more statement, behind a space
abbrev pub with_row : RequestShape → ℕ × Bytes → RequestShape
with_row r row = record { first = r.first; last = row.0; rows = r.rows + 1; text = r.text ++ 32 ∷ row.1 }

-- sixteen statements at most, of 4,096 bytes at most with the spaces between them
abbrev pub has_room : RequestShape → ℕ × Bytes → Bool
has_room r row = nat_lt r.rows 16 && nat_le (length (with_row r row).text) 4096

-- a request, if one is begun, and the rows that follow: each joins the request before it where that has room, else begins the next
abbrev pub grouped : Option RequestShape → List (ℕ × Bytes) → List RequestShape
grouped None [] = []
grouped (Some r) [] = r ∷ []
grouped None (row ∷ rest) = grouped (Some (alone row)) rest
grouped (Some r) (row ∷ rest) = if has_room r row then grouped (Some (with_row r row)) rest else r ∷ grouped (Some (alone row)) rest

-- the lines of a file, each without the carriage return that may end it
abbrev pub lines_of : Bytes → List Bytes
lines_of file = map strip_carriage_return (pieces_of file)

-- the requests of a file, from the line of this number on; the first line has number 1, and is the header
unfoldable pub requests_in : Bytes → TableShape → ℕ → Bytes → Result (List RequestShape) Fault
requests_in name table from file =
    header_in table (unwrap_or (slice_get (lines_of file) 0) []) >>= λ header. found_in (row_from name table header from) (enumerate_from 1 (lines_of file)) >>= λ rows. Ok (grouped None rows)

-- An answer as CSV, as RFC 4180 has it, in the words of the kit's `csv`.
use Rattle.std.specs.Prelude.{◌≡◌, false, ℕ, List, ◌∷◌, map, string_bytes}
use Rattle.std.specs.List.{flat_map}
use Rattle.std.specs.declared.vec.Vec.{Vec}
use Rattle.std.specs.declared.alloc.Global.{Global}
use Rattle.csv.specs.Writing.{default_writer, row_text, writer_setup, fields_written, has_written}
use Rattle.csv.specs.declared.parser.Terminator.TheVariants.{CRLF}
use Rattle.csv.specs.declared.writer.WriterBuilder.{WriterBuilder}
use Rattle.csv.specs.declared.writer.Writer.{Writer}
use Rattle.answer.specs.declared.Answer.{Answer}
use Rattle.answer.specs.declared.Column.{Column}
use Rattle.answer.specs.declared.Shown.{Shown}
use Rattle.looks.specs.Bare.{bare_text}

-- commas between fields, CR and LF behind each record; double quotes, doubled within, around the fields that need them alone
abbrev pub rfc_4180 : WriterBuilder
rfc_4180 = record default_writer { terminator = CRLF }

-- what the columns show of a row
abbrev pub fields_of : List Column → Shown → List (List ℕ)
fields_of columns row = map (λ c. bare_text row c.shows) columns

-- the names of the columns, and the fields of each row
unfoldable pub csv_text : Answer → List ℕ
csv_text answer = flat_map (row_text rfc_4180) (map (λ c. c.name) answer.columns.items ∷ map (fields_of answer.columns.items) answer.rows.items)

-- a writer that stands between two records
pub record IsBetween {W : Type 0} (writer : Writer W) : Type 0 where
  pub setup : writer_setup writer ≡ rfc_4180
  pub fields : fields_written writer ≡ 0
  pub wrote : has_written writer ≡ false

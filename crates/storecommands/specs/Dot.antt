-- The lines that begin with a full stop, each of which has one spelling.
use Rattle.std.specs.Prelude.{◌≢◌, ℕ, ◌<◌, ◌^◌, List, ◌++◌, codes, decimal, ⊤}
use Rattle.std.specs.Fmt.{signed_decimal}
use Rattle.lines.specs.Number.{IsSigned}
use Rattle.lines.specs.Line.{IsRequest, request_text}
use Rattle.storecommands.specs.declared.dot.Form.{Form}
use Rattle.storecommands.specs.declared.dot.Form.TheVariants.{Table, Lines, Csv, Json}
use Rattle.storecommands.specs.declared.dot.DotCommand.{DotCommand}
use Rattle.storecommands.specs.declared.dot.DotCommand.TheVariants.{Status, Schema, SchemaOf, Help, Quit, Stop, Start, Clock, Format, Beliefs, Submit}

abbrev pub form_text : Form → List ℕ
form_text Table = codes "table"
form_text Lines = codes "lines"
form_text Csv = codes "csv"
form_text Json = codes "json"

abbrev pub dot_text : DotCommand → List ℕ
dot_text Status = codes ".status"
dot_text Schema = codes ".schema"
dot_text (SchemaOf table) = codes ".schema " ++ table.now
dot_text Help = codes ".help"
dot_text Quit = codes ".quit"
dot_text (Stop member) = codes ".stop " ++ decimal member
dot_text (Start member) = codes ".start " ++ decimal member
dot_text (Clock reading) = codes ".clock " ++ signed_decimal reading
dot_text (Format form) = codes ".format " ++ form_text form
dot_text (Beliefs text) = codes ".beliefs " ++ text.now
dot_text (Submit client number text) = codes ".submit " ++ request_text client number text.now

-- its numbers are in range
abbrev pub IsInRange : DotCommand → Type 0
IsInRange Status = ⊤
IsInRange Schema = ⊤
IsInRange (SchemaOf table) = ⊤
IsInRange Help = ⊤
IsInRange Quit = ⊤
IsInRange (Stop member) = member < 2 ^ 64
IsInRange (Start member) = member < 2 ^ 64
IsInRange (Clock reading) = IsSigned reading
IsInRange (Format form) = ⊤
IsInRange (Beliefs text) = ⊤
IsInRange (Submit client number text) = IsRequest client number

-- the text of no command in range
abbrev pub IsNoDotCommand : List ℕ → Type 0
IsNoDotCommand line = (command : DotCommand) → IsInRange command → line ≢ dot_text command

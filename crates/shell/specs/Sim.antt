-- What playing a script prints, and how it may end.
use Rattle.std.specs.Prelude.{◌≡◌, ◌≢◌, ℕ, List, Option, Result, Ok, Err, IfSome, ◌⊎◌}
use Rattle.std.specs.IoError.{error_kind}
use Rattle.std.specs.Str.{IsUtf8}
use Rattle.std.specs.declared.io.Error.{Error}
use Rattle.std.specs.declared.io.ErrorKind.TheVariants.{OutOfMemory}
use Rattle.answertext.specs.Outlets.{IsLastError}
use Rattle.fault.specs.declared.refusal.Refusal.{Refusal}
use Rattle.fault.specs.declared.refusal.Refusal.TheVariants.{NoMemory, BadScript}
use Rattle.lines.specs.declared.line.Line.{Line}
use Rattle.lines.specs.Script.{HasBadSchema, HasLines, IsBadAt}
use Rattle.believed.specs.Agreement.{Agree}
use Rattle.believed.specs.Explained.{IsExplained}
use Rattle.model.specs.Worlds.{new_world}
use Rattle.script.specs.declared.run_fault.RunFault.{RunFault}
use Rattle.script.specs.declared.run_fault.RunFault.TheVariants.{Refused, Output}
use Rattle.script.specs.Brought.{played_all, IsPrinted, IsBegun}
use Rattle.script.specs.Stage.{Act, opening_stage, events_in}
use Rattle.sqlchecks.specs.Columns.{Tables}
use Rattle.sqlread.specs.Meaning.{language_of}

-- what lines bring to a group of so many members with these tables, from its opening on
abbrev pub acts_of : ℕ → Tables → List Line → List Act
acts_of members schema lines = (played_all schema members lines (opening_stage members)).acts

-- ---- bytes that are a script, and others

-- the bytes are the text of a script for so many members, with these tables and lines
abbrev pub IsScript : List ℕ → ℕ → Tables → List Line → Type 0
IsScript bytes members schema lines = IsUtf8 bytes × HasLines bytes members schema lines

-- there is no such script
abbrev pub IsNoScript : List ℕ → Type 0
IsNoScript bytes = (members : ℕ) (schema : Tables) (lines : List Line) → ¬ IsScript bytes members schema lines

-- how they are refused then: bytes that are no text at line 0, a text at its bad line, or as its schema is
abbrev pub IsBadScript : List ℕ → Refusal → Type 0
IsBadScript bytes refusal = ((¬ IsUtf8 bytes) × (refusal ≡ BadScript 0)) ⊎ (IsUtf8 bytes × (((k : ℕ) × (refusal ≡ BadScript k) × IsBadAt bytes k) ⊎ HasBadSchema bytes refusal))

-- ---- what is printed

-- The bytes are a script, known bytes grow by exactly what its lines print, all members agree about what happened, and one list
-- of requests explains, in order, all that they told and answered.
abbrev pub PrintsScript : List ℕ → Option (List ℕ) → Option (List ℕ) → Type 0
PrintsScript bytes old new = (members : ℕ) × (schema : Tables) × (lines : List Line) × IsScript bytes members schema lines
    × IsPrinted schema members (new_world members) (acts_of members schema lines) old new
    × Agree (language_of schema) members (new_world members) (events_in (acts_of members schema lines))
    × IsExplained (language_of schema) members (new_world members) (events_in (acts_of members schema lines))

-- the bytes are a script, and known bytes grow by a beginning of what its lines print
abbrev pub BeginsScript : List ℕ → Option (List ℕ) → Option (List ℕ) → Type 0
BeginsScript bytes old new = (members : ℕ) × (schema : Tables) × (lines : List Line) × IsScript bytes members schema lines
    × IsBegun schema members (new_world members) (acts_of members schema lines) old new

-- ---- how it ends

-- over an outlet
module _ {O : Type 0} (holds : O → Option (List ℕ)) (fails : O → Error → O → Type 0) (is_sent : O → Type 0) where
  -- With status 0 what the script prints is on its way. What is no script is refused so, and nothing is printed. Else memory was wanting,
  -- before anything was printed or after a beginning of it; or the outlet's last call failed, after a beginning.
  abbrev pub EndsScript : List ℕ → O → Result ℕ RunFault → O → Type 0
  EndsScript bytes old (Ok status) new = (status ≡ 0) × PrintsScript bytes (holds old) (holds new) × is_sent new
  EndsScript bytes old (Err (Refused refusal)) new = (IsNoScript bytes × IsBadScript bytes refusal × (new ≡ old)) ⊎ ((refusal ≡ NoMemory) × ((new ≡ old) ⊎ BeginsScript bytes (holds old) (holds new)))
  EndsScript bytes old (Err (Output error)) new = BeginsScript bytes (holds old) (holds new) × IsLastError fails error new

-- what the error of a source is told as: want of memory as that, any other at line 0
abbrev pub IsToldAs : Error → Refusal → Type 0
IsToldAs error refusal = ((error_kind error ≡ OutOfMemory) × (refusal ≡ NoMemory)) ⊎ ((error_kind error ≢ OutOfMemory) × (refusal ≡ BadScript 0))

-- what was read is such a text, as far as it is known
abbrev pub IsOfText : Option (List ℕ) → (List ℕ → Type 0) → Type 0
IsOfText known P = (text : List ℕ) × IfSome known (λ bytes. text ≡ bytes) × P text

-- Laws of scripts: the ways in which a text is answered exclude one another.
use Rattle.std.specs.Prelude.{◌≡◌, ◌⊎◌, ℕ, ◌<◌, ◌^◌, List}
use Rattle.fault.specs.declared.refusal.Refusal.{Refusal}
use Rattle.fault.specs.declared.refusal.Refusal.TheVariants.{NoMemory}
use Rattle.sqlchecks.specs.Columns.{Tables}
use Rattle.lines.specs.declared.line.Line.{Line}
use Rattle.lines.specs.Line.{line_text, IsInRange}
use Rattle.lines.specs.Script.{HasLines, HasBadSchema, IsBadAt, IsScriptFault}

-- no script that is read is bad at a line
abbrev pub ReadIsNotBad : Type 0
ReadIsNotBad = (text : List ℕ) (members : ℕ) (schema : Tables) (lines : List Line) (k : ℕ) → HasLines text members schema lines → ¬ IsBadAt text k

-- nor is its schema refused
abbrev pub ReadIsNotRefused : Type 0
ReadIsNotRefused = (text : List ℕ) (members : ℕ) (schema : Tables) (lines : List Line) (refusal : Refusal) → HasLines text members schema lines → ¬ HasBadSchema text refusal

-- no script that is bad at a line has a schema that is refused
abbrev pub BadIsNotRefused : Type 0
BadIsNotRefused = (text : List ℕ) (k : ℕ) (refusal : Refusal) → IsBadAt text k → ¬ HasBadSchema text refusal

-- a script is bad at one line at most
abbrev pub OneBadLine : Type 0
OneBadLine = (text : List ℕ) (k j : ℕ) → IsBadAt text k → IsBadAt text j → k ≡ j

-- a schema is refused in one way
abbrev pub OneRefusal : Type 0
OneRefusal = (text : List ℕ) (q r : Refusal) → HasBadSchema text q → HasBadSchema text r → q ≡ r

-- a line in range has a text of its own
abbrev pub OneLine : Type 0
OneLine = (members : ℕ) (a b : Line) → members < 2 ^ 64 → IsInRange members a → IsInRange members b → line_text a ≡ line_text b → a ≡ b

-- a script is read in one way
abbrev pub OneReading : Type 0
OneReading = (text : List ℕ) (m n : ℕ) (schema schema' : Tables) (lines lines' : List Line) → HasLines text m schema lines → HasLines text n schema' lines' → (m ≡ n) × (schema ≡ schema') × (lines ≡ lines')

-- so a script that is read is refused for want of memory alone
abbrev pub ReadHasNoFault : Type 0
ReadHasNoFault = (text : List ℕ) (members : ℕ) (schema : Tables) (lines : List Line) (refusal : Refusal) → HasLines text members schema lines → IsScriptFault text refusal → refusal ≡ NoMemory

-- and two refusals of one text, memory aside, are the same
abbrev pub OneFault : Type 0
OneFault = (text : List ℕ) (q r : Refusal) → IsScriptFault text q → IsScriptFault text r → (q ≡ r) ⊎ (q ≡ NoMemory) ⊎ (r ≡ NoMemory)

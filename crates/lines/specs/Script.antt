-- Which lines of a script count, which are the schema's, and which line is bad.
use Rattle.std.specs.Prelude.{◌≡◌, ◌≢◌, ℕ, ◌+◌, ◌==◌, ◌≤◌, Bool, true, false, not, List, [], ◌∷◌, ◌++◌, length, codes, decimal, map, filter, All, ◌⊎◌, ⊤, Ok, Err}
use Rattle.std.specs.List.{slice_split, flat_map}
use Rattle.fault.specs.declared.refusal.Refusal.{Refusal}
use Rattle.fault.specs.declared.refusal.Refusal.TheVariants.{NoMemory, BadScript}
use Rattle.sqlchecks.specs.Columns.{Tables}
use Rattle.schemaread.specs.Schemas.{SchemaSays}
use Rattle.lines.specs.declared.line.Line.{Line}
use Rattle.lines.specs.Line.{line_text, IsInRange, IsNoLine}

-- a line is skipped that is empty or begins with `#`, which is 35
abbrev pub is_skipped : List ℕ → Bool
is_skipped [] = true
is_skipped (c ∷ cs) = c == 35

-- what stands between the ends of lines, which are 10
abbrev pub pieces : List ℕ → List (List ℕ)
pieces text = slice_split (λ c. c == 10) text

-- the lines that count
abbrev pub counted : List (List ℕ) → List (List ℕ)
counted lines = filter (λ line. not (is_skipped line)) lines

-- the opening line
abbrev pub members_text : ℕ → List ℕ
members_text members = codes "members " ++ decimal members

-- lines as one text, each with its end
abbrev pub text_of_lines : List (List ℕ) → List ℕ
text_of_lines lines = flat_map (λ line. line ++ 10 ∷ []) lines

-- a group has 3 to 7 members
abbrev pub IsMemberCount : ℕ → Type 0
IsMemberCount members = (3 ≤ members) × (members ≤ 7)

-- Up to the line `schema`, where an opening line for so many members is all that counts; then the lines of the schema, up to the
-- first line `end`; then the rest.
pub record HasParts (lines : List (List ℕ)) (members : ℕ) (schema : List ℕ) (rest : List (List ℕ)) : Type 0 where
  pub opening : List (List ℕ)
  pub block : List (List ℕ)
  pub whole : lines ≡ opening ++ (codes "schema" ∷ (block ++ (codes "end" ∷ rest)))
  pub opens : counted opening ≡ members_text members ∷ []
  pub group : IsMemberCount members
  pub first_end : All (λ line. line ≢ codes "end") block
  pub schema_text : schema ≡ text_of_lines block

-- The script has an opening line for so many members, the text of this schema, and then these lines in range. Nothing stands after
-- its last LF.
pub record HasLines (text : List ℕ) (members : ℕ) (schema : Tables) (lines : List Line) : Type 0 where
  pub block : List ℕ
  pub rest : List (List ℕ)
  pub parts : HasParts (pieces text) members block (rest ++ [] ∷ [])
  pub says : SchemaSays block (Ok schema)
  pub counts : counted rest ≡ map line_text lines
  pub range : All (IsInRange members) lines

-- the script is for so many members, LF ends the line `end` of its schema, and the schema is refused so
abbrev pub HasBadSchema : List ℕ → Refusal → Type 0
HasBadSchema text refusal = (members : ℕ) × (block : List ℕ) × (rest : List (List ℕ)) × HasParts (pieces text) members block rest × (rest ≢ []) × SchemaSays block (Err refusal)

-- ---- faults

-- how far the lines before a line take a script: to its opening line, to the line `schema`, into the schema, or past its end
pub data Stage : Type 0 where
  Opening : Stage
  Named : (members : ℕ) → Stage
  Within : Stage
  After : (members : ℕ) → Stage

-- all of the lines that counts is an opening line for so many members
abbrev pub IsOpened : List (List ℕ) → ℕ → Type 0
IsOpened before members = (counted before ≡ members_text members ∷ []) × IsMemberCount members

-- a script begins with these lines, and they take it so far
abbrev pub IsBegun : Stage → List (List ℕ) → Type 0
IsBegun Opening before = counted before ≡ []
IsBegun (Named members) before = IsOpened before members
IsBegun Within before = (opening : List (List ℕ)) × (block : List (List ℕ)) × (members : ℕ) × (before ≡ opening ++ (codes "schema" ∷ block)) × IsOpened opening members × All (λ line. line ≢ codes "end") block
IsBegun (After members) before = (block : List ℕ) × (rest : List (List ℕ)) × (schema : Tables) × (lines : List Line) × HasParts before members block rest × SchemaSays block (Ok schema) × (counted rest ≡ map line_text lines) × All (IsInRange members) lines

-- a line that counts and may not stand there
abbrev pub IsWrong : Stage → List ℕ → Type 0
IsWrong Opening line = (members : ℕ) → IsMemberCount members → line ≢ members_text members
IsWrong (Named members) line = line ≢ codes "schema"
IsWrong Within line = ⊥
IsWrong (After members) line = IsNoLine members line

-- what stands there after the last LF may not: after the schema, anything but nothing
abbrev pub IsMissing : Stage → List ℕ → Type 0
IsMissing Opening line = ⊤
IsMissing (Named members) line = ⊤
IsMissing Within line = ⊤
IsMissing (After members) line = line ≢ []

-- The k-th line of the script is bad: a script begins with the lines before it, and it may not stand there, or no LF ends it. After
-- the schema the script may end.
pub record IsBadAt (text : List ℕ) (k : ℕ) : Type 0 where
  pub stage : Stage
  pub before : List (List ℕ)
  pub line : List ℕ
  pub after : List (List ℕ)
  pub whole : pieces text ≡ before ++ (line ∷ after)
  pub number : k ≡ length before + 1
  pub begun : IsBegun stage before
  pub bad : ((is_skipped line ≡ false) × IsWrong stage line) ⊎ ((after ≡ []) × IsMissing stage line)

-- the script is bad at a line, or its schema is refused so, or want of memory
abbrev pub IsScriptFault : List ℕ → Refusal → Type 0
IsScriptFault text refusal = (refusal ≡ NoMemory) ⊎ ((k : ℕ) × (refusal ≡ BadScript k) × IsBadAt text k) ⊎ HasBadSchema text refusal

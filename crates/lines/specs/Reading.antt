-- How a line is read word by word, and a script line by line.
use Rattle.std.specs.Prelude.{◌≡◌, ◌≢◌, ℕ, ◌+◌, ◌<◌, false, List, [], ◌∷◌, ◌++◌, length, get_or, codes, decimal, map, All, ◌⊎◌}
use Rattle.fault.specs.declared.refusal.Refusal.{Refusal}
use Rattle.fault.specs.declared.refusal.Refusal.TheVariants.{BadScript}
use Rattle.model.specs.declared.event.Left.{Left}
use Rattle.lines.specs.declared.line.TornJob.{TornJob}
use Rattle.lines.specs.declared.line.Line.{Line}
use Rattle.lines.specs.Line.{left_text, request_text, job_text, line_text, IsNode, IsRequest, IsJobInRange, IsInRange, IsNoLine}
use Rattle.lines.specs.Script.{is_skipped, pieces, counted, members_text, text_of_lines, IsMemberCount}

-- ---- lines

-- no space, which is 32, stands in the word
abbrev pub HasNoSpace : List ℕ → Type 0
HasNoSpace word = (i : ℕ) → i < length word → get_or word i 0 ≢ 32

-- the number of no such node
abbrev pub IsNoNode : ℕ → List ℕ → Type 0
IsNoNode members word = (n : ℕ) → IsNode members n → word ≢ decimal n

-- no client, number and text
abbrev pub IsNoRequest : List ℕ → Type 0
IsNoRequest rest = (client number : ℕ) (text : List ℕ) → IsRequest client number → rest ≢ request_text client number text

-- the text of no step in range that is cut short
abbrev pub IsNoJob : List ℕ → Type 0
IsNoJob text = (job : TornJob) → IsJobInRange job → text ≢ job_text job

-- no node, what is left in its store, and what follows
abbrev pub IsNoTorn : ℕ → List ℕ → Type 0
IsNoTorn members rest = (n : ℕ) (left : Left) (job : List ℕ) → IsNode members n → rest ≢ decimal n ++ 32 ∷ (left_text left ++ 32 ∷ job)

-- none of the first words that begin a line with more than one number
abbrev pub IsNoLong : List ℕ → Type 0
IsNoLong word = (word ≢ codes "submit") × (word ≢ codes "torn") × (word ≢ codes "ask") × (word ≢ codes "clock")

-- ---- scripts

-- these lines stand in the text before the rest, which so many lines precede
abbrev pub IsTaken : ℕ → List ℕ → List (List ℕ) → ℕ → List ℕ → Type 0
IsTaken before text lines number rest = (pieces text ≡ lines ++ pieces rest) × (number ≡ before + length lines)

-- these lines, and then one that no LF ends, are the whole text, after so many lines: a fault at that line
abbrev pub IsCutAfter : ℕ → List ℕ → List (List ℕ) → Refusal → Type 0
IsCutAfter before text lines refusal = (line : List ℕ) × (pieces text ≡ lines ++ line ∷ []) × (refusal ≡ BadScript (before + length lines + 1))

-- the first line that counts is this, and the rest follows
abbrev pub IsCounted : ℕ → List ℕ → List ℕ → ℕ → List ℕ → Type 0
IsCounted before text line number rest = (skipped : List (List ℕ)) × IsTaken before text (skipped ++ line ∷ []) number rest × (counted skipped ≡ []) × (is_skipped line ≡ false)

-- no line counts
abbrev pub IsNoneCounted : ℕ → List ℕ → Refusal → Type 0
IsNoneCounted before text refusal = (skipped : List (List ℕ)) × IsCutAfter before text skipped refusal × (counted skipped ≡ [])

-- the text begins with an opening line for so many members and the line `schema`, and the rest follows
abbrev pub IsOpening : List ℕ → ℕ → ℕ → List ℕ → Type 0
IsOpening text members number rest = (opening : List (List ℕ)) × IsTaken 0 text (opening ++ codes "schema" ∷ []) number rest × (counted opening ≡ members_text members ∷ []) × IsMemberCount members

-- the text begins with these lines and the line `end`, which is none of them, and the rest follows
abbrev pub IsBlock : ℕ → List ℕ → List ℕ → ℕ → List ℕ → Type 0
IsBlock before text block number rest = (lines : List (List ℕ)) × IsTaken before text (lines ++ codes "end" ∷ []) number rest × All (λ line. line ≢ codes "end") lines × (block ≡ text_of_lines lines)

-- no line is `end`
abbrev pub IsEndless : ℕ → List ℕ → Refusal → Type 0
IsEndless before text refusal = (lines : List (List ℕ)) × IsCutAfter before text lines refusal × All (λ line. line ≢ codes "end") lines

-- the text's lines, each of which LF ends, say these in range
abbrev pub IsSaid : ℕ → List ℕ → List Line → Type 0
IsSaid members text lines = (taken : List (List ℕ)) × (pieces text ≡ taken ++ [] ∷ []) × (counted taken ≡ map line_text lines) × All (IsInRange members) lines

-- the lines before a line say lines in range, and it is the text of none, or no LF ends it
pub record IsUnsaid (before members : ℕ) (text : List ℕ) (refusal : Refusal) : Type 0 where
  pub taken : List (List ℕ)
  pub line : List ℕ
  pub after : List (List ℕ)
  pub lines : List Line
  pub whole : pieces text ≡ taken ++ (line ∷ after)
  pub number : refusal ≡ BadScript (before + length taken + 1)
  pub counts : counted taken ≡ map line_text lines
  pub range : All (IsInRange members) lines
  pub bad : ((is_skipped line ≡ false) × IsNoLine members line) ⊎ ((after ≡ []) × (line ≢ []))

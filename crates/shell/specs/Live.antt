-- What a run on threads prints.
use Rattle.std.specs.Prelude.{◌≡◌, ◌++◌, ℕ, false, List, [], ◌∷◌, Option}
use Rattle.std.specs.Io.KnownBytes.{Appends}
use Rattle.std.specs.declared.vec.Vec.{Vec}
use Rattle.std.specs.declared.alloc.Global.{Global}
use Rattle.answertext.specs.Sinks.{AppendsBeginning}
use Rattle.flight.specs.declared.flight.Answered.{Answered}
use Rattle.flight.specs.declared.flight.Version.TheVariants.{Three}
use Rattle.flight.specs.declared.life.Life.{Life}
use Rattle.forms.specs.declared.form.Form.{Form}
use Rattle.lines.specs.declared.line.Line.{Line}
use Rattle.lines.specs.Script.{HasLines}
use Rattle.live.specs.declared.said.Said.{Said}
use Rattle.sqlchecks.specs.Columns.{Tables}
use Rattle.shell.specs.Audit.{evidence_of}
use Rattle.shell.specs.Showing.{IsVerdictIn, PlaysIn, PrintsLines, unshown}
use Rattle.shell.specs.declared.showing.Showing.{Showing}

-- Known bytes grow by what these lines print in this form, and then by what is said in it of these lives and answers over these tables,
-- as flights of version 3 have them.
abbrev pub SaysLast : Form → Tables → List Line → List (Vec Life Global) → List (Vec Answered Global) → ℕ → Option (List ℕ) → Option (List ℕ) → Type 0
SaysLast form tables lines lives answers status old new = (printed : List ℕ) × (text : List ℕ) × PrintsLines form false lines printed
    × IsVerdictIn form (evidence_of Three tables lives answers) status text × Appends old new (printed ++ text)

-- The text is a script for so many nodes. Known bytes grow by what its lines print, and then by what is said of some lives and answers
-- over the script's tables; which lives and answers these are is not said here.
abbrev pub EndsRun : Form → ℕ → ℕ → Option (List ℕ) → Option (List ℕ) → List ℕ → Type 0
EndsRun form nodes status old new text = (tables : Tables) × (lines : List Line) × HasLines text nodes tables lines
    × ((lives : List (Vec Life Global)) × (answers : List (Vec Answered Global)) × SaysLast form tables lines lives answers status old new)

-- ---- over any pilot, by what it tells of a line and of its end

-- played one by one from the first to the last, these lines print this
abbrev pub PlaysAll : {P : Type 0} → (P → Line → List ℕ → P → Type 0) → P → List Line → List ℕ → P → Type 0
PlaysAll plays first [] printed last = (last ≡ first) × (printed ≡ [])
PlaysAll {P} plays first (line ∷ lines) printed last = (next : P) × (text : List ℕ) × (later : List ℕ) × plays first line text next
    × PlaysAll plays next lines later last × (printed ≡ text ++ later)

-- played by a pilot, the lines print this in this form
abbrev pub PlaysLines : {P : Type 0} → Form → (P → Line → Said → P → Type 0) → P → List Line → List ℕ → Showing P → Type 0
PlaysLines form plays pilot lines printed last = PlaysAll (PlaysIn form plays) (unshown pilot) lines printed last

-- Known bytes grow by what the lines print in this form, and then by what is said in it, over these tables, of the lives and answers
-- that the pilot's nodes recorded by its end.
pub record PrintsRun {P : Type 0} (form : Form) (plays : P → Line → Said → P → Type 0) (recorded : P → List (Vec Life Global) → List (Vec Answered Global) → Type 0)
    (tables : Tables) (lines : List Line) (pilot : P) (status : ℕ) (old new : Option (List ℕ)) : Type 0 where
  pub printed : List ℕ
  pub last : Showing P
  pub played : PlaysLines form plays pilot lines printed last
  pub lives : List (Vec Life Global)
  pub answers : List (Vec Answered Global)
  pub told : recorded last.pilot lives answers
  pub text : List ℕ
  pub said : IsVerdictIn form (evidence_of Three tables lives answers) status text
  pub grown : Appends old new (printed ++ text)

-- known bytes grow by a beginning of what the first of the lines print
pub record BeginsLines {P : Type 0} (plays : P → Line → List ℕ → P → Type 0) (lines : List Line) (pilot : P) (old new : Option (List ℕ)) : Type 0 where
  pub some : List Line
  pub rest : List Line
  pub whole : some ++ rest ≡ lines
  pub printed : List ℕ
  pub last : P
  pub played : PlaysAll plays pilot some printed last
  pub begun : AppendsBeginning old new printed

-- known bytes grow by a beginning of what `PrintsRun` says
pub record BeginsRun {P : Type 0} (form : Form) (plays : P → Line → Said → P → Type 0) (recorded : P → List (Vec Life Global) → List (Vec Answered Global) → Type 0)
    (tables : Tables) (lines : List Line) (pilot : P) (old new : Option (List ℕ)) : Type 0 where
  pub printed : List ℕ
  pub last : Showing P
  pub played : PlaysLines form plays pilot lines printed last
  pub lives : List (Vec Life Global)
  pub answers : List (Vec Answered Global)
  pub told : recorded last.pilot lives answers
  pub status : ℕ
  pub text : List ℕ
  pub said : IsVerdictIn form (evidence_of Three tables lives answers) status text
  pub begun : AppendsBeginning old new (printed ++ text)

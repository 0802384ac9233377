-- The texts that outcomes are shown as.
use Rattle.std.specs.Prelude.{◌++◌, ℕ, Bool, true, false, List, Option, Some, None, Result, Ok, Err, codes}
use Rattle.fault.specs.declared.refusal.Refusal.{Refusal as AnyRefusal}
use Rattle.forms.specs.Shown.{outcome_in}
use Rattle.forms.specs.declared.form.Form.{Form as Shape}
use Rattle.forms.specs.declared.form.Form.TheVariants.{Table as AsTable, Lines as AsLines, Csv as AsCsv, Json as AsJson}
use Rattle.store.specs.Words.{words_of}
use Rattle.store.specs.declared.outcome.Outcome.{Outcome}
use Rattle.store.specs.declared.outcome.Outcome.TheVariants.{Accepted, Refused, Unanswered}
use Rattle.storecommands.specs.declared.dot.Form.{Form}
use Rattle.storecommands.specs.declared.dot.Form.TheVariants.{Table, Lines, Csv, Json}

-- a form that was asked for, as all outputs have it
abbrev pub shape_of : Form → Shape
shape_of Table = AsTable
shape_of Lines = AsLines
shape_of Csv = AsCsv
shape_of Json = AsJson

-- what was told, as all outputs have it
abbrev pub told_of : Outcome → Option (Result ℕ AnyRefusal)
told_of (Accepted stamp) = Some (Ok stamp)
told_of (Refused refusal) = Some (Err refusal)
told_of Unanswered = None

-- an outcome: at a terminal without its client and number, unless it is not known or shown as an object
abbrev pub outcome_shown : Form → Bool → ℕ → ℕ → Outcome → List ℕ
outcome_shown form false client number outcome = outcome_in (shape_of form) client number (told_of outcome)
outcome_shown Json true client number outcome = outcome_in AsJson client number (told_of outcome)
outcome_shown form true client number Unanswered = outcome_in (shape_of form) client number None
outcome_shown form true client number outcome = words_of outcome ++ codes "\n"

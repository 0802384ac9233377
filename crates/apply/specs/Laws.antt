-- What is so of every list of entries by the schema of any tables, whatever the texts say.
use Rattle.std.specs.Prelude.{ℕ, Option, List}
use Rattle.model.specs.declared.entry.Entry.{Entry}
use Rattle.model.specs.Logs.{IsStamped, closed}
use Rattle.model.specs.Answers.{Select, IsClosed}
use Rattle.rowlaws.specs.Logs.{ReadsFine}
use Rattle.versionlaws.specs.Answering.{HasAnswer, HasAnswerAt}
use Rattle.sqlchecks.specs.Columns.{Tables}
use Rattle.sqlread.specs.Meaning.{language_of}

-- what any text says is well formed
abbrev pub TextsFine : Type 0
TextsFine = (tables : Tables) → ReadsFine (language_of tables)

-- a query that is closed in a list whose stamps rise has an answer
abbrev pub EachAnswered : Type 0
EachAnswered = (tables : Tables) (q : Select) (list : List Entry) → IsStamped list → IsClosed q (closed list) → HasAnswer (language_of tables) q list

-- and so has one that is closed at any closed time, also at one above the last stamp
abbrev pub EachSealedAnswered : Type 0
EachSealedAnswered = (tables : Tables) (q : Select) (list : List Entry) (time : Option ℕ) → IsStamped list → IsClosed q time → HasAnswerAt (language_of tables) q list time

-- What contracts say of tables and the list of entries that they are of.
use Rattle.std.specs.Prelude.{◌≡◌, ℕ, ◌⊎◌, Bool, Option, None, Some, Result, Ok, Err, List, reverse, option_map}
use Rattle.fault.specs.declared.refusal.Refusal.{Refusal}
use Rattle.fault.specs.declared.refusal.Refusal.TheVariants.{NoMemory, NotClosed}
use Rattle.model.specs.declared.entry.Entry.{Entry}
use Rattle.model.specs.Texts.{instant_text}
use Rattle.model.specs.Transactions.{Language}
use Rattle.model.specs.Logs.{IsStamped, closed, state_after, state_at, least_stamp, executed, kept}
use Rattle.model.specs.Answers.{IsAnswer, closed_query, read_at}
use Rattle.rowlaws.specs.Statements.{AllListed}
use Rattle.versionlaws.specs.Versions.{Holds}
use Rattle.sqlread.specs.Shapes.{QueryShape}
use Rattle.sqlchecks.specs.Columns as columns
use Rattle.sqlread.specs.Meaning.{select_of, language_of}
use Rattle.answer.specs.declared.Answer.{Answer}
use Rattle.answer.specs.Answers.{answer_of}
use Rattle.retry.specs.Judging.{number_of, outcomes_of}
use Rattle.current.specs.Current as current
use Rattle.sysversion.specs.Versions as versions
use Rattle.apply.specs.declared.tables.Tables.{Tables}
use Rattle.apply.specs.Reads.{AreFew}

abbrev pub is_failed : Tables → Bool
is_failed tables = tables.failed

-- how many rows they have counted as read
abbrev pub reads_in : Tables → ℕ
reads_in tables = tables.count

-- the tables are those of the schema, and what the list of entries leaves
pub record AreTables (schema : columns.Tables) (list : List Entry) (tables : Tables) : Type 0 where
  pub rows : AllListed (current.rows_of tables.current) (state_after (language_of schema) (reverse list))
  pub numbers : (client : ℕ) → number_of tables.requests client ≡ executed client (reverse list)
  pub outcomes : (client : ℕ) → outcomes_of tables.requests client ≡ kept (language_of schema) client (reverse list)
  pub last : tables.last ≡ closed list
  pub held : IsStamped list → (n : ℕ) → Holds (versions.versions_of tables.versions n) (λ u. state_at (language_of schema) list u n) (least_stamp list) (state_after (language_of schema) (reverse list) n)
  pub current_schema : current.schema_in tables.current ≡ schema
  pub versions_schema : versions.schema_in tables.versions ≡ schema
  pub reads : AreFew schema list (reads_in tables)

-- the answer in the list to a question that is closed at this closed time, or 33 where it is not; or there was no memory
abbrev pub IsAskedOf : Language → QueryShape → List Entry → Option ℕ → Result Answer Refusal → Type 0
IsAskedOf schema q list time (Ok a) = (t : ℕ) × (time ≡ Some t) × (closed_query (select_of q) time ≡ Some (read_at t (select_of q))) × IsAnswer schema (read_at t (select_of q)) list (answer_of a)
IsAskedOf schema q list time (Err refusal) = (refusal ≡ NoMemory) ⊎ ((closed_query (select_of q) time ≡ None) × (refusal ≡ NotClosed (option_map instant_text time)))

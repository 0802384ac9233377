-- What versions answer of a question is what a list of entries does.
use Rattle.std.proofs.Common.{◌≡◌, ℕ, List, Option, Some, Result, Ok, Err, refl, ap, ◌∙◌, subst}
use Rattle.std.specs.Prelude.{IfOk, IfErr}
use Rattle.std.proofs.lemmas.Bool.{le-leb}
use Rattle.fault.specs.declared.refusal.Refusal.{Refusal}
use Rattle.model.specs.declared.entry.Entry.{Entry}
use Rattle.model.specs.Tables.{Table}
use Rattle.sqlchecks.specs.Columns as columns
use Rattle.model.specs.Logs.{IsStamped, state_at}
use Rattle.model.specs.Answers.{Query, read_at, closed_query}
use Rattle.versionlaws.specs.Versions.{Version, Keeps}
use Rattle.versionlaws.specs.Committing.{KeptLater}
use Rattle.sqlread.specs.Shapes.{QueryShape}
use Rattle.sqlread.specs.Meaning.{select_of, language_of}
use Rattle.answer.specs.declared.Answer.{Answer}
use Rattle.answer.specs.Answers.{columns_in}
use Rattle.sysversion.specs.Versions as versions
use Rattle.apply.specs.declared.tables.Tables.{Tables}
use Rattle.apply.specs.Asking.{IsAnswered, IsUnanswered}
use Rattle.apply.specs.View.{AreTables, IsAskedOf}

abbrev read : ℕ → QueryShape → Query
read t q = read_at t (select_of q)

pub asked_of : KeptLater → (schema : columns.Tables) (q : QueryShape) (list : List Entry) (time : Option ℕ) (tables : Tables) → AreTables schema list tables → IsStamped list → (r : Result Answer Refusal)
    → IfOk r (λ a. IsAnswered q time (versions.versions_of tables.versions q.table) a) → IfErr r (λ refusal. IsUnanswered q time refusal) → IsAskedOf (language_of schema) q list time r
asked_of later schema q list time tables are stamped (Ok a) ok err =
    let t : ℕ = ok.0 in
    let vs : List Version = versions.versions_of tables.versions q.table in
    let history : ℕ → Table = λ u. state_at (language_of schema) list u q.table in
    let holds = are.held stamped q.table in
    let keeps : Keeps vs history t = later (language_of schema) q.table list vs t stamped holds in
    let query : closed_query (select_of q) time ≡ Some (read t q) = ap (closed_query (select_of q)) ok.1 ∙ rw (le-leb (read t q).time.last t ok.2) refl in
    (t, ok.1, query, ok.3 history keeps holds.apart)
asked_of later schema q list time tables are stamped (Err refusal) ok err = err

pub columns_asked : (schema : columns.Tables) (list : List Entry) (tables : Tables) → AreTables schema list tables → (n : ℕ) (r : Result Answer Refusal)
    → IfOk r (λ a. a.columns.items ≡ columns_in (versions.schema_in tables.versions) n) → IfOk r (λ a. a.columns.items ≡ columns_in schema n)
columns_asked schema list tables are n r h = subst (λ s. IfOk r (λ a. a.columns.items ≡ columns_in s n)) are.versions_schema h

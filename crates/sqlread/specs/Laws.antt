-- The functions of texts in the words of the grammar: what spells a value, and where a text goes wrong.
use Rattle.std.specs.Prelude.{◌≡◌, ◌↔◌, ℕ, ◌≤◌, ◌<◌, List, length, Result, Ok, Err}
use Rattle.fault.specs.declared.refusal.Refusal.{Refusal}
use Rattle.fault.specs.declared.refusal.Refusal.TheVariants.{Syntax, TooLarge}
use Rattle.phrase.specs.Grammar.{Phrase}
use Rattle.sqltokens.specs.What.{What}
use Rattle.sqltokens.specs.Syntax.{Spells, IsWrongAt}
use Rattle.sqlsyntax.specs.Transactions.{statements}
use Rattle.sqlsyntax.specs.Queries.{query}
use Rattle.sqlchecks.specs.Columns.{Tables}
use Rattle.sqlread.specs.Changes.{statements_in}
use Rattle.sqlread.specs.Questions.{question_in}
use Rattle.sqlread.specs.Texts.{transaction_in, query_in}

-- A text of at most 4096 bytes says a value just where it spells some form that the checks let through to that value. It is a
-- syntax error at a place just where the grammar goes wrong there. Each other refusal is that of the checks on the form that it spells.
abbrev pub Says : {A B : Type 0} → Phrase What A → (A → Result B Refusal) → (List ℕ → Result B Refusal) → Type 0
Says {A} {B} grammar checked said =
    (text : List ℕ) → length text ≤ 4096 →
    ((b : B) → (said text ≡ Ok b) ↔ ((form : A) × Spells grammar text form × (checked form ≡ Ok b)))
    × ((at : ℕ) → (said text ≡ Err (Syntax at)) ↔ IsWrongAt grammar text at)
    × ((form : A) (r : Refusal) → Spells grammar text form → checked form ≡ Err r → said text ≡ Err r)

-- A longer text is too large.
abbrev pub IsBounded : {B : Type 0} → (List ℕ → Result B Refusal) → Type 0
IsBounded said = (text : List ℕ) → 4096 < length text → said text ≡ Err TooLarge

abbrev pub SaysTransaction : Type 0
SaysTransaction = (schema : Tables) → Says statements (statements_in schema) (transaction_in schema)

abbrev pub SaysQuery : Type 0
SaysQuery = (schema : Tables) → Says query (question_in schema) (query_in schema)

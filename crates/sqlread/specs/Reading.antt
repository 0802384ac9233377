-- What a text is read as, and what the language of tables is, in the words of what texts spell.
use Rattle.std.specs.Prelude.{◌≡◌, ◌↔◌, ℕ, ◌<◌, ◌≤◌, List, length, Result, Err}
use Rattle.fault.specs.declared.refusal.Refusal.{Refusal}
use Rattle.fault.specs.declared.refusal.Refusal.TheVariants.{Syntax, TooLarge}
use Rattle.model.specs.Transactions.{Statement, Language}
use Rattle.sqlsyntax.specs.Transactions.{StatementForm}
use Rattle.sqlsyntax.specs.Spelling.{Spells, IsWrongAt}
use Rattle.sqlchecks.specs.Columns.{Tables}
use Rattle.sqlread.specs.Changes.{statements_in}
use Rattle.sqlread.specs.Meaning.{meanings, name_of, references_from}

-- more than 4096 bytes, or a text that spells forms, which the checks take for statements or refuse, or one that goes wrong at a place
pub data IsReading (tables : Tables) (text : List ℕ) (r : Result (List Statement) Refusal) : Type 0 where
  TooLong : 4096 < length text → r ≡ Err TooLarge → IsReading tables text r
  Spelled : (forms : List StatementForm) → length text ≤ 4096 → Spells text forms → r ≡ meanings (statements_in tables forms) → IsReading tables text r
  Wrong : (at : ℕ) → length text ≤ 4096 → IsWrongAt text at → r ≡ Err (Syntax at) → IsReading tables text r

-- the language of these tables
pub record IsLanguage (tables : Tables) (language : Language) : Type 0 where
  pub count : language.tables ≡ length tables
  pub name : (n : ℕ) → language.name n ≡ name_of tables n
  pub references : language.references ≡ references_from 0 tables
  pub reads : (text : List ℕ) (r : Result (List Statement) Refusal) → IsReading tables text r ↔ (language.reads text ≡ r)

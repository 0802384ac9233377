-- The text of a schema in the words of the grammar: what spells it, and where it goes wrong.
use Rattle.std.specs.Prelude.{◌≡◌, ◌↔◌, ℕ, ◌≤◌, ◌<◌, List, length, Result, Ok, Err}
use Rattle.fault.specs.declared.refusal.Refusal.{Refusal}
use Rattle.fault.specs.declared.refusal.Refusal.TheVariants.{Syntax, TooLarge}
use Rattle.sqltokens.specs.Syntax.{Spells, IsWrongAt}
use Rattle.schemasyntax.specs.Schemas.{TableForm, tables}
use Rattle.sqlchecks.specs.Columns.{Tables}
use Rattle.schemaread.specs.Schemas.{MakesSaid, SchemaSays}

-- A text of at most 65536 bytes says a schema just where it spells some statements that make that schema. It is a syntax error
-- at a place just where the grammar goes wrong there. Each other refusal is that of the checks on the statements that it spells.
abbrev pub SaysSchema : Type 0
SaysSchema =
    (text : List ℕ) → length text ≤ 65536 →
    ((made : Tables) → SchemaSays text (Ok made) ↔ ((forms : List TableForm) × Spells tables text forms × MakesSaid (Ok forms) (Ok made)))
    × ((at : ℕ) → SchemaSays text (Err (Syntax at)) ↔ IsWrongAt tables text at)
    × ((forms : List TableForm) (r : Refusal) → Spells tables text forms → MakesSaid (Ok forms) (Err r) → SchemaSays text (Err r))

-- A longer text is too large, and that alone.
abbrev pub IsBoundedSchema : Type 0
IsBoundedSchema = (text : List ℕ) (answer : Result Tables Refusal) → 65536 < length text → SchemaSays text answer ↔ (answer ≡ Err TooLarge)

-- A text says one thing.
abbrev pub SaysOneSchema : Type 0
SaysOneSchema = (text : List ℕ) (a b : Result Tables Refusal) → SchemaSays text a → SchemaSays text b → a ≡ b

-- What a contract sees of a table of a schema. Columns are named by their places, counted from 0.
use Rattle.std.specs.Prelude.{ℕ, List}
use Rattle.schema.specs.declared.table.Kind.{Kind}

-- columns that refer to the key of another table: in the order of that key, and that table's place
pub record ReferenceShape : Type 0 where
  pub columns : List ℕ
  pub parent : ℕ

pub record TableShape : Type 0 where
  pub columns : List (List ℕ × Kind)
  pub period : List ℕ
  pub start : ℕ
  pub end : ℕ
  pub system_start : ℕ
  pub system_end : ℕ
  pub key : List ℕ
  pub values : List ℕ
  pub references : List ReferenceShape

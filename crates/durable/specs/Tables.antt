-- The three tables.
use Rattle.sqlite.specs.Collation.TheVariants.{Binary}
use Rattle.std.specs.Prelude.{true, false, [], ◌∷◌, Some, codes, List, ℕ}
use Rattle.sqlite.specs.declared.types.Value.TheVariants.{Null}
use Rattle.sqlite.specs.Table.{Table}
use Rattle.sqlite.specs.Schema.{Schema}
use Rattle.sqlite_schema.specs.declared.schema.Column.{Column}
use Rattle.sqlite.specs.Kind.{Kind}
use Rattle.sqlite.specs.Kind.TheVariants.{Integer, Text}

abbrev pub a_column : List ℕ → Kind → Column
a_column name kind = record { name = name; kind = kind; is_strict = true; not_null = true; default = Null; collation = Binary }

abbrev pub id_column : List ℕ → Column
id_column name = record { name = name; kind = Integer; is_strict = true; not_null = false; default = Null; collation = Binary }

-- a table with an INTEGER PRIMARY KEY for its first column, and no other rule
abbrev pub plain_table : List ℕ → ℕ → List Column → Table
plain_table name tree columns = record {
  name = name;
  tree = tree;
  columns = columns;
  key = Some 0;
  primary = 0 ∷ [];
  uniques = [];
  orders = [];
  checks = [];
  references = [];
  computed = [];
  stamps = record { places = []; terms = []; formats = [] };
  is_counted = false;
}

abbrev pub meta : Table
meta = plain_table (codes "meta") 0 (id_column (codes "id") ∷ a_column (codes "term") Integer ∷ a_column (codes "vote") Integer ∷ [])

abbrev pub log : Table
log = plain_table (codes "log") 1
    (id_column (codes "idx") ∷ a_column (codes "term") Integer ∷ a_column (codes "stamp") Integer ∷ a_column (codes "client") Integer ∷ a_column (codes "number") Integer ∷ a_column (codes "body") Text ∷ [])

-- its column t is the floor
abbrev pub floor : Table
floor = plain_table (codes "floor") 2 (id_column (codes "id") ∷ a_column (codes "t") Integer ∷ [])

abbrev pub no_schema : Schema
no_schema = record { tables = []; indexes = []; views = [] }

abbrev pub meta_schema : Schema
meta_schema = record { tables = meta ∷ []; indexes = []; views = [] }

-- of a database that was made before members had floors
abbrev pub old_schema : Schema
old_schema = record { tables = meta ∷ log ∷ []; indexes = []; views = [] }

abbrev pub schema : Schema
schema = record { tables = meta ∷ log ∷ floor ∷ []; indexes = []; views = [] }

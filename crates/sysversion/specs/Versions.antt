-- What a contract sees of the versions of all tables.
use Rattle.std.specs.Prelude.{ℕ, Bool, List, [], length, slice_get}
use Rattle.std.specs.Option.{option_map_or}
use Rattle.sqlchecks.specs.Columns.{Tables}
use Rattle.versionlaws.specs.Versions.{Version}
use Rattle.sysversion.specs.declared.table.TableVersions.{TableVersions}
use Rattle.sysversion.specs.declared.versions.Versions.{Versions}
use Rattle.sysversion.specs.Lists.{Lists, lists_of, versions_in}

-- the versions of each key of a table, in the order in which they came
abbrev pub list_of : TableVersions → Lists
list_of table = lists_of table.lists

-- the versions of a table, key by key, and those of a key in the order in which they came
abbrev pub versions_of_table : TableVersions → List Version
versions_of_table table = versions_in table.lists.entries

-- the versions of each table, by its number
abbrev pub versions_of : Versions → ℕ → List Version
versions_of versions n = option_map_or versions_of_table (slice_get versions.tables.items n) []

-- the tables of the schema that they were made of
abbrev pub schema_in : Versions → Tables
schema_in versions = versions.schema

-- how many there are
abbrev pub table_count : Versions → ℕ
table_count versions = length versions.schema

-- a commit found no memory
abbrev pub is_failed : Versions → Bool
is_failed versions = versions.failed

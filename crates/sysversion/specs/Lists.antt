-- The versions of a table in the map of the code.
use Rattle.std.specs.Prelude.{Option, Some, None, List, [], if◌then◌else◌, map, flat_map, filter}
use Rattle.std.specs.BTreeMap.{BTreeMap, get}
use Rattle.model.specs.declared.value.Value.{Value}
use Rattle.model.specs.Values.{key_cmp, same_key}
use Rattle.model.specs.Tables.{Row}
use Rattle.current.specs.Rows.{row_of}
use Rattle.versionlaws.specs.Versions.{Version}
use Rattle.sysversion.specs.declared.version.Version.{Version as Declared}

abbrev pub version_of : Declared → Version
version_of v = record { row = row_of v.row; end = v.end }

-- the versions of each key
abbrev pub Lists : Type 0
Lists = List Value → List Version

abbrev pub Map : Type 0
Map = BTreeMap (List Value) (List Declared)

abbrev pub list_in : Option (List Declared) → List Version
list_in None = []
list_in (Some versions) = map version_of versions

abbrev pub lists_of : Map → Lists
lists_of m = λ key. list_in (get key_cmp m key)

-- all versions, key by key
abbrev pub versions_in : List (List Value × List Declared) → List Version
versions_in entries = flat_map (λ e. map version_of e.1) entries

-- the lists with this one for the key
abbrev pub with_list : List Value → List Version → Lists → Lists
with_list key versions lists = λ k. if same_key key k then versions else lists k

-- the rows of the key
abbrev pub rows_of : List Value → List Row → List Row
rows_of key rows = filter (λ r. same_key r.key key) rows

-- The form of a store: its one spelling, and what a text says as one.
use Rattle.std.specs.Prelude.{◌≡◌, ◌≢◌, ◌≤◌, ◌<◌, ◌^◌, ℕ, List, ◌++◌, codes, Ok}
use Rattle.fault.specs.declared.refusal.Refusal.TheVariants.{NoMemory}
use Rattle.flight.specs.Spelling.{ended, block_text}
use Rattle.schemaread.specs.Schemas.{SchemaSays}
use Rattle.sqlchecks.specs.Columns.{Tables}
use Rattle.store.specs.declared.refusal.StoreRefusal.{StoreRefusal}
use Rattle.store.specs.declared.refusal.StoreRefusal.TheVariants.{NoStore, Version, Refused}

-- the line that names a version, and what follows it
abbrev pub version_text : ℕ → List ℕ → List ℕ
version_text version rest = codes "bitable store " ++ ended version rest

-- the line of how many members there are, and what follows it
abbrev pub members_text : ℕ → List ℕ → List ℕ
members_text members rest = codes "members " ++ ended members rest

-- the members, the text of the tables, and the end
abbrev pub parts_text : ℕ → List ℕ → List ℕ
parts_text members schema = members_text members (codes "schema " ++ block_text schema (codes "end\n"))

-- the text of a form
abbrev pub form_text : ℕ → List ℕ → List ℕ
form_text members schema = version_text 1 (parts_text members schema)

-- as many members as a store may have
abbrev pub IsMany : ℕ → Type 0
IsMany members = (3 ≤ members) × (members ≤ 7)

-- the text is the form of so many members, with the text of these tables
pub record IsForm (text : List ℕ) (members : ℕ) (schema : List ℕ) (tables : Tables) : Type 0 where
  pub spelled : text ≡ form_text members schema
  pub many : IsMany members
  pub says : SchemaSays schema (Ok tables)

-- the text names this version
abbrev pub IsOfVersion : List ℕ → ℕ → Type 0
IsOfVersion text version = (rest : List ℕ) × (text ≡ version_text version rest)

-- the text is no form, and names no version but the first
pub record IsNoForm (text : List ℕ) : Type 0 where
  pub form : (members : ℕ) (schema : List ℕ) (tables : Tables) → ¬ IsForm text members schema tables
  pub version : (version : ℕ) → version < 2 ^ 64 → version ≢ 1 → ¬ IsOfVersion text version

-- why a text is refused as a form
abbrev pub IsRefusedForm : List ℕ → StoreRefusal → Type 0
IsRefusedForm text NoStore = IsNoForm text
IsRefusedForm text (Version version) = IsOfVersion text version × (version ≢ 1)
IsRefusedForm text refusal = refusal ≡ Refused NoMemory

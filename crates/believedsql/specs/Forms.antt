-- What the text of a schema says, and how each part of it is spelled.
use Rattle.std.specs.Prelude.{◌≡◌, ◌≢◌, List, [], ◌∷◌, ◌++◌, map, codes}
use Rattle.std.specs.List.{AllByRecursion, flat_map}
use Rattle.sqltokens.specs.declared.token.Keyword.TheVariants as keyword
use Rattle.sqltokens.specs.declared.token.Keyword.TheVariants.{Timestamp, Generated, Always, As, Row, Start, End, Period, For, SystemTime, Primary, Key, Without, Overlaps, Foreign, References, Create, With, System, Versioning}
use Rattle.sqltokens.specs.declared.token.Sign.TheVariants.{Open, Close, Comma, Semicolon}
use Rattle.sqltokens.specs.What.{What, Word, Symbol, Name, Digits, Piece}
use Rattle.namesyntax.specs.Names.{Bytes}

-- ---- what is said

-- VARCHAR has its digits; a row's start and end are TIMESTAMP(6) GENERATED ALWAYS
pub data ColumnType : Type 0 where
  Integer : ColumnType
  Varchar : (digits : Bytes) → ColumnType
  Date : ColumnType
  RowStart : ColumnType
  RowEnd : ColumnType

-- columns and a period
pub record KeyNames : Type 0 where
  pub columns : List Bytes
  pub period : Bytes

-- its own names, the parent, and the names of the parent's key
pub record ForeignKey : Type 0 where
  pub names : KeyNames
  pub parent : Bytes
  pub parent_names : KeyNames

-- its period and SYSTEM_TIME with the names of the columns that they go from and to, its key and its foreign keys
pub record Table : Type 0 where
  pub name : Bytes
  pub columns : List (Bytes × ColumnType)
  pub period : Bytes
  pub start : Bytes
  pub end : Bytes
  pub system_start : Bytes
  pub system_end : Bytes
  pub key : KeyNames
  pub foreign_keys : List ForeignKey

-- ---- spellings

-- the words of each type
abbrev pub column_type : ColumnType → List What
column_type Integer = Word keyword.Integer ∷ []
column_type (Varchar digits) = Word keyword.Varchar ∷ Symbol Open ∷ Digits digits ∷ Symbol Close ∷ []
column_type Date = Word keyword.Date ∷ []
column_type RowStart = Word Timestamp ∷ Symbol Open ∷ Digits (codes "6") ∷ Symbol Close ∷ Word Generated ∷ Word Always ∷ Word As ∷ Word Row ∷ Word Start ∷ []
column_type RowEnd = Word Timestamp ∷ Symbol Open ∷ Digits (codes "6") ∷ Symbol Close ∷ Word Generated ∷ Word Always ∷ Word As ∷ Word Row ∷ Word End ∷ []

-- each with a comma behind it
abbrev pub listed : List Bytes → List What
listed names = flat_map (λ name. Name name ∷ Symbol Comma ∷ []) names

-- (columns, PERIOD period)
abbrev pub key_names : KeyNames → List What
key_names k = Symbol Open ∷ listed k.columns ++ Word Period ∷ Name k.period ∷ Symbol Close ∷ []

-- , FOREIGN KEY names REFERENCES parent names
abbrev pub foreign_key : ForeignKey → List What
foreign_key k = Symbol Comma ∷ Word Foreign ∷ Word Key ∷ key_names k.names ++ Word References ∷ Name k.parent ∷ key_names k.parent_names

-- CREATE TABLE name (columns, periods, key, foreign keys) WITH SYSTEM VERSIONING;
abbrev pub table : Table → List What
table t =
    Word Create ∷ Word keyword.Table ∷ Name t.name ∷ Symbol Open ∷ flat_map (λ c. Name c.0 ∷ column_type c.1 ++ Symbol Comma ∷ []) t.columns
    ++ Word Period ∷ Word For ∷ Name t.period ∷ Symbol Open ∷ Name t.start ∷ Symbol Comma ∷ Name t.end ∷ Symbol Close ∷ Symbol Comma
    ∷ Word Period ∷ Word For ∷ Word SystemTime ∷ Symbol Open ∷ Name t.system_start ∷ Symbol Comma ∷ Name t.system_end ∷ Symbol Close ∷ Symbol Comma
    ∷ Word Primary ∷ Word Key ∷ Symbol Open ∷ listed t.key.columns ++ Name t.key.period ∷ Word Without ∷ Word Overlaps ∷ Symbol Close
    ∷ flat_map foreign_key t.foreign_keys ++ Symbol Close ∷ Word With ∷ Word System ∷ Word Versioning ∷ Symbol Semicolon ∷ []

-- no list is empty but that of foreign keys
abbrev pub IsFull : Table → Type 0
IsFull t = (t.columns ≢ []) × (t.key.columns ≢ []) × AllByRecursion (λ k. (k.names.columns ≢ []) × (k.parent_names.columns ≢ [])) t.foreign_keys

-- the tokens of one table or more
abbrev pub IsSpelling : List Table → List Piece → Type 0
IsSpelling ts tokens = (map (λ t. t.what) tokens ≡ flat_map table ts) × (ts ≢ []) × AllByRecursion IsFull ts

-- The columns of a table, one place at a time.
use Rattle.std.proofs.Common.{◌≡◌, ◌∙◌, ℕ, ◌+◌, ◌<◌, ◌≤◌, List, [], ◌∷◌, ◌++◌, length, take, Some, None, get_or, sym, ap, arith}
use Rattle.std.proofs.lemmas.List.{append-nil, take_more, flat_map_more, take_all}
use Rattle.std.proofs.lemmas.List.FromFn.{length-enumerate_from, get_or-enumerate_from}
use Rattle.std.proofs.lemmas.Option.{get_or_from_slice_get, slice_get_within}
use Rattle.std.specs.Prelude.{Option}
use Rattle.std.specs.Option.{option_map_or}
use Rattle.std.specs.List.{flat_map, enumerate_from, slice_get}
use Rattle.schema.specs.Shape.{TableShape}
use Rattle.schema.specs.declared.table.Kind.{Kind}
use Rattle.schema.specs.declared.table.Kind.TheVariants.{Integer}
use Rattle.answer.specs.Answers.{column_at, shows_at, table_columns}
use Rattle.answer.specs.declared.Column.{Column}
use Rattle.answer.specs.declared.Shows.{Shows}

-- a column of this name, if it shows something
abbrev column_from : List ℕ → Option Shows → List Column
column_from name shows = option_map_or (λ (s : Shows). record { name = name; shows = s } ∷ []) shows []

-- the columns before this place
abbrev pub columns_before : TableShape → ℕ → List Column
columns_before table i = flat_map (column_at table) (take i (enumerate_from 0 table.columns))

one_more : (table : TableShape) (i : ℕ) (d : List ℕ × Kind) → i < length table.columns
    → columns_before table (i + 1) ≡ columns_before table i ++ column_from (get_or table.columns i d).0 (shows_at table i)
one_more table i d h =
    let all : List (ℕ × (List ℕ × Kind)) = enumerate_from 0 table.columns in
    let more : take (i + 1) all ≡ take i all ++ get_or all i (0, d) ∷ [] =
    take_more all i (0, d) (omega (arith, length-enumerate_from 0 table.columns)) in
    let here : get_or all i (0, d) ≡ (0 + i, get_or table.columns i d) = get_or-enumerate_from 0 table.columns i (0, d) h in
    let place : 0 + i ≡ i = omega arith in
    ap (flat_map (column_at table)) more
    ∙ sym (flat_map_more (column_at table) [] (take i all) (get_or all i (0, d)))
    ∙ ap (λ c. columns_before table i ++ column_at table c) here
    ∙ ap (λ p. columns_before table i ++ column_from (get_or table.columns i d).0 (shows_at table p)) place

-- a place that shows nothing
pub next_none : (table : TableShape) (i : ℕ) → i < length table.columns → shows_at table i ≡ None
    → columns_before table (i + 1) ≡ columns_before table i
next_none table i h none =
    let d : List ℕ × Kind = ([], Integer) in
    one_more table i d h ∙ ap (λ o. columns_before table i ++ column_from (get_or table.columns i d).0 o) none ∙ append-nil (columns_before table i)

-- a place of this name that shows something
pub next_some : (table : TableShape) (i : ℕ) (name : List ℕ) (kind : Kind) (shows : Shows) → slice_get table.columns i ≡ Some (name, kind) → shows_at table i ≡ Some shows
    → columns_before table (i + 1) ≡ columns_before table i ++ record { name = name; shows = shows } ∷ []
next_some table i name kind shows column some =
    one_more table i (name, kind) (slice_get_within table.columns i (name, kind) column)
    ∙ ap (λ c. columns_before table i ++ column_from c.0 (shows_at table i)) (get_or_from_slice_get table.columns i (name, kind) (name, kind) column)
    ∙ ap (λ o. columns_before table i ++ column_from name o) some

pub all_columns : (table : TableShape) (i : ℕ) → length table.columns ≤ i → columns_before table i ≡ table_columns table
unfolding table_columns
all_columns table i h = ap (flat_map (column_at table)) (take_all i (enumerate_from 0 table.columns) (omega (arith, length-enumerate_from 0 table.columns)))

use Rattle.std.proofs.Common.{◌≡◌, ℕ, ◌+◌, ◌<◌, ◌≤◌, ◌^◌, List, length, map, drop, option_map}
use Rattle.rowlaws.specs.Covering.{lesser, missing}
use Rattle.schema.specs.Shape.{ReferenceShape}
use Rattle.sqlread.specs.Meaning.{reference_of}
use Rattle.current.specs.Rows.{row_of}
use Rattle.current.specs.Places.{rows_at}
use Rattle.current.specs.Reads.{judging}
use Rattle.current.specs.Table.{rows_of_table}
use Rattle.current.proofs.references.missing.Given as goal

abbrev pub invariant-loop-reference : goal.invariant-loop-reference
invariant-loop-reference l =
    let all = rows_at rows_of_table l.tables in
    let by = λ (references : List ReferenceShape). missing (map (reference_of l.place l.table) references) all l.place (row_of l.row) in
    let cost = λ (digits : ℕ) (references : List ReferenceShape). judging digits all (map (reference_of l.place l.table) references) (row_of l.row) in
    record {
      first : lesser (option_map (λ d. d.number) l.day) (by (drop l.reference-index l.references)) ≡ by l.table.references;
      few : (digits : ℕ) → ((n : ℕ) → length (all n) < 2 ^ digits) → l.count + cost digits (drop l.reference-index l.references) ≤ l.fn.count + cost digits l.table.references;
    }

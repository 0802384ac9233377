use Rattle.std.proofs.Common.{ℕ, ◌+◌, ◌<◌, ◌≤◌, ◌^◌, List, length, map, drop, option_map}
use Rattle.model.specs.Tables.{Row}
use Rattle.rowlaws.specs.Rows.{Has}
use Rattle.rowlaws.specs.Suspects.{rows_losing}
use Rattle.schema.specs.Shape.{ReferenceShape}
use Rattle.sqlread.specs.Meaning.{reference_of}
use Rattle.current.specs.Touched.{removed_in}
use Rattle.current.specs.Orphans.{place_of}
use Rattle.current.specs.Reads.{total, following}
use Rattle.current.specs.Suspects.{rows_by, references_by}
use Rattle.current.proofs.Looking.{LooksTo}
use Rattle.current.proofs.suspects.Search.losing_any.Given as goal

abbrev pub invariant-loop-reference : goal.invariant-loop-reference
invariant-loop-reference l =
    let losing = λ (fs : List ReferenceShape) (r : Row). (f : ReferenceShape) × Has fs f × (row : Row) × Has (removed_in l.touched f.parent) row × Has (rows_losing (reference_of l.self.place l.self.table.now f) (rows_by l.self l.self.place) (rows_by l.self f.parent) row) r in
    let cost = λ (digits : ℕ) (fs : List ReferenceShape). total (λ g. following digits (rows_by l.self) (references_by l.self) g (removed_in l.touched g.parent)) (map (reference_of l.self.place l.self.table.now) fs) in
    record {
      looks : LooksTo l.self (losing l.self.table.now.references) (losing (drop l.reference-index l.references)) (option_map place_of l.fn.before) (option_map place_of l.found);
      few : (digits : ℕ) → ((n : ℕ) → length (rows_by l.self n) < 2 ^ digits) → l.count + cost digits (drop l.reference-index l.references) ≤ l.fn.count + cost digits l.self.table.now.references;
    }

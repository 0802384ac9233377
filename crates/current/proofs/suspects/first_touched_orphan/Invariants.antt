use Rattle.std.proofs.Common.{ℕ, ◌+◌, ◌<◌, ◌≤◌, ◌^◌, None, length, drop}
use Rattle.sqlread.specs.Meaning.{references_from}
use Rattle.sqlchecks.specs.Columns.{Tables}
use Rattle.current.specs.Reads.{checking_from}
use Rattle.current.specs.Places.{rows_at}
use Rattle.current.specs.Table.{rows_of_table}
use Rattle.current.specs.Touched.{removed_in, added_in}
use Rattle.current.specs.Suspects.{IsFirstPicked}
use Rattle.current.proofs.suspects.first_touched_orphan.Given as goal

abbrev pub invariant-loop-place : goal.invariant-loop-place
invariant-loop-place l =
    let all = rows_at rows_of_table l.tables in
    let cost = λ (digits place : ℕ) (ts : Tables). checking_from digits all (removed_in l.touched) (added_in l.touched) place ts in
    record {
      picked : (m : ℕ) → m < l.place → IsFirstPicked (references_from 0 l.schema) (rows_at rows_of_table l.tables) (removed_in l.touched) (added_in l.touched) m None;
      few : (digits : ℕ) → ((n : ℕ) → length (all n) < 2 ^ digits) → l.count + cost digits l.place (drop l.place l.schema) ≤ l.fn.count + cost digits 0 l.schema;
    }

use Rattle.std.proofs.Common.{◌≡◌, List, ◌+◌, ◌≤◌, ◌++◌, drop}
use Rattle.model.specs.declared.entry.Entry.{Entry}
use Rattle.model.specs.Stamps.{TIME_LAST}
use Rattle.sqlread.specs.Meaning.{language_of}
use Rattle.durable.specs.Contents.{items_of}
use Rattle.durable.specs.Rows.{shown_log}
use Rattle.durable.specs.Judging.{Forms, Go}
use Rattle.durable.proofs.judging.log_shown.Given as goal

abbrev pub invariant-each : goal.invariant-each
invariant-each l =
    let tables = language_of l.schema in
    record {
      counted : l.at ≡ l.row-index + 1;
      later : l.least ≤ TIME_LAST + 1;
      on : Forms tables l.top 1 0 0 l.rows → Forms tables l.top l.at l.term l.least (drop l.row-index l.rows);
      read : (rest : List Entry) → drop l.row-index l.rows ≡ shown_log l.at (items_of rest) → Go tables l.top l.term l.least rest
          → (l.rows ≡ shown_log 1 (items_of (l.log.items ++ rest))) × Go tables l.top 0 0 (l.log.items ++ rest);
    }

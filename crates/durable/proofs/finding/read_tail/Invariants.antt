use Rattle.std.proofs.Common.{◌≡◌, length, take, drop, IsTrue, false}
use Rattle.sqlite.specs.State.{HasCleanDisk, IsUnchanged}
use Rattle.sqlite.specs.Held.{state}
use Rattle.durable.specs.Contents.{Contents, entries_in}
use Rattle.durable.specs.Rows.{Holds}
use Rattle.durable.proofs.finding.read_tail.Given as goal

abbrev pub invariant-each : goal.invariant-each
invariant-each g l =
    let old = state g.S.Store l.fn.conn in
    let now = state g.S.Store l.conn in
    record {
      clean : HasCleanDisk now → HasCleanDisk old;
      autocommit : l.fn.conn.in_transaction ≡ false → l.conn.in_transaction ≡ false;
      limit : l.conn.step_limit ≡ l.fn.conn.step_limit;
      same : HasCleanDisk now → (d : Contents) → Holds old.now d → IsTrue old.is_open → IsUnchanged old now;
      read : HasCleanDisk now → (d : Contents) → Holds old.now d → IsTrue old.is_open → l.count ≡ length d.log → l.tail.items ≡ drop l.before (take l.i (entries_in d.log));
    }

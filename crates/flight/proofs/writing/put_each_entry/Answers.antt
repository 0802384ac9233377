use Rattle.std.proofs.Common.{◌<◌, length, arith}
use Rattle.flight.specs.Spelling.{entry_text}
use Rattle.flight.proofs.Adding.{adds_one}
use Rattle.flight.proofs.writing.put_each_entry.Goals as goal

pub loop-entry-preserved : goal.loop-entry-preserved
loop-entry-preserved c =
    let within : c.loop-entry.entry-index < length c.args.entries.now = omega arith in
    adds_one c.args.entries.now c.loop-entry.entry-index c.entry-item.result within c.entry-item.is _ _ _ entry_text c.loop-entry.invariant c.in_ok-put_entry.ensures

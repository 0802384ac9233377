use Rattle.std.proofs.Common.{◌++◌, string_bytes}
use Rattle.std.specs.Prelude.{codes}
use Rattle.looks.specs.Outcomes.{counts, says}
use Rattle.report.specs.Machine.{earlier_tokens}
use Rattle.report.proofs.Adding.{both, closed}
use Rattle.report.proofs.machine.put_earlier.Goals as goal

pub returns : goal.returns
unfolding earlier_tokens
returns c =
    let m = c.args.moment.now in
    let marked = counts (codes "mark") m.mark in
    let node = counts (codes "node") m.node in
    let line = counts (codes "line") m.line in
    let took = says (codes "took") (string_bytes m.words) in
    closed c.end_object.result c.args.writer.now c.begin_object.new.self c.put_text.new.writer c.end_object.new.self (marked ++ (node ++ (line ++ took))) (c.in_ok-begin_object.ensures.room.0, c.in_ok-begin_object.ensures.ok)
    (both c.begin_object.new.self c.put_number.new.writer c.put_text.new.writer marked (node ++ (line ++ took)) (rw c.number-mark.ensures.value at c.in_ok-put_number.ensures)
    (both c.put_number.new.writer c.put_number-2.new.writer c.put_text.new.writer node (line ++ took) c.in_ok-put_number-2.ensures
    (both c.put_number-2.new.writer c.put_number-3.new.writer c.put_text.new.writer line took c.in_ok-put_number-3.ensures (rw c.as_str.ensures.value at c.in_ok-put_text.ensures))))
    c.end_object.ensures

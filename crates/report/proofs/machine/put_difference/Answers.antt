use Rattle.std.proofs.Common.{◌++◌}
use Rattle.std.specs.Prelude.{codes}
use Rattle.std.specs.List.{flat_map}
use Rattle.report.specs.Machine.{array_at, earlier_tokens, extent_tokens, file_tokens, mark_tokens, what_tokens}
use Rattle.report.proofs.Adding.{both, named}
use Rattle.report.proofs.machine.put_difference.Goals as goal

pub returns : goal.returns
returns c =
    let d = c.args.difference.now in
    let file = file_tokens d in
    let at = mark_tokens d in
    let extent = extent_tokens d in
    let what = what_tokens d in
    let earlier = array_at (codes "earlier") (flat_map earlier_tokens d.earlier.items) in
    named c.end_object.result c.args.writer.now c.key.new.self c.begin_object.new.self c.put_all_earlier.new.writer c.end_object.new.self (codes "difference") (file ++ (at ++ (extent ++ (what ++ earlier))))
    (c.in_ok-key.ensures.room.0, c.in_ok-key.ensures.ok) (c.in_ok-begin_object.ensures.room.0, c.in_ok-begin_object.ensures.ok)
    (both c.begin_object.new.self c.put_file.new.writer c.put_all_earlier.new.writer file (at ++ (extent ++ (what ++ earlier))) c.in_ok-put_file.ensures
    (both c.put_file.new.writer c.put_mark.new.writer c.put_all_earlier.new.writer at (extent ++ (what ++ earlier)) c.in_ok-put_mark.ensures
    (both c.put_mark.new.writer c.put_extent.new.writer c.put_all_earlier.new.writer extent (what ++ earlier) c.in_ok-put_extent.ensures
    (both c.put_extent.new.writer c.put_what.new.writer c.put_all_earlier.new.writer what earlier c.in_ok-put_what.ensures (rw c.as_slice.ensures.value at c.in_ok-put_all_earlier.ensures)))))
    c.end_object.ensures

use Rattle.std.proofs.Common.{◌++◌, ◌∷◌, [], length}
use Rattle.std.specs.Prelude.{codes}
use Rattle.json.specs.Token.{key}
use Rattle.looks.specs.Outcomes.{counts, says, is_it, floor_token}
use Rattle.looks.proofs.Adding.{both, then_adds}
use Rattle.looks.proofs.outcomes.put_append.Goals as goal

pub returns : goal.returns
returns c =
    then_adds c.put_number-4.result c.args.writer.now c.put_number-3.new.writer c.put_number-4.new.writer ((((says (codes "kind") (codes "append") ++ counts (codes "term") c.args.term) ++ counts (codes "prev_index") c.args.prev.0) ++ counts (codes "prev_term") c.args.prev.1) ++ counts (codes "commit") c.args.commit) (counts (codes "entries") (length c.args.entries.now)) (both c.args.writer.now c.put_number-2.new.writer c.put_number-3.new.writer (((says (codes "kind") (codes "append") ++ counts (codes "term") c.args.term) ++ counts (codes "prev_index") c.args.prev.0) ++ counts (codes "prev_term") c.args.prev.1) (counts (codes "commit") c.args.commit) (both c.args.writer.now c.put_number.new.writer c.put_number-2.new.writer ((says (codes "kind") (codes "append") ++ counts (codes "term") c.args.term) ++ counts (codes "prev_index") c.args.prev.0) (counts (codes "prev_term") c.args.prev.1) (both c.args.writer.now c.put_kind.new.writer c.put_number.new.writer (says (codes "kind") (codes "append") ++ counts (codes "term") c.args.term) (counts (codes "prev_index") c.args.prev.0) (c.in_ok-put_kind.ensures) (c.in_ok-put_number.ensures)) (c.in_ok-put_number-2.ensures)) (c.in_ok-put_number-3.ensures)) (rw c.count_of-count.ensures at c.put_number-4.ensures)

use Rattle.std.proofs.Common.{◌++◌, ◌∷◌, [], length}
use Rattle.std.specs.Prelude.{codes}
use Rattle.json.specs.Token.{key}
use Rattle.looks.specs.Outcomes.{counts, says, is_it, floor_token}
use Rattle.looks.proofs.Adding.{both, then_adds}
use Rattle.looks.proofs.outcomes.put_reply.Goals as goal

pub returns : goal.returns
returns c =
    then_adds c.put_number.result c.args.writer.now c.put_truth.new.writer c.put_number.new.writer ((says (codes "kind") (codes "reply") ++ counts (codes "term") c.args.term) ++ is_it (codes "ok") c.args.ok) (counts (codes "matched") c.args.matched) (both c.args.writer.now c.put_kind.new.writer c.put_truth.new.writer (says (codes "kind") (codes "reply") ++ counts (codes "term") c.args.term) (is_it (codes "ok") c.args.ok) (c.in_ok-put_kind.ensures) (c.in_ok-put_truth.ensures)) (c.put_number.ensures)

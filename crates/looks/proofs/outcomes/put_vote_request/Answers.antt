use Rattle.std.proofs.Common.{◌++◌, ◌∷◌, [], length}
use Rattle.std.specs.Prelude.{codes}
use Rattle.json.specs.Token.{key}
use Rattle.looks.specs.Outcomes.{counts, says, is_it, floor_token}
use Rattle.looks.proofs.Adding.{both, then_adds}
use Rattle.looks.proofs.outcomes.put_vote_request.Goals as goal

pub returns : goal.returns
returns c =
    then_adds c.put_number-2.result c.args.writer.now c.put_number.new.writer c.put_number-2.new.writer ((says (codes "kind") (codes "votereq") ++ counts (codes "term") c.args.term) ++ counts (codes "last_index") c.args.last_index) (counts (codes "last_term") c.args.last_term) (both c.args.writer.now c.put_kind.new.writer c.put_number.new.writer (says (codes "kind") (codes "votereq") ++ counts (codes "term") c.args.term) (counts (codes "last_index") c.args.last_index) (c.in_ok-put_kind.ensures) (c.in_ok-put_number.ensures)) (c.put_number-2.ensures)

use Rattle.std.proofs.Common.{◌++◌, ◌∷◌, [], length}
use Rattle.std.specs.Prelude.{codes}
use Rattle.json.specs.Token.{key}
use Rattle.looks.specs.Outcomes.{counts, says, is_it, floor_token}
use Rattle.looks.proofs.Adding.{both, then_adds}
use Rattle.looks.proofs.outcomes.put_request.Goals as goal

pub returns : goal.returns
returns c =
    then_adds c.put_number-2.result c.args.writer.now c.put_number.new.writer c.put_number-2.new.writer (counts (codes "client") c.args.client) (counts (codes "request") c.args.number) (rw c.get-client.ensures.value at c.in_ok-put_number.ensures) (rw c.get-request.ensures.value at c.put_number-2.ensures)

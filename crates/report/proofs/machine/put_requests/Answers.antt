use Rattle.std.specs.Prelude.{codes}
use Rattle.looks.specs.Outcomes.{counts}
use Rattle.report.specs.Machine.{requests_tokens}
use Rattle.report.proofs.Adding.{three}
use Rattle.report.proofs.machine.put_requests.Goals as goal

pub returns : goal.returns
unfolding requests_tokens
returns c =
    let s = c.args.settled.now in
    three c.put_number-3.result c.args.writer.now c.put_number.new.writer c.put_number-2.new.writer c.put_number-3.new.writer
    (counts (codes "requests") s.requests) (counts (codes "accepted") s.accepted) (counts (codes "refused") s.refused) c.in_ok-put_number.ensures c.in_ok-put_number-2.ensures c.put_number-3.ensures

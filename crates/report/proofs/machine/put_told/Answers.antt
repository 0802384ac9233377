use Rattle.std.specs.Prelude.{codes}
use Rattle.looks.specs.Outcomes.{counts}
use Rattle.report.specs.Machine.{told_tokens}
use Rattle.report.proofs.Adding.{three}
use Rattle.report.proofs.machine.put_told.Goals as goal

pub returns : goal.returns
unfolding told_tokens
returns c =
    let h = c.args.held.now in
    three c.put_number-3.result c.args.writer.now c.put_number.new.writer c.put_number-2.new.writer c.put_number-3.new.writer
    (counts (codes "taken") h.taken) (counts (codes "outcomes") h.outcomes) (counts (codes "answers") h.answers) c.in_ok-put_number.ensures c.in_ok-put_number-2.ensures c.put_number-3.ensures

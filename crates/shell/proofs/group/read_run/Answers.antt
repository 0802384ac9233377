use Rattle.std.proofs.Common.{map}
use Rattle.flight.specs.Contents.{in_flight}
use Rattle.shell.proofs.Groups.{held}
use Rattle.shell.proofs.group.read_run.Goals as goal

pub returns-clause-ok : goal.returns-clause-ok
returns-clause-ok c =
    let run = c.in_ok-of.field-0 in
    (map in_flight c.in_ok-version.flights.items, c.in_ok-version.ensures.ok, held c.in_ok-version.flights.items run.lives.items run.answers.items c.in_ok-of.ensures.lives c.in_ok-of.ensures.answers)

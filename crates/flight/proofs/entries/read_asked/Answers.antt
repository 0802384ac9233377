use Rattle.flight.proofs.Choices.{asked_closed}
use Rattle.flight.proofs.entries.read_asked.Goals as goal

pub returns-in-Some-clause-only : goal.returns-in-Some-clause-only
returns-in-Some-clause-only c = asked_closed c.args.text.now c.in-Some.rest.now c.in-Some.ensures.some

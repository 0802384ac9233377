use Rattle.sqlchecks.proofs.Days.{instant_is, no_instant}
use Rattle.sqlchecks.proofs.literal.read_instant.Goals as goal

pub returns-in_default : goal.returns-in_default
returns-in_default c = no_instant c.instant_texts.ensures.printed c.args.timestamp.source.now (λ n is h. c.in_default.ensures.every n is h)

pub returns : goal.returns
returns c = instant_is c.instant_texts.ensures.printed c.instant_texts.ensures.one c.args.timestamp.source.now c.in-Ok.instant.microseconds c.in-Ok.instant.in_range c.in-Ok.ensures.prints

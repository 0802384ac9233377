use Rattle.sqlchecks.proofs.Days.{day_is, no_day}
use Rattle.sqlchecks.proofs.literal.read_day.Goals as goal

pub returns-in_default : goal.returns-in_default
returns-in_default c = no_day c.day_texts.ensures.printed c.args.date.source.now (λ n h. c.in_default.ensures.every n h)

pub returns : goal.returns
returns c = day_is c.day_texts.ensures.printed c.day_texts.ensures.one c.args.date.source.now c.in-Ok.day.number c.in-Ok.day.in_range c.in-Ok.ensures.prints

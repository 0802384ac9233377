use Rattle.readerlaws.proofs.Texts.{days_are_named, instants_are_named}
use Rattle.readerlaws.proofs.days_are_named.Goals as goal

pub returns-clause-days : goal.returns-clause-days
returns-clause-days c = days_are_named c.day_texts.ensures.printed c.day_texts.ensures.one

pub returns-clause-instants : goal.returns-clause-instants
returns-clause-instants c = instants_are_named c.instant_texts.ensures.printed c.instant_texts.ensures.one

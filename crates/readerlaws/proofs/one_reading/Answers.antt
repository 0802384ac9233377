use Rattle.readerlaws.proofs.Texts.{one_reading, one_question, one_meaning}
use Rattle.readerlaws.proofs.one_reading.Goals as goal

pub returns-clause-reading : goal.returns-clause-reading
returns-clause-reading c = one_reading c.forms_told.ensures.transaction c.transactions_spelled.ensures.spells c.transactions_spelled.ensures.wrong

pub returns-clause-question : goal.returns-clause-question
returns-clause-question c = one_question c.forms_told.ensures.query

pub returns-clause-meaning : goal.returns-clause-meaning
returns-clause-meaning c = one_meaning c.language_is_spelled.ensures

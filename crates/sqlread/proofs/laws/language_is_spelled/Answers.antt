use Rattle.sqlread.proofs.Reading.{is_language}
use Rattle.sqlread.proofs.laws.language_is_spelled.Goals as goal

pub returns : goal.returns
returns c = is_language c.forms_told.ensures.transaction c.transactions_spelled.ensures.spells c.transactions_spelled.ensures.wrong

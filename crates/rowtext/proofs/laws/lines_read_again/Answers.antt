use Rattle.rowtext.proofs.Lexing.{lines_are_said}
use Rattle.rowtext.proofs.ReadAgain.{read_again, transaction_again}
use Rattle.rowtext.proofs.laws.lines_read_again.Goals as goal

pub returns-clause-tokens : goal.returns-clause-tokens
returns-clause-tokens c = lines_are_said

pub returns-clause-statements : goal.returns-clause-statements
returns-clause-statements c = read_again c.forms_told.ensures.transaction

pub returns-clause-transactions : goal.returns-clause-transactions
returns-clause-transactions c = transaction_again c.forms_told.ensures.transaction

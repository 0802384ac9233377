use Rattle.rowtext.proofs.LiteralsAgain.{literals_again}
use Rattle.rowtext.proofs.ChangesAgain.{comparisons_again, portions_again, assignment_again}
use Rattle.rowtext.proofs.StatementsAgain.{statements_again}
use Rattle.rowtext.proofs.SameAgain.{kept_again, transactions_again}
use Rattle.rowtext.proofs.laws.transactions_read_again.Goals as goal

pub returns-clause-literals : goal.returns-clause-literals
returns-clause-literals c = literals_again

pub returns-clause-comparisons : goal.returns-clause-comparisons
returns-clause-comparisons c = comparisons_again

pub returns-clause-portions : goal.returns-clause-portions
returns-clause-portions c = portions_again

pub returns-clause-assignments : goal.returns-clause-assignments
returns-clause-assignments c = assignment_again

pub returns-clause-statements : goal.returns-clause-statements
returns-clause-statements c = statements_again

pub returns-clause-kept : goal.returns-clause-kept
returns-clause-kept c = kept_again c.transaction_says.ensures.says c.transaction_says.ensures.bounded

pub returns-clause-texts : goal.returns-clause-texts
returns-clause-texts c = transactions_again c.transaction_says.ensures.says c.transaction_says.ensures.bounded

use Rattle.sqlsyntax.proofs.Spells.{spells, wrong}
use Rattle.sqlsyntax.proofs.laws.transactions_spelled.Goals as goal

pub returns-clause-spells : goal.returns-clause-spells
returns-clause-spells c = spells

pub returns-clause-wrong : goal.returns-clause-wrong
returns-clause-wrong c = wrong

use Rattle.readerlaws.proofs.Logs.{past_stays, answers_stay, answer_has_the_rows}
use Rattle.readerlaws.proofs.past_stays.Goals as goal

pub returns-clause-tables : goal.returns-clause-tables
returns-clause-tables c = past_stays

pub returns-clause-answers : goal.returns-clause-answers
returns-clause-answers c = answers_stay

pub returns-clause-rows : goal.returns-clause-rows
returns-clause-rows c = answer_has_the_rows

use Rattle.storecommands.proofs.Texts.{question_is}
use Rattle.storecommands.proofs.text.is_question.Goals as goal

pub returns-then-is_select-clause-no : goal.returns-then-is_select-clause-no
returns-then-is_select-clause-no c = λ q. c.ends_name.ensures.1 (question_is c.args.text.now c.in-Some.word.now c.in-Some.rest.now c.in-Some.ensures.some.0 c.in-Some.ensures.some.1 q).1

pub returns-else-is_select-clause-no : goal.returns-else-is_select-clause-no
returns-else-is_select-clause-no c = λ q. c.is_select.ensures.1 (question_is c.args.text.now c.in-Some.word.now c.in-Some.rest.now c.in-Some.ensures.some.0 c.in-Some.ensures.some.1 q).0

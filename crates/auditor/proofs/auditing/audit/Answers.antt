use Rattle.moments.specs.Behind.{Evidence}
use Rattle.auditor.proofs.JoinedSame.{asks_of, explains_if, first_if, none_if, upholds_if}
use Rattle.auditor.proofs.Upholding.{upheld_if}
use Rattle.auditor.proofs.auditing.audit.Goals as goal

pub returns-clause-ok : goal.returns-clause-ok
returns-clause-ok c = explains_if (asks_of c.questions.ensures) (record { version = c.args.version; tables = c.args.schema.now; lives = c.args.lives.now; answers = c.args.answers.now }) c.explain.result c.explain.ensures.ok

pub returns-clause-no : goal.returns-clause-no
returns-clause-no c = none_if (asks_of c.questions.ensures) (record { version = c.args.version; tables = c.args.schema.now; lives = c.args.lives.now; answers = c.args.answers.now }) c.explain.result c.explain.ensures.fault

pub returns-clause-first : goal.returns-clause-first
returns-clause-first c = first_if (asks_of c.questions.ensures) (record { version = c.args.version; tables = c.args.schema.now; lives = c.args.lives.now; answers = c.args.answers.now }) c.explain.result c.explain.ensures.fault

pub returns-clause-upholds : goal.returns-clause-upholds
returns-clause-upholds c =
    let r : Evidence = record { version = c.args.version; tables = c.args.schema.now; lives = c.args.lives.now; answers = c.args.answers.now } in
    upholds_if (asks_of c.questions.ensures) r c.explain.result (upheld_if c.one_answer.ensures c.one_text.ensures c.agreement.ensures.new r c.explain.result c.explain.ensures.ok)

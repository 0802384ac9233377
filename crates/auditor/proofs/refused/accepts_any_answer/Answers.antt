use Rattle.auditor.specs.Verdict.{evidence_of}
use Rattle.auditor.proofs.Refusing.{no_yes}
use Rattle.auditor.proofs.refused.accepts_any_answer.Goals as goal

pub returns : goal.returns
returns g c =
    no_yes (evidence_of c.args.version c.args.schema.now c.args.records.now.lives.items c.args.records.now.answers.items) c.judge.result g.answer c.requires.1.1.0 c.requires.1.1.1.0 c.requires.1.1.1.1 c.judge.ensures.yes

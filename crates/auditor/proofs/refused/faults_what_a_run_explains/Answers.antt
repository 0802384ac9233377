use Rattle.auditor.proofs.Refusing.{no_other_fault}
use Rattle.auditor.proofs.refused.faults_what_a_run_explains.Goals as goal

pub returns : goal.returns
returns g c =
    no_other_fault (record { version = c.args.version; tables = c.args.schema.now; lives = c.args.lives.now; answers = c.args.answers.now }) g.events c.audit.result c.requires.1.1.0 c.requires.1.1.1 c.audit.ensures.order c.audit.ensures.no

use Rattle.auditor.proofs.Refusing.{if_explained}
use Rattle.auditor.proofs.refused.explains_a_step_by_nothing.Goals as goal

pub returns : goal.returns
returns c = if_explained (record { version = c.args.version; tables = c.args.schema.now; lives = c.args.lives.now; answers = c.args.answers.now }) c.explain.result c.explain.ensures.ok

use Rattle.sqlread.specs.Meaning.{language_of}
use Rattle.current.specs.Current.{schema_in}
use Rattle.apply.proofs.Refusing.{if_ok, no_memory_told}
use Rattle.apply.proofs.refused.wants_memory_as_outcome.Goals as goal

pub returns : goal.returns
returns g c = if_ok c.execute.result _ _ c.execute.ensures.executed (λ o done. no_memory_told (language_of (schema_in c.args.current.now)) c.args.t c.args.text.now g.state o (done g.state c.requires.1.0 c.requires.1.1.0 c.requires.1.1.1).is)

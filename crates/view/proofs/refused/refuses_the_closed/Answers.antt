use Rattle.sqlread.specs.Meaning.{language_of}
use Rattle.sqlread.specs.Shapes.{query_of}
use Rattle.view.specs.Viewing.{schema_seen, seen_by}
use Rattle.view.proofs.Refusing.{refused_closed}
use Rattle.view.proofs.refused.refuses_the_closed.Goals as goal

pub returns : goal.returns
returns c = refused_closed c.ask.result (language_of (schema_seen c.args.view.now)) (query_of c.args.query.now) (seen_by c.args.view.now) (seen_by c.ask.new.self) c.ask.ensures.answers

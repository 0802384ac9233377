use Rattle.sqlread.specs.Meaning.{select_of}
use Rattle.sqlread.specs.Shapes.{query_of}
use Rattle.apply.proofs.Refusing.{never_ok, unclosed}
use Rattle.apply.proofs.refused.answers_the_unclosed.Goals as goal

pub returns : goal.returns
returns g c = never_ok c.ask.result _ c.ask.ensures.ok (λ a ok. unclosed (select_of (query_of c.args.query.now)) c.args.closed ok.0 g.at ok.1 ok.2 c.requires.0 c.requires.1)

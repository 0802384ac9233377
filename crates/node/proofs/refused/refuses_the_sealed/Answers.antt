use Rattle.model.specs.Members.{applied, closed_time}
use Rattle.sqlread.specs.Meaning.{language_of}
use Rattle.sqlread.specs.Shapes.{query_of}
use Rattle.node.specs.Member.{member_of, tables_of}
use Rattle.node.proofs.Refusing.{asked_closed}
use Rattle.node.proofs.refused.refuses_the_sealed.Goals as goal

pub returns : goal.returns
returns g c =
    let now = c.args.node.now in
    asked_closed c.ask.result (language_of (tables_of now)) (query_of c.args.query.now) (applied (member_of now)) (closed_time (member_of now)) g.asked (c.ask.ensures.asked c.requires.1.1.0 c.requires.1.1.1.0) c.requires.1.1.1.1

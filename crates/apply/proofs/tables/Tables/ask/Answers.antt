use Rattle.sqlread.specs.Shapes.{query_of}
use Rattle.apply.proofs.Answered.{asked_of, columns_asked}
use Rattle.apply.proofs.tables.Tables.ask.Goals as goal

pub returns-clause-asked : goal.returns-clause-asked
returns-clause-asked c = λ schema list are stamped.
    asked_of c.log_laws.ensures.later schema (query_of c.args.query.now) list c.args.closed c.args.self.now are stamped c.ask.result c.ask.ensures.ok c.ask.ensures.err

pub returns-clause-columns : goal.returns-clause-columns
returns-clause-columns c = λ schema list are. columns_asked schema list c.args.self.now are c.args.query.now.table c.ask.result c.ask.ensures.columns

use Rattle.sqltokens.specs.declared.token.Keyword.TheVariants as keyword
use Rattle.sqltokens.specs.What.{word}
use Rattle.sqltokens.proofs.Symbols.{a_word}
use Rattle.sqlsyntax.specs.Queries.{term, term_form}
use Rattle.namesyntax.proofs.Shorter.{behind}
use Rattle.sqlsyntax.proofs.LawsQuery.{term_lawful}
use Rattle.sqlsyntax.proofs.query.AnotherTermRepeated.read.Goals as goal

pub returns-clause-shorter : goal.returns-clause-shorter
returns-clause-shorter c =
    behind (word keyword.And) (a_word keyword.And) term term_lawful term_form c.term.result c.args.cursor.now.rest.now c.word.new.cursor.rest.now c.term.new.cursor.rest.now c.in_ok-word.ensures c.term.ensures

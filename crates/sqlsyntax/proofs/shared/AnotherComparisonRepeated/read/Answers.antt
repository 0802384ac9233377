use Rattle.sqltokens.specs.declared.token.Keyword.TheVariants as keyword
use Rattle.sqltokens.specs.What.{word}
use Rattle.sqltokens.proofs.Symbols.{a_word}
use Rattle.sqlsyntax.specs.Shared.{comparison, comparison_form}
use Rattle.namesyntax.proofs.Shorter.{behind}
use Rattle.sqlsyntax.proofs.LawsShared.{comparison_lawful}
use Rattle.sqlsyntax.proofs.shared.AnotherComparisonRepeated.read.Goals as goal

pub returns-clause-shorter : goal.returns-clause-shorter
returns-clause-shorter c =
    behind (word keyword.And) (a_word keyword.And) comparison comparison_lawful comparison_form c.comparison.result c.args.cursor.now.rest.now c.word.new.cursor.rest.now c.comparison.new.cursor.rest.now c.in_ok-word.ensures c.comparison.ensures

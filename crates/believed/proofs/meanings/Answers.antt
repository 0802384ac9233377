use Rattle.sqlread.specs.Meaning.{language_of}
use Rattle.believed.proofs.ReadingSame.{language_now}
use Rattle.believed.proofs.meanings.Goals as goal

pub returns : goal.returns
returns c = λ tables. language_now tables (language_of tables) (c.language_is_spelled.ensures tables)

use Rattle.current.specs.Touched.{removed_of, added_of}
use Rattle.current.proofs.Joined.{rows_at-beyond}
use Rattle.current.proofs.laws.nothing_beyond.Goals as goal

pub returns : goal.returns
returns c = λ touched n past. (rows_at-beyond removed_of touched.tables.items n past, rows_at-beyond added_of touched.tables.items n past)

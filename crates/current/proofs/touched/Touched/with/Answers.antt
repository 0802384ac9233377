use Rattle.current.specs.Touched.{removed_of, added_of}
use Rattle.current.proofs.Tabled.{rows_at-set}
use Rattle.current.proofs.touched.Touched.with.Goals as goal

pub returns-clause-removed : goal.returns-clause-removed
returns-clause-removed c n = rows_at-set removed_of c.args.self.tables.items c.args.table c.args.changes n c.requires

pub returns-clause-added : goal.returns-clause-added
returns-clause-added c n = rows_at-set added_of c.args.self.tables.items c.args.table c.args.changes n c.requires

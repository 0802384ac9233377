use Rattle.std.proofs.Common.{map}
use Rattle.current.specs.Rows.{row_of}
use Rattle.current.specs.Touched.{removed_of, added_of}
use Rattle.current.proofs.Tabled.{rows_at-more}
use Rattle.current.proofs.touched.Touched.add.Goals as goal

pub returns-clause-removed : goal.returns-clause-removed
returns-clause-removed c n =
    rows_at-more removed_of c.args.self.tables.items c.args.table c.index_mut.result.now c.add_rows.new.changes (map row_of c.args.removed.now) c.requires c.index_mut.ensures.value c.in_ok-add_rows.ensures.removed n

pub returns-clause-added : goal.returns-clause-added
returns-clause-added c n =
    rows_at-more added_of c.args.self.tables.items c.args.table c.index_mut.result.now c.add_rows.new.changes (map row_of c.args.added.now) c.requires c.index_mut.ensures.value c.in_ok-add_rows.ensures.added n

use Rattle.std.proofs.Common.{length, sym, ap, ◌∙◌, arith}
use Rattle.current.proofs.Changed.{on_ok}
use Rattle.current.proofs.UndoTables.{tables_undone}
use Rattle.current.proofs.current.Current.undo.Goals as goal

pub returns-clause-ok : goal.returns-clause-ok
returns-clause-ok c =
    let old = c.args.self.now in
    let new = c.undo_tables-undone.new.self in
    let counted = old.counted in
    let count = new.counted ∙ ap length c.undo_tables-undone.ensures.schema ∙ sym counted in
    on_ok c.undo_tables-undone.result
    (λ each. tables_undone c.undo.ensures c.same_rows.ensures old.tables.items new.tables.items c.args.touched.now.tables.items count (omega (arith, c.requires.tables, counted)) (λ n l. each n (omega (arith, l, counted))))
    c.undo_tables-undone.ensures.ok
